-- What is promised of every list of calls.
use Rattle.std.specs.Prelude.{◌≡◌, ℕ, ◌*◌, ◌<◌, ◌≤◌, List, [], ◌∷◌, length, replicate, sum_by, sum}
use Rattle.std.specs.List.{AllByRecursion}
use Rattle.sharing.specs.Rule.{Shares}
use Rattle.house.specs.Plan.{Plan}
use Rattle.billing.specs.declared.counting.CountedRoom.{CountedRoom}
use Rattle.billing.specs.Counting.{counted, read_sum}
use Rattle.billing.specs.Pots.{Both}
use Rattle.billing.specs.Fraction.{Fraction, whole, plus, Within}
use Rattle.billing.specs.Period.{exact_amounts, floor, read_heats}
use Rattle.heat_account.specs.State.{Period, period_bills}

abbrev pub added : List Fraction → List Fraction → List Fraction
added [] ys = []
added (x ∷ xs) [] = x ∷ xs
added (x ∷ xs) (y ∷ ys) = plus x y ∷ added xs ys

abbrev pub period_amounts : Plan → Period → List Fraction
period_amounts plan p = exact_amounts plan.method (counted plan.rooms p.readings) p.total p.common

-- for each room the sum of its exact amounts
abbrev pub amounts : Plan → List Period → List Fraction
amounts plan [] = replicate (length plan.rooms) (whole 0)
amounts plan (p ∷ ps) = added (period_amounts plan p) (amounts plan ps)

-- no read room is below its floor, and the read rooms' own heats add up to their readings
pub record Floored (shares : Shares) (plan : Plan) (p : Period) : Type 0 where
  pub floors : Both (λ (r : CountedRoom) (b : ℕ × ℕ). floor plan.method (counted plan.rooms p.readings) r ≤ b.0) (counted plan.rooms p.readings) (period_bills shares plan p)
  pub readings : read_heats (counted plan.rooms p.readings) (period_bills shares plan p) ≡ read_sum (counted plan.rooms p.readings)

-- of the closed periods, each with its readings as closed or last booked, and the balances
pub record Promises (shares : Shares) (plan : Plan) (closed : List Period) (balances : List ℕ) : Type 0 where
  pub closes : sum balances ≡ sum_by (λ (p : Period). p.total) closed
  pub near : 0 < length closed → Both (λ b x. Within (3 * length closed) b x) balances (amounts plan closed)
  pub floors : AllByRecursion (Floored shares plan) closed
