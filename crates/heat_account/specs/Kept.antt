-- What every account keeps true of its tables.
use Rattle.std.specs.Prelude.{◌≡◌, ℕ, ◌+◌, ◌*◌, ◌≤◌, Bool, true, not, ◌&&◌, length, is_some, nat_lt, slice_index, slice_index_or}
use Rattle.house.specs.Plan.{Plan, lawful}
use Rattle.billing.specs.Period.{figures, given}
use Rattle.heat_account.specs.declared.stage.Stage.{Stage}
use Rattle.heat_account.specs.declared.stage.Stage.TheVariants.{Taking, Correcting}
use Rattle.heat_account.specs.State.{Period, State}
use Rattle.heat_account.specs.Judged.{unamendable}

-- an entry for each room
abbrev pub Long : Plan → State → Type 0
Long plan s =
    (length s.readings ≡ length plan.rooms)
    × (length s.last.readings ≡ length plan.rooms)
    × (length s.bills ≡ length plan.rooms)
    × (length s.balances ≡ length plan.rooms)

-- the figures of the last period within their limit
abbrev pub Small : State → Type 0
Small s = (s.last.total ≤ 100000000) × (given s.last.common ≤ 100000000)

abbrev pub bill_at : State → ℕ → ℕ
bill_at s k = figures (slice_index_or s.bills k (0, 0))

-- a balance has the last bill in it, and beside it no more than the largest total for each closed period
abbrev pub Bounded : State → Type 0
Bounded s =
    (k : ℕ) → (bill_at s k ≤ slice_index s.balances k)
    × (slice_index s.balances k ≤ s.closed * 100000000 + bill_at s k)
    × (bill_at s k ≤ 100000000)

-- a correction that is open is of a closed period, of a room of the house, and can be worked out
abbrev pub stands : Plan → Period → ℕ → Stage → Bool
stands plan last closed Taking = true
stands plan last closed (Correcting place reading) =
    nat_lt 0 closed && (nat_lt place (length plan.rooms) && not (is_some (unamendable plan last place reading)))

abbrev pub clear : Plan → State → Bool
clear plan s = stands plan s.last s.closed s.stage

-- what every account keeps true
pub record Holds (plan : Plan) (s : State) : Type 0 where
  pub lawful : lawful plan.number plan.method plan.rooms ≡ true
  pub long : Long plan s
  pub few : s.closed ≤ 600
  pub small : Small s
  pub bounded : Bounded s
  pub clear : clear plan s ≡ true
