-- What a correction changes while it is open.
use Rattle.std.specs.Prelude.{◌≡◌, ℕ, List, [], ◌∷◌, get_or, ℤ, pos, ◌+ℤ◌, ◌-ℤ◌, Ok, fold, Result, slice_index, slice_index_or}
use Rattle.fault.specs.declared.place.Place.TheVariants.{Nowhere, Room}
use Rattle.fault.specs.declared.refusal.Fault.{Fault}
use Rattle.sharing.specs.Rule.{Shares}
use Rattle.house.specs.Plan.{Plan}
use Rattle.billing.specs.Period.{figures}
use Rattle.heat_account.specs.declared.call.Call.{Call}
use Rattle.heat_account.specs.State.{State, corrected}
use Rattle.heat_account.specs.Judged.{place_of, if_correcting, returned}
use Rattle.heat_account.specs.Ledger.{Stands}

-- a room's new bill less its old one, own heat and common share together
abbrev pub change : ℕ × ℕ → ℕ × ℕ → ℤ
change old new = pos (figures new) -ℤ pos (figures old)

-- room by room
abbrev pub each_change : List (ℕ × ℕ) → List (ℕ × ℕ) → List ℤ
each_change [] news = []
each_change (old ∷ olds) [] = []
each_change (old ∷ olds) (new ∷ news) = change old new ∷ each_change olds news

-- from the bills as booked to those of the corrected period
abbrev pub changes : Shares → Plan → State → List ℤ
changes shares plan s = each_change s.bills (corrected shares plan s s.stage).bills

-- what is told of all rooms, and of one
abbrev pub changes_told : Shares → Plan → State → Result (List ℤ) Fault
changes_told shares plan s = returned (if_correcting s (Ok 0)) Nowhere (λ _. changes shares plan s)

abbrev pub change_told : Shares → Plan → State → ℕ → Result ℤ Fault
change_told shares plan s room = returned (if_correcting s (place_of plan room)) (Room room) (λ place. get_or (changes shares plan s) place (pos 0))

-- booking moves each balance by its room's change
abbrev pub Moves : Shares → Plan → State → Type 0
Moves shares plan s = (k : ℕ) → pos (slice_index (corrected shares plan s s.stage).balances k) ≡ pos (slice_index s.balances k) +ℤ slice_index_or (changes shares plan s) k (pos 0)

-- the changes add up to nothing, whatever calls went before
abbrev pub Evens : Shares → Plan → State → Type 0
Evens shares plan s = (calls : List Call) → Stands shares plan s calls → fold ◌+ℤ◌ (pos 0) (changes shares plan s) ≡ pos 0
