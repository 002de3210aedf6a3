-- A room's last bill as booked, shared among holders by stake.
use Rattle.std.specs.Prelude.{ℕ, List, length, Ok, Err, Result}
use Rattle.fault.specs.declared.refusal.Fault.{Fault}
use Rattle.sharing.specs.Rule.{Shares}
use Rattle.sharing.specs.Refusal.{refusal, answer, placed}
use Rattle.house.specs.Plan.{Plan}
use Rattle.heat_account.specs.declared.call.Call.TheVariants.{Bill}
use Rattle.heat_account.specs.State.{State}
use Rattle.heat_account.specs.Judged.{result_of}
use Rattle.heat_account.specs.Kept.{bill_at}

-- own heat and common share together, refused as the bill is
abbrev pub figures_of : Plan → State → ℕ → Result ℕ Fault
figures_of plan s room = result_of plan s (Bill room) (λ place. bill_at s place)

-- what is told: `held` is what the caller's place holds
abbrev pub split_told : Result ℕ Fault → List ℕ → List ℕ → Result (Unit {0}) Fault
split_told (Ok total) stakes held = answer (refusal total stakes (length held)) tt
split_told (Err fault) stakes held = Err fault

-- what the place then holds
abbrev pub split_held : Shares → Result ℕ Fault → List ℕ → List ℕ → List ℕ
split_held shares (Ok total) stakes held = placed (refusal total stakes (length held)) (shares total stakes) held
split_held shares (Err fault) stakes held = held
