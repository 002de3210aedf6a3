-- What is printed for the outcome of an event, beside the rooms of the house and what the account then holds.
use Rattle.std.specs.Prelude.{ℕ, List, Ok, Err, Result}
use Rattle.fault.specs.Numbers.{number}
use Rattle.fault.specs.declared.refusal.Fault.{Fault}
use Rattle.house.specs.declared.room.Room.{Room}
use Rattle.heat_account.specs.State.{State}
use Rattle.printing.specs.Printed.{done_line, refused_line, bills_text, changes_text, balances_text}
use Rattle.listing.specs.declared.outcome.Outcome.{Outcome}
use Rattle.listing.specs.declared.outcome.Outcome.TheVariants.{Noted, Closed, Changed, Balanced}

abbrev pub outcome_text : List Room → State → Result Outcome Fault → List ℕ
outcome_text rooms s (Ok Noted) = done_line
outcome_text rooms s (Ok Closed) = bills_text rooms s.bills
outcome_text rooms s (Ok (Changed changes)) = changes_text rooms changes
outcome_text rooms s (Ok Balanced) = balances_text rooms s.balances
outcome_text rooms s (Err fault) = refused_line (number fault.reason)
