-- What an event does to an account, and what is printed for it.
use Rattle.std.specs.Prelude.{ℕ, ◌+◌, List, [], ◌∷◌, Some, None, Ok, Err, fold, Option, Result}
use Rattle.fault.specs.Numbers.{number}
use Rattle.fault.specs.declared.reason.Reason.{Reason}
use Rattle.fault.specs.declared.reason.Reason.TheVariants.{MalformedLine}
use Rattle.fault.specs.declared.refusal.Fault.{Fault}
use Rattle.sharing.specs.Rule.{Shares}
use Rattle.house.specs.Plan.{Plan}
use Rattle.heat_account.specs.declared.call.Call.{Call}
use Rattle.heat_account.specs.declared.call.Call.TheVariants.{Read, Close, Correct, Book, Withdraw}
use Rattle.heat_account.specs.State.{State}
use Rattle.heat_account.specs.Judged.{judged, by, result_of, after}
use Rattle.heat_account.specs.Changes.{changes}
use Rattle.printing.specs.Printed.{done_line, refused_line, bills_text, changes_text, balances_text}
use Rattle.events.specs.declared.event.Ending.{Ending}
use Rattle.events.specs.declared.event.Ending.TheVariants as endings
use Rattle.events.specs.declared.event.Event.{Event}
use Rattle.events.specs.declared.event.Event.TheVariants as events

-- the call that ends a correction
abbrev pub ending_call : Ending → ℕ → ℕ → Call
ending_call endings.Book house period = Book house period
ending_call endings.Withdraw house period = Withdraw house period

-- a refused correction leaves no slip to end
abbrev pub ending_calls : Plan → State → Result ℕ Reason → Ending → List Call
ending_calls plan s judgement ending = by judgement (λ _. ending_call ending plan.number s.closed ∷ []) (λ _. [])

-- the calls that an event makes
abbrev pub calls_of : Plan → State → Event → List Call
calls_of plan s (events.Read room reading) = Read room reading ∷ []
calls_of plan s (events.Close total common) = Close total common ∷ []
calls_of plan s (events.Correct room reading ending) = Correct room reading ∷ ending_calls plan s (judged plan s (Correct room reading)) ending
calls_of plan s events.Balance = []

abbrev pub after_event : Shares → Plan → State → Event → State
after_event shares plan s event = fold (after shares plan) s (calls_of plan s event)

-- the text of what a call returns, or the line of its refusal
abbrev pub shown : {X : Type 0} → (X → List ℕ) → Result X Fault → List ℕ
shown text (Ok x) = text x
shown text (Err fault) = refused_line (number fault.reason)

-- what is printed for an event; for a correction the changes while it is open, however it ends
abbrev pub printed : Shares → Plan → State → Event → List ℕ
printed shares plan s (events.Read room reading) = shown (λ _. done_line) (result_of plan s (Read room reading) (λ _. tt {0}))
printed shares plan s (events.Close total common) =
    shown (λ _. bills_text plan.rooms (after_event shares plan s (events.Close total common)).bills) (result_of plan s (Close total common) (λ _. s.closed + 1))
printed shares plan s (events.Correct room reading ending) =
    shown (changes_text plan.rooms) (result_of plan s (Correct room reading) (λ _. changes shares plan (after shares plan s (Correct room reading))))
printed shares plan s events.Balance = balances_text plan.rooms s.balances

-- a line that says no event is refused, and makes no call
abbrev pub line_calls : Plan → State → Option Event → List Call
line_calls plan s None = []
line_calls plan s (Some event) = calls_of plan s event

abbrev pub line_after : Shares → Plan → State → Option Event → State
line_after shares plan s None = s
line_after shares plan s (Some event) = after_event shares plan s event

abbrev pub line_printed : Shares → Plan → State → Option Event → List ℕ
line_printed shares plan s None = refused_line (number MalformedLine)
line_printed shares plan s (Some event) = printed shares plan s event
