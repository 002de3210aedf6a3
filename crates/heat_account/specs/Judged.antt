-- Which calls are refused, what is answered, and what the account then holds.
use Rattle.std.specs.Prelude.{ℕ, ◌+◌, Bool, true, false, cond, not, ◌&&◌, List, [], ◌∷◌, Ok, Err, Option, Result, ◌==◌, nat_le, nat_lt, slice_index, slice_index_or}
use Rattle.fault.specs.Numbers.{fault_of}
use Rattle.fault.specs.declared.place.Place.{Place}
use Rattle.fault.specs.declared.place.Place.TheVariants as places
use Rattle.fault.specs.declared.refusal.Fault.{Fault}
use Rattle.fault.specs.declared.reason.Reason.{Reason}
use Rattle.fault.specs.declared.reason.Reason.TheVariants.{UnknownRoom, NotMetered, ReadingTooLarge, CorrectionOpen, PeriodsFull, NothingClosed, SlipMismatch}
use Rattle.sharing.specs.Rule.{Shares}
use Rattle.house.specs.Plan.{Plan}
use Rattle.house.specs.declared.room.Room.{Room}
use Rattle.house.specs.declared.room.Kind.{Kind}
use Rattle.house.specs.declared.room.Kind.TheVariants.{Metered, Plain, Detached}
use Rattle.billing.specs.Counting.{counted}
use Rattle.billing.specs.Period.{refusal, unworkable}
use Rattle.billing.specs.Worked.{ruled}
use Rattle.heat_account.specs.declared.stage.Stage.{Stage}
use Rattle.heat_account.specs.declared.stage.Stage.TheVariants.{Taking, Correcting}
use Rattle.heat_account.specs.declared.call.Call.{Call}
use Rattle.heat_account.specs.declared.call.Call.TheVariants.{Read, Close, Correct, Book, Withdraw, Bill, Balance}
use Rattle.heat_account.specs.declared.answer.Answer.{Answer}
use Rattle.heat_account.specs.declared.answer.Answer.TheVariants.{Done, Closed, Corrected, Billed, Balanced}
use Rattle.heat_account.specs.State.{Period, State, HouseAccount, with_state, reread, moved_on}

-- refused for this reason, unless it does not apply
abbrev pub unless : {X : Type 0} → Bool → Reason → Result X Reason → Result X Reason
unless applies reason r = cond applies (Err reason) r

abbrev pub and_then : {X Y : Type 0} → Result X Reason → (X → Result Y Reason) → Result Y Reason
and_then (Ok x) f = f x
and_then (Err reason) f = Err reason

-- a room of the house with its place, by its number
abbrev pub found_from : List Room → ℕ → ℕ → Result (ℕ × Room) Reason
found_from [] i number = Err UnknownRoom
found_from (r ∷ rooms) i number = cond (r.number == number) (Ok (i, r)) (found_from rooms (i + 1) number)

abbrev pub found : Plan → ℕ → Result (ℕ × Room) Reason
found plan number = found_from plan.rooms 0 number

abbrev pub place_of : Plan → ℕ → Result ℕ Reason
place_of plan number = and_then (found plan number) (λ f. Ok f.0)

-- the place of a room that takes a reading
abbrev pub takes : Kind → ℕ → ℕ → Result ℕ Reason
takes Metered reading place = unless (nat_lt 100000000 reading) ReadingTooLarge (Ok place)
takes Plain reading place = Err NotMetered
takes (Detached pipe) reading place = Err NotMetered

abbrev pub meter_of : Plan → ℕ → ℕ → Result ℕ Reason
meter_of plan number reading = and_then (found plan number) (λ f. takes f.1.kind reading f.0)

abbrev pub correcting : Stage → Bool
correcting Taking = false
correcting (Correcting place reading) = true

-- refused while nothing is being corrected
abbrev pub if_correcting : {X : Type 0} → State → Result X Reason → Result X Reason
if_correcting s r = unless (not (correcting s.stage)) SlipMismatch r

-- why a period cannot be worked out again with another reading
abbrev pub unamendable : Plan → Period → ℕ → ℕ → Option Reason
unamendable plan p place reading = unworkable plan.method (counted plan.rooms (reread p place reading).readings) p.total p.common

-- the place of a room whose late reading the last closed period can be worked out with
abbrev pub amend_of : Plan → State → ℕ → ℕ → Result ℕ Reason
amend_of plan s room reading =
    unless (s.closed == 0) NothingClosed
    (and_then (meter_of plan room reading) (λ place. ruled (unamendable plan s.last place reading) place))

-- a slip fits the correction that is open
abbrev pub fits : Plan → State → ℕ → ℕ → Bool
fits plan s house period = correcting s.stage && (house == plan.number && period == s.closed)

-- the first reason that applies, or the place of the room that the call names, 0 where it names none
abbrev pub judged : Plan → State → Call → Result ℕ Reason
judged plan s (Read room reading) = meter_of plan room reading
judged plan s (Close total common) =
    unless (correcting s.stage) CorrectionOpen
    (unless (nat_le 600 s.closed) PeriodsFull
    (ruled (refusal plan.method (counted plan.rooms s.readings) total common) 0))
judged plan s (Correct room reading) = unless (correcting s.stage) CorrectionOpen (amend_of plan s room reading)
judged plan s (Book house period) = unless (not (fits plan s house period)) SlipMismatch (Ok 0)
judged plan s (Withdraw house period) = unless (not (fits plan s house period)) SlipMismatch (Ok 0)
judged plan s (Bill room) = unless (s.closed == 0) NothingClosed (place_of plan room)
judged plan s (Balance room) = place_of plan room

-- what is answered where nothing speaks against it
abbrev pub told : Plan → State → Call → ℕ → Answer
told plan s (Read room reading) place = Done
told plan s (Close total common) place = Closed (s.closed + 1)
told plan s (Correct room reading) place = Corrected plan.number s.closed
told plan s (Book house period) place = Done
told plan s (Withdraw house period) place = Done
told plan s (Bill room) place = Billed (slice_index_or s.bills place (0, 0)).0 (slice_index_or s.bills place (0, 0)).1
told plan s (Balance room) place = Balanced (slice_index s.balances place)

-- the room that a call names
abbrev pub named : Call → Place
named (Read room reading) = places.Room room
named (Close total common) = places.Nowhere
named (Correct room reading) = places.Room room
named (Book house period) = places.Nowhere
named (Withdraw house period) = places.Nowhere
named (Bill room) = places.Room room
named (Balance room) = places.Room room

abbrev pub by : {X : Type 0} → Result ℕ Reason → (ℕ → X) → (Reason → X) → X
by (Ok place) accepted refused = accepted place
by (Err reason) accepted refused = refused reason

-- a value by its room's place, or why a call is refused and where
abbrev pub returned : {X : Type 0} → Result ℕ Reason → Place → (ℕ → X) → Result X Fault
returned judgement at value = by judgement (λ place. Ok (value place)) (λ reason. Err (fault_of reason at))

-- what a call of its own returns
abbrev pub result_of : {X : Type 0} → Plan → State → Call → (ℕ → X) → Result X Fault
result_of plan s call value = by (judged plan s call) (λ place. Ok (value place)) (λ reason. Err (fault_of reason (named call)))

abbrev pub answer : Plan → State → Call → Result Answer Fault
answer plan s call = result_of plan s call (told plan s call)

-- the same before the reason is told with its place
abbrev pub judged_value : {X : Type 0} → Plan → State → Call → (ℕ → X) → Result X Reason
judged_value plan s call value = and_then (judged plan s call) (λ place. Ok (value place))

abbrev pub judged_answer : Plan → State → Call → Result Answer Reason
judged_answer plan s call = judged_value plan s call (told plan s call)

-- a refused call leaves everything as it was
abbrev pub after : Shares → Plan → State → Call → State
after shares plan s call = by (judged plan s call) (moved_on shares plan s call) (λ _. s)

-- the account after a call
abbrev pub performed : {R : Type 0} → Shares → HouseAccount R → Call → HouseAccount R
performed shares a call = with_state a (after shares a.house a.state call)
