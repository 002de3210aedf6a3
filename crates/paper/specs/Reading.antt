-- What a house paper says, or the first fault in it.
use Rattle.std.specs.Prelude.{ℕ, ◌+◌, cond, not, List, [], ◌∷◌, length, Some, None, Ok, Err, Option, Result, ◌==◌}
use Rattle.fault.specs.Numbers.{fault_of}
use Rattle.fault.specs.declared.place.Place.{Place}
use Rattle.fault.specs.declared.place.Place.TheVariants.{Text}
use Rattle.fault.specs.declared.reason.Reason.{Reason}
use Rattle.fault.specs.declared.reason.Reason.TheVariants.{MalformedLine, NoRoomLine, NumberOutOfRange, TooManyRooms, RoomNotAscending, KindNotTaken}
use Rattle.fault.specs.declared.refusal.Fault.{Fault}
use Rattle.house.specs.Plan.{Plan, bare, with_room, number_fits, area_fits, method_fits, room_refusal}
use Rattle.forms.specs.Form.{follow}
use Rattle.forms.specs.Lines.{lines}
use Rattle.paper.specs.declared.heading.Heading.{Heading}
use Rattle.paper.specs.declared.room_line.RoomLine.{RoomLine}
use Rattle.paper.specs.Lines.{house_form, room_form}

abbrev pub malformed : ℕ → ℕ → Fault
malformed line column = fault_of MalformedLine (Text line column)

-- the paper ends before its first room line
abbrev pub missing : ℕ → Fault
missing line = fault_of NoRoomLine (Text line 1)

-- the house that a first line begins
abbrev pub headed : Result Heading ℕ → Result Plan Fault
headed (Err column) = Err (malformed 1 column)
headed (Ok h) =
    cond (not (number_fits h.number)) (Err (fault_of NumberOutOfRange h.number_at))
    (cond (not (method_fits h.method)) (Err (fault_of NumberOutOfRange h.figure_at))
    (Ok (bare h.number h.method)))

-- the leftmost number of a room line that is out of its range
abbrev pub misfit_at : RoomLine → Place
misfit_at r = cond (not (number_fits r.room.number)) r.number_at (cond (not (area_fits r.room.area)) r.area_at r.pipe_at)

-- where a room line is at fault: the areas pass the limit, if it is nothing else
abbrev pub fault_at : ℕ → RoomLine → Reason → Place
fault_at line r NumberOutOfRange = misfit_at r
fault_at line r TooManyRooms = Text line 1
fault_at line r RoomNotAscending = r.number_at
fault_at line r KindNotTaken = r.kind_at
fault_at line r other = r.area_at

abbrev pub taken : ℕ → Plan → RoomLine → Option Reason → Result Plan Fault
taken line plan r None = Ok (with_room plan r.room)
taken line plan r (Some reason) = Err (fault_of reason (fault_at line r reason))

-- the house with the room of a further line
abbrev pub joined : ℕ → Plan → Result RoomLine ℕ → Result Plan Fault
joined line plan (Err column) = Err (malformed line column)
joined line plan (Ok r) = taken line plan r (room_refusal plan r.room)

abbrev pub and_on : Result Plan Fault → (Plan → Result Plan Fault) → Result Plan Fault
and_on (Ok plan) f = f plan
and_on (Err fault) f = Err fault

abbrev pub rooms_read : ℕ → Plan → List (List ℕ) → Result Plan Fault
rooms_read line plan [] = cond (length plan.rooms == 0) (Err (missing line)) (Ok plan)
rooms_read line plan (l ∷ ls) = and_on (joined line plan (follow (room_form line) 1 l)) (λ more. rooms_read (line + 1) more ls)

abbrev pub lines_read : List (List ℕ) → Result Plan Fault
lines_read [] = Err (missing 1)
lines_read (l ∷ ls) = and_on (headed (follow (house_form 1) 1 l)) (λ plan. rooms_read 2 plan ls)

abbrev pub reading : List ℕ → Result Plan Fault
reading paper = lines_read (lines paper)

-- a first line by the house that it begins
abbrev pub bared : Result Heading Fault → Result Plan Fault
bared (Ok h) = Ok (bare h.number h.method)
bared (Err fault) = Err fault

-- the plan that is then held, unless there is a fault
abbrev pub placed : Result (Unit {0}) Fault → Plan → Result Plan Fault
placed (Ok u) plan = Ok plan
placed (Err fault) plan = Err fault
