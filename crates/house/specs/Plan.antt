-- A house as the account has it, and what it takes.
use Rattle.std.specs.Prelude.{ℕ, ◌+◌, Bool, true, false, cond, not, ◌&&◌, List, [], ◌∷◌, ◌++◌, length, Some, None, Ok, Err, fold, sum_by, Option, Result, nat_le, nat_lt}
use Rattle.fault.specs.declared.layer.Layer.TheVariants as layers
use Rattle.fault.specs.declared.place.Place.TheVariants as places
use Rattle.fault.specs.declared.reason.Reason.{Reason}
use Rattle.fault.specs.declared.reason.Reason.TheVariants.{NumberOutOfRange, TooManyRooms, RoomNotAscending, KindNotTaken, AreasTooLarge}
use Rattle.fault.specs.declared.refusal.Fault.{Fault}
use Rattle.house.specs.declared.method.Method.{Method}
use Rattle.house.specs.declared.method.Method.TheVariants.{Remainder, Stated}
use Rattle.house.specs.declared.room.Kind.{Kind}
use Rattle.house.specs.declared.room.Kind.TheVariants.{Metered, Plain, Detached}
use Rattle.house.specs.declared.room.Room.{Room}

pub record Plan : Type 0 where
  pub number : ℕ
  pub method : Method
  pub rooms : List Room

-- the limits: the areas stand for each area and pipe figure, and for the sum of the areas
abbrev pub most_number : ℕ
most_number = 999999

abbrev pub most_rooms : ℕ
most_rooms = 256

abbrev pub most_area : ℕ
most_area = 100000000

abbrev pub most_percent : ℕ
most_percent = 100

-- a kind's pipe figure: only a detached room has one
abbrev pub pipe_of : Kind → ℕ
pipe_of Metered = 0
pipe_of Plain = 0
pipe_of (Detached pipe) = pipe

abbrev pub is_detached : Kind → Bool
is_detached Metered = false
is_detached Plain = false
is_detached (Detached pipe) = true

abbrev pub common_area : Method → ℕ
common_area (Remainder area) = area
common_area (Stated percent) = 0

-- the remainder of the meters leaves no room out
abbrev pub takes : Method → Kind → Bool
takes (Remainder area) kind = not (is_detached kind)
takes (Stated percent) kind = true

-- the numbers in their ranges
abbrev pub number_fits : ℕ → Bool
number_fits n = nat_lt 0 n && nat_le n most_number

abbrev pub area_fits : ℕ → Bool
area_fits area = nat_lt 0 area && nat_le area most_area

abbrev pub pipe_fits : ℕ → Bool
pipe_fits pipe = nat_le pipe most_area

abbrev pub method_fits : Method → Bool
method_fits (Remainder area) = nat_le area most_area
method_fits (Stated percent) = nat_le percent most_percent

abbrev pub room_fits : Room → Bool
room_fits room =
    number_fits room.number && (nat_lt 0 room.area && nat_le room.area most_area) && nat_le (pipe_of room.kind) most_area

abbrev pub every : (Room → Bool) → List Room → Bool
every test [] = true
every test (room ∷ rooms) = test room && every test rooms

-- each room's number is above the one before, and the first above `before`
abbrev pub ascend_from : ℕ → List Room → Bool
ascend_from before [] = true
ascend_from before (room ∷ rooms) = nat_lt before room.number && ascend_from room.number rooms

-- the number of the last room, or 0
abbrev pub last_number : List Room → ℕ
last_number rooms = fold (λ before room. room.number) 0 rooms

abbrev pub area_sum : List Room → ℕ
area_sum rooms = sum_by (λ room. room.area) rooms

-- whether the rooms may have this area together
abbrev pub areas_fit : Method → ℕ → Bool
areas_fit method areas = nat_le (areas + common_area method) most_area

abbrev pub lawful : ℕ → Method → List Room → Bool
lawful number method rooms =
    number_fits number && method_fits method
    && nat_lt 0 (length rooms) && nat_le (length rooms) most_rooms
    && every room_fits rooms && ascend_from 0 rooms
    && every (λ room. takes method room.kind) rooms
    && areas_fit method (area_sum rooms)

abbrev pub with_room : Plan → Room → Plan
with_room plan room = record { number = plan.number; method = plan.method; rooms = plan.rooms ++ room ∷ [] }

-- the first reason to refuse a room after these, if any
abbrev pub next_refusal : Method → List Room → Room → Option Reason
next_refusal method rooms room =
    cond (not (room_fits room)) (Some NumberOutOfRange)
    (cond (nat_le most_rooms (length rooms)) (Some TooManyRooms)
    (cond (nat_le room.number (last_number rooms)) (Some RoomNotAscending)
    (cond (not (takes method room.kind)) (Some KindNotTaken)
    (cond (not (areas_fit method (area_sum rooms + room.area))) (Some AreasTooLarge)
    None))))

abbrev pub room_refusal : Plan → Room → Option Reason
room_refusal plan room = next_refusal plan.method plan.rooms room

-- a house with no room yet
abbrev pub bare : ℕ → Method → Plan
bare number method = record { number = number; method = method; rooms = [] }

-- the first reason to refuse a house with its first room, if any
abbrev pub begin_refusal : ℕ → Method → Room → Option Reason
begin_refusal number method room =
    cond (not (number_fits number && method_fits method)) (Some NumberOutOfRange)
    (room_refusal (bare number method) room)

-- a refusal stands at the room that came
abbrev pub house_fault : Reason → Room → Fault
house_fault reason room = record { reason = reason; layer = layers.House; place = places.Room room.number }

abbrev pub answer : Option Reason → Room → Result (Unit {0}) Fault
answer None room = Ok tt
answer (Some reason) room = Err (house_fault reason room)

-- what follows: the new plan, or on a refusal the old one
abbrev pub settled : Option Reason → Plan → Plan → Plan
settled None new old = new
settled (Some reason) new old = old

-- the house before any has come: one plain room, of the least area
abbrev pub first_plan : Plan
first_plan = with_room (bare 1 (Remainder 0)) (record { number = 1; area = 1; kind = Plain })
