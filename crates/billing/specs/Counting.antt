-- How each room counts in a period, and the sums over the rooms.
use Rattle.std.specs.Prelude.{ℕ, true, false, List, [], ◌∷◌, Some, None, sum_by, count_by, Option}
use Rattle.house.specs.declared.room.Kind.{Kind}
use Rattle.house.specs.declared.room.Kind.TheVariants as kinds
use Rattle.house.specs.declared.room.Room.{Room}
use Rattle.billing.specs.declared.counting.Role.{Role}
use Rattle.billing.specs.declared.counting.Role.TheVariants.{Read, Plain, Detached}
use Rattle.billing.specs.declared.counting.CountedRoom.{CountedRoom}
use Rattle.billing.specs.declared.sums.Sums.{Sums}

-- a metered room with a reading is read, and one without counts as plain
abbrev pub role : Kind → Option ℕ → Role
role kinds.Metered (Some m) = Read m
role kinds.Metered None = Plain
role kinds.Plain m = Plain
role (kinds.Detached t) m = Detached t

-- the rooms of a house with the readings of a period beside them
abbrev pub counted : List Room → List (Option ℕ) → List CountedRoom
counted [] ms = []
counted (r ∷ rs) [] = record { area = r.area; role = role r.kind None } ∷ counted rs []
counted (r ∷ rs) (m ∷ ms) = record { area = r.area; role = role r.kind m } ∷ counted rs ms

-- a figure of the rooms that are read, of those that count as plain, and of those that are detached
abbrev pub if_read : {X : Type 0} → Role → (ℕ → X) → X → X
if_read (Read m) x y = x m
if_read Plain x y = y
if_read (Detached t) x y = y

abbrev pub if_plain : {X : Type 0} → Role → X → X → X
if_plain (Read m) x y = y
if_plain Plain x y = x
if_plain (Detached t) x y = y

abbrev pub pipe : Role → ℕ
pipe (Read m) = 0
pipe Plain = 0
pipe (Detached t) = t

-- the areas of all rooms, of those that count as plain and of those that are read, the readings and the pipe figures
abbrev pub all_area : List CountedRoom → ℕ
all_area rooms = sum_by (λ (r : CountedRoom). r.area) rooms

abbrev pub plain_area : List CountedRoom → ℕ
plain_area rooms = sum_by (λ (r : CountedRoom). if_plain r.role r.area 0) rooms

abbrev pub read_area : List CountedRoom → ℕ
read_area rooms = sum_by (λ (r : CountedRoom). if_read r.role (λ _. r.area) 0) rooms

abbrev pub read_sum : List CountedRoom → ℕ
read_sum rooms = sum_by (λ (r : CountedRoom). if_read r.role (λ m. m) 0) rooms

abbrev pub pipe_sum : List CountedRoom → ℕ
pipe_sum rooms = sum_by (λ (r : CountedRoom). pipe r.role) rooms

-- how many rooms count as plain
abbrev pub plain_count : List CountedRoom → ℕ
plain_count rooms = count_by (λ (r : CountedRoom). if_plain r.role true false) rooms

-- the sums that the bills are worked from
abbrev pub sums : List CountedRoom → Sums
sums rooms = record {
  plain_rooms = plain_count rooms;
  plain_area = plain_area rooms;
  read_area = read_area rooms;
  readings = read_sum rooms;
  pipes = pipe_sum rooms;
}
