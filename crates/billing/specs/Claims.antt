-- The claims of the rooms to a pot, by what the code hands on of a period.
use Rattle.std.specs.Prelude.{ℕ, ◌-◌, ◌*◌, ◌/◌, ◌≤◌, List, map, length, Some, None, Option}
use Rattle.billing.specs.declared.counting.CountedRoom.{CountedRoom}
use Rattle.billing.specs.declared.floors.Floors.{Floors}
use Rattle.billing.specs.declared.claims.Basis.{Basis}
use Rattle.billing.specs.declared.claims.Basis.TheVariants.{Area, PlainArea, Excess}
use Rattle.billing.specs.Counting.{if_read, if_plain, read_area, read_sum}
use Rattle.billing.specs.Stated.{gross}

-- what the floors of these rooms are worked from
abbrev pub floors : ℕ → List CountedRoom → Floors
floors percent rooms = record { percent = percent; readings = read_sum rooms; area = read_area rooms }

abbrev pub floor_by : Floors → ℕ → ℕ
floor_by f area = f.percent * f.readings * area / (100 * f.area)

abbrev pub surcharge_by : Floors → CountedRoom → ℕ
surcharge_by f r = if_read r.role (λ m. floor_by f r.area - m) 0

abbrev pub excess_by : Floors → CountedRoom → ℕ
excess_by f r = if_read r.role (λ m. m - floor_by f r.area) 0

abbrev pub gross_by : Floors → CountedRoom → ℕ → ℕ
gross_by f r share = gross (surcharge_by f r) r.role share

-- rooms whose floors can be worked out: within the limits
pub record Floored (percent : ℕ) (rooms : List CountedRoom) : Type 0 where
  pub few : length rooms ≤ 256
  pub low : percent ≤ 100
  pub read : read_sum rooms ≤ 100000000
  pub area : read_area rooms ≤ 100000000

-- a room among those that the floors are worked from, within the limits
pub record Among (f : Floors) (r : CountedRoom) : Type 0 where
  pub low : f.percent ≤ 100
  pub small : f.readings ≤ 100000000
  pub part : if_read r.role (λ _. r.area) 0 ≤ f.area
  pub read : if_read r.role (λ m. m) 0 ≤ f.readings

abbrev pub claim : Basis → CountedRoom → Option ℕ
claim Area r = Some r.area
claim PlainArea r = if_plain r.role (Some r.area) None
claim (Excess f) r = if_read r.role (λ _. Some (excess_by f r)) None

abbrev pub claims : Basis → List CountedRoom → List (Option ℕ)
claims basis rooms = map (claim basis) rooms
