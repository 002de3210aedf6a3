-- One period of a house: when it is refused, its bills and exact amounts, and the laws that every method keeps.
use Rattle.std.specs.Prelude.{◌≡◌, ℕ, ◌+◌, ◌<◌, ◌≤◌, Bool, true, false, if◌then◌else◌, not, ◌&&◌, ◌||◌, List, [], ◌∷◌, length, is_some, Some, None, sum_by, Option, ◌==◌, nat_lt}
use Rattle.std.specs.List.{AllByRecursion}
use Rattle.fault.specs.declared.reason.Reason.{Reason}
use Rattle.fault.specs.declared.reason.Reason.TheVariants.{FigureTooLarge, CommonFigure, ReadingsAboveTotal, RestUnclaimed}
use Rattle.sharing.specs.Rule.{Shares}
use Rattle.house.specs.declared.method.Method.{Method}
use Rattle.house.specs.declared.method.Method.TheVariants.{Remainder, Stated}
use Rattle.billing.specs.declared.counting.CountedRoom.{CountedRoom}
use Rattle.billing.specs.Counting.{if_read, plain_count, all_area, read_sum, pipe_sum}
use Rattle.billing.specs.Pots.{beside, Both}
use Rattle.billing.specs.Fraction.{Fraction, Within}
use Rattle.billing.specs.Remainder as remainder
use Rattle.billing.specs.Stated as stated

-- a figure that is absent counts as 0
abbrev pub given : Option ℕ → ℕ
given (Some q) = q
given None = 0

abbrev pub some_plain : List CountedRoom → Bool
some_plain rooms = nat_lt 0 (plain_count rooms)

-- whether the common figure comes with the closing
abbrev pub wants_common : Method → List CountedRoom → Bool
wants_common (Remainder common) rooms = false
wants_common (Stated percent) rooms = some_plain rooms

abbrev pub differ : Bool → Bool → Bool
differ true b = not b
differ false b = b

-- what is billed before anything is shared
abbrev pub outlay : Method → List CountedRoom → Option ℕ → ℕ
outlay (Remainder common) rooms q = read_sum rooms
outlay (Stated percent) rooms q = read_sum rooms + pipe_sum rooms + given q

-- whether something is left that nobody has a claim to
abbrev pub unclaimed : Method → List CountedRoom → ℕ → Bool
unclaimed (Remainder common) rooms total = nat_lt 0 (remainder.unread rooms total) && remainder.claiming_area common rooms == 0
unclaimed (Stated percent) rooms total = false

-- the first reason that applies to working a period out, and to closing one
abbrev pub unworkable : Method → List CountedRoom → ℕ → Option ℕ → Option Reason
unworkable method rooms total q =
    if differ (wants_common method rooms) (is_some q) then Some CommonFigure
    else (if nat_lt total (outlay method rooms q) then Some ReadingsAboveTotal
    else (if unclaimed method rooms total then Some RestUnclaimed
    else None))

abbrev pub refusal : Method → List CountedRoom → ℕ → Option ℕ → Option Reason
refusal method rooms total q =
    if nat_lt 100000000 total || nat_lt 100000000 (given q) then Some FigureTooLarge else unworkable method rooms total q

abbrev pub own_heats : Shares → Method → List CountedRoom → ℕ → Option ℕ → List ℕ
own_heats shares (Remainder common) rooms total q = remainder.own_heats shares common rooms total
own_heats shares (Stated percent) rooms total q = stated.own_heats shares percent rooms total q

abbrev pub common_shares : Shares → Method → List CountedRoom → ℕ → Option ℕ → List ℕ
common_shares shares (Remainder common) rooms total q = remainder.common_shares shares common rooms total
common_shares shares (Stated percent) rooms total q = stated.common_shares shares rooms total q

-- what a room is billed: own heat and common share
abbrev pub Bill : Type 0
Bill = ℕ × ℕ

abbrev pub bill : ℕ → ℕ → Bill
bill own common = (own, common)

-- own heat and common share of each room
abbrev pub bills : Shares → Method → List CountedRoom → ℕ → Option ℕ → List Bill
bills shares method rooms total q = beside bill (own_heats shares method rooms total q) (common_shares shares method rooms total q)

abbrev pub figures : Bill → ℕ
figures bill = bill.0 + bill.1

-- of a room that is billed nothing
abbrev pub no_bill : Bill
no_bill = bill 0 0

abbrev pub exact_amounts : Method → List CountedRoom → ℕ → Option ℕ → List Fraction
exact_amounts (Remainder common) rooms total q = remainder.exact_amounts common rooms total
exact_amounts (Stated percent) rooms total q = stated.exact_amounts percent rooms total q

-- the least own heat of a room: its floor where it is read under Stated
abbrev pub floor : Method → List CountedRoom → CountedRoom → ℕ
floor (Remainder common) rooms r = 0
floor (Stated percent) rooms r = if_read r.role (λ _. stated.floor percent rooms r.area) 0

-- own heats of the rooms that are read
abbrev pub read_heats : List CountedRoom → List Bill → ℕ
read_heats [] bs = 0
read_heats (r ∷ rooms) [] = 0
read_heats (r ∷ rooms) (b ∷ bs) = if_read r.role (λ _. b.0) 0 + read_heats rooms bs

abbrev pub stated_percent : Method → ℕ
stated_percent (Remainder common) = 0
stated_percent (Stated percent) = percent

-- what a lawful house has
pub record Lawful (method : Method) (rooms : List CountedRoom) : Type 0 where
  pub some : 0 < length rooms
  pub areas : AllByRecursion (λ (r : CountedRoom). 0 < r.area) rooms
  pub percent : stated_percent method ≤ 100

-- what the bills of a period can be worked out from: a lawful house within the limits, and nothing that speaks against the period
pub record Billable (method : Method) (rooms : List CountedRoom) (total : ℕ) (q : Option ℕ) : Type 0 where
  pub lawful : Lawful method rooms
  pub few : length rooms ≤ 256
  pub areas : all_area rooms ≤ 100000000
  pub small : total ≤ 100000000
  pub accepted : unworkable method rooms total q ≡ None

-- the laws of one period
pub record Laws (method : Method) (rooms : List CountedRoom) (total : ℕ) (q : Option ℕ) (bs : List Bill) : Type 0 where
  pub long : length bs ≡ length rooms
  pub closes : sum_by figures bs ≡ total
  pub near : Both (λ (b : Bill) x. Within 3 (figures b) x) bs (exact_amounts method rooms total q)
  pub floors : Both (λ (r : CountedRoom) (b : Bill). floor method rooms r ≤ b.0) rooms bs
  pub readings : read_heats rooms bs ≡ read_sum rooms
