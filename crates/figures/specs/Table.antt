-- The worked figures, each to be had from the definitions alone.
use Rattle.std.specs.Prelude.{◌≡◌, ℕ, List, [], ◌∷◌, map, Some, None, Option}
use Rattle.fault.specs.declared.reason.Reason.{Reason}
use Rattle.fault.specs.declared.reason.Reason.TheVariants.{ReadingsAboveTotal}
use Rattle.sharing.specs.Rule.{Shares}
use Rattle.sharing.specs.Remainders.{remainders}
use Rattle.sharing.specs.Running.{running}
use Rattle.house.specs.declared.method.Method.{Method}
use Rattle.house.specs.declared.method.Method.TheVariants.{Remainder, Stated}
use Rattle.house.specs.declared.room.Kind.{Kind}
use Rattle.house.specs.declared.room.Kind.TheVariants.{Metered, Plain, Detached}
use Rattle.house.specs.declared.room.Room.{Room}
use Rattle.billing.specs.declared.counting.CountedRoom.{CountedRoom}
use Rattle.billing.specs.Counting.{counted}
use Rattle.billing.specs.Period.{bills, figures, refusal}

-- one period of a house: the rooms as they count, the building total and the common figure
pub record Period : Type 0 where
  pub method : Method
  pub rooms : List CountedRoom
  pub total : ℕ
  pub common : Option ℕ

-- the shares of a total by weights; the bills of a period, by own heat and common share or by their sum; why a period is refused
pub data Figure : Type 0 where
  shared : Shares → ℕ → List ℕ → List ℕ → Figure
  billed : Shares → Period → List (ℕ × ℕ) → Figure
  summed : Shares → Period → List ℕ → Figure
  refused : Period → Reason → Figure

abbrev pub period_refusal : Period → Option Reason
period_refusal p = refusal p.method p.rooms p.total p.common

abbrev pub period_bills : Shares → Period → List (ℕ × ℕ)
period_bills rule p = bills rule p.method p.rooms p.total p.common

-- bills count only where the period is accepted
abbrev pub Holds : Figure → Type 0
Holds (shared rule total weights shares) = rule total weights ≡ shares
Holds (billed rule p bs) = (period_refusal p ≡ None) × (period_bills rule p ≡ bs)
Holds (summed rule p sums) = (period_refusal p ≡ None) × (map figures (period_bills rule p) ≡ sums)
Holds (refused p reason) = period_refusal p ≡ Some reason

abbrev pub room : ℕ → Kind → ℕ → Room
room number kind area = record { number = number; area = area; kind = kind }

-- house 7 with the readings 300 and 200
abbrev pub seven : ℕ → Period
seven total = record {
  method = Remainder 3000;
  rooms = counted (room 1 Metered 5000 ∷ room 2 Metered 4000 ∷ room 3 Plain 6000 ∷ []) (Some 300 ∷ Some 200 ∷ None ∷ []);
  total = total;
  common = None;
}

-- house 8 with the readings 100 and 500
abbrev pub eight : ℕ → Period
eight percent = record {
  method = Stated percent;
  rooms = counted (room 1 Metered 5000 ∷ room 2 Metered 5000 ∷ room 3 Plain 4000 ∷ room 4 (Detached 12) 2000 ∷ []) (Some 100 ∷ Some 500 ∷ None ∷ None ∷ []);
  total = 1000;
  common = Some 160;
}

abbrev pub table : List Figure
table =
    shared remainders 2 (1 ∷ 1 ∷ 1 ∷ []) (1 ∷ 1 ∷ 0 ∷ [])
    ∷ shared running 2 (1 ∷ 1 ∷ 1 ∷ []) (0 ∷ 1 ∷ 1 ∷ [])
    ∷ shared remainders 161 (5000 ∷ 4000 ∷ 6000 ∷ []) (54 ∷ 43 ∷ 64 ∷ [])
    ∷ shared running 161 (5000 ∷ 4000 ∷ 6000 ∷ []) (53 ∷ 43 ∷ 65 ∷ [])
    ∷ shared remainders 0 (0 ∷ 0 ∷ []) (0 ∷ 0 ∷ [])
    ∷ shared running 0 (0 ∷ 0 ∷ []) (0 ∷ 0 ∷ [])
    ∷ billed remainders (seven 1000) ((300, 55) ∷ (200, 44) ∷ (334, 67) ∷ [])
    ∷ summed remainders (seven 1000) (355 ∷ 244 ∷ 401 ∷ [])
    ∷ summed remainders (seven 500) (300 ∷ 200 ∷ 0 ∷ [])
    ∷ refused (seven 499) ReadingsAboveTotal
    ∷ billed remainders (eight 50) ((150, 50) ∷ (450, 50) ∷ (228, 40) ∷ (12, 20) ∷ [])
    ∷ billed remainders (eight 100) ((300, 50) ∷ (300, 50) ∷ (228, 40) ∷ (12, 20) ∷ [])
    ∷ []
