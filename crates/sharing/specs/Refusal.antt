-- When a sharing is refused, and what the caller's place then holds.
use Rattle.std.specs.Prelude.{ℕ, Bool, if◌then◌else◌, ◌&&◌, ◌||◌, List, ◌++◌, length, drop, Some, None, Ok, Err, sum, Option, Result, ◌==◌, nat_lt}
use Rattle.fault.specs.Numbers.{fault_of}
use Rattle.fault.specs.declared.place.Place.TheVariants.{Nowhere}
use Rattle.fault.specs.declared.reason.Reason.{Reason}
use Rattle.fault.specs.declared.reason.Reason.TheVariants.{PlaceTooShort, SharingTooLarge, NoWeight}
use Rattle.fault.specs.declared.refusal.Fault.{Fault}

-- more than 256 claimants, or a total or a sum of weights above 100,000,000
abbrev pub too_large : ℕ → List ℕ → Bool
too_large total weights = nat_lt 256 (length weights) || (nat_lt 100000000 total || nat_lt 100000000 (sum weights))

-- the first reason that applies, if any: `room` is the length of the caller's place
abbrev pub refusal : ℕ → List ℕ → ℕ → Option Reason
refusal total weights room =
    if nat_lt room (length weights) then Some PlaceTooShort
    else if too_large total weights then Some SharingTooLarge
    else if nat_lt 0 total && sum weights == 0 then Some NoWeight
    else None

-- what is answered: the value, or the reason with no place
abbrev pub answer : {X : Type 0} → Option Reason → X → Result X Fault
answer None x = Ok x
answer (Some reason) x = Err (fault_of reason Nowhere)

-- what the place holds: the shares and then what it held, or all that it held
abbrev pub placed : Option Reason → List ℕ → List ℕ → List ℕ
placed None shares held = shares ++ drop (length shares) held
placed (Some reason) shares held = held
