-- The largest remainders by a cutoff: those above it, and the earliest of those at it.
use Rattle.std.specs.Prelude.{ℕ, ◌-◌, ◌≤◌, if◌then◌else◌, ◌&&◌, ◌||◌, List, [], ◌∷◌, count_by, ◌==◌, nat_le, nat_lt}

abbrev pub above : ℕ → List ℕ → ℕ
above n xs = count_by (λ x. nat_lt n x) xs

abbrev pub at_least : ℕ → List ℕ → ℕ
at_least n xs = count_by (λ x. nat_le n x) xs

-- a cutoff for so many units: they serve all above it, and those at it take what is then left
pub record Cut (left cutoff : ℕ) (rests : List ℕ) : Type 0 where
  pub fits : above cutoff rests ≤ left
  pub enough : left ≤ at_least cutoff rests

-- the odd unit of a claimant: one above the cutoff, and one at it while units are spare
abbrev pub unit : ℕ → ℕ → ℕ → ℕ
unit cutoff spare rest = if nat_lt cutoff rest || (nat_lt 0 spare && rest == cutoff) then 1 else 0

-- what is then left to spare
abbrev pub spared : ℕ → ℕ → ℕ → ℕ
spared cutoff spare rest = if rest == cutoff then spare - 1 else spare

abbrev pub dealt : ℕ → ℕ → List ℕ → List ℕ
dealt cutoff spare [] = []
dealt cutoff spare (rest ∷ rests) = unit cutoff spare rest ∷ dealt cutoff (spared cutoff spare rest) rests
