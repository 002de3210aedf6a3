-- What the answer to a sharing tells.
use Rattle.std.proofs.Common.{◌≡◌, ℕ, ◌<◌, ◌≤◌, List, ◌++◌, length, take, drop, Some, None, Ok, sum, Option, refl, ap, ◌∙◌, arith}
use Rattle.std.proofs.lemmas.List.{take_at}
use Rattle.std.proofs.lemmas.Bool.Decides.{nat_tests}
use Rattle.fault.specs.declared.reason.Reason.{Reason}
use Rattle.sharing.specs.Refusal.{refusal, answer, placed}

-- the limits of an accepted sharing: `all` is the sum of the weights
pub record WithinLimits (total : ℕ) (weights : List ℕ) (all : ℕ) : Type 0 where
  pub few : length weights ≤ 256
  pub small : total ≤ 100000000
  pub light : all ≤ 100000000
  pub summed : all ≡ sum weights
  pub weighed : 0 < total → 0 < all

pub within_limits : (total : ℕ) (weights : List ℕ) (room : ℕ) → refusal total weights room ≡ None → WithinLimits total weights (sum weights)
within_limits total weights room e = record {
  few = grind (arith, nat_tests);
  small = grind (arith, nat_tests);
  light = grind (arith, nat_tests);
  summed = refl;
  weighed = λ h. grind (arith, nat_tests);
}

-- the place takes the shares of a sharing that is not refused
pub place_fits : (total : ℕ) (weights : List ℕ) (room : ℕ) → refusal total weights room ≡ None → length weights ≤ room
place_fits total weights room e = grind (arith, nat_tests)

-- a sharing within the limits is not refused
pub accepted : (total : ℕ) (weights : List ℕ) (room : ℕ) → length weights ≤ room → length weights ≤ 256 → total ≤ 100000000 → sum weights ≤ 100000000 → (0 < total → 0 < sum weights) → refusal total weights room ≡ None
accepted total weights room a b c d e = grind (arith, nat_tests)

pub ok_is_none : {X : Type 0} (o : Option Reason) (x y : X) → answer o x ≡ Ok y → (o ≡ None) × (x ≡ y)
ok_is_none None x y e = (refl, cc)
ok_is_none (Some r) x y e = let z : ◌≡◌ {A = ℕ} 0 1 = cc in absurd (omega arith)

-- what an accepted sharing leaves in the place
pub placed_of_ok : {X : Type 0} (o : Option Reason) (x y : X) (place shares old : List ℕ) → answer o x ≡ Ok y → place ≡ shares ++ drop (length shares) old → place ≡ placed o shares old
placed_of_ok None x y place shares old e h = h
placed_of_ok (Some r) x y place shares old e h = let z : ◌≡◌ {A = ℕ} 0 1 = cc in absurd (omega arith)

-- the front of the place holds the shares
pub placed_front : (o : Option Reason) (shares old : List ℕ) (n : ℕ) → o ≡ None → length shares ≡ n → take n (placed o shares old) ≡ shares
placed_front o shares old n e l =
    ap (λ v. take n (placed v shares old)) e ∙ take_at shares (drop (length shares) old) n l
