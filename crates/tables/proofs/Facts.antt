-- A write, seen at the front of a list.
use Rattle.std.proofs.Common.{◌≡◌, ℕ, zero, suc, List, [], ◌∷◌, take, set, refl, ap}

-- past the front it is not seen
pub front_set : {X : Type 0} (n : ℕ) (xs : List X) (i : ℕ) (x : X) → take n (set xs i x) ≡ set (take n xs) i x
front_set zero xs i x = refl
front_set (suc n) [] i x = refl
front_set (suc n) (y ∷ xs) zero x = refl
front_set (suc n) (y ∷ xs) (suc i) x = ap (λ v. y ∷ v) (front_set n xs i x)
