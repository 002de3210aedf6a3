-- Lists that chains give: what collect makes of one, and the spec's words for what a chain says by `map`, `zip` and `filter_map`.
use Rattle.std.proofs.Common.{◌≡◌, ℕ, ◌<◌, List, [], ◌∷◌, map, length, get_or, Some, None, Option, sym, refl, ap, ◌∙◌, subst, arith}
use Rattle.std.specs.Iterator.{Drains}
use Rattle.std.specs.List.{AllByRecursion, filter_map, zip}
use Rattle.std.proofs.ByRecursion.{All-get_or}
use Rattle.std.proofs.lemmas.Iterator.{YieldsList, items_from_drains}
use Rattle.std.proofs.lemmas.List.Folds.{map_fixed}
use Rattle.billing.specs.Pots.{weights, beside, Both}

pub collected : {S A : Type 0} {steps : S → Option A → S → Type 0} {s : S} {all : List A} (xs : List A) → Drains steps s xs → YieldsList steps (λ x. x) s all → xs ≡ all
collected xs d gives =
    sym (map_fixed (λ x. x) xs (λ k d h. refl)) ∙ items_from_drains xs (d.1.0, d.1.1, λ _. (d.0, d.1.2)) gives

pub weights_given : (claims : List (Option ℕ)) → filter_map (λ claim. claim) claims ≡ weights claims
weights_given [] = refl
weights_given (None ∷ claims) = weights_given claims
weights_given (Some w ∷ claims) = ap (λ v. w ∷ v) (weights_given claims)

beside_given : {X Y : Type 0} (f : X → ℕ → Y) (xs : List X) (ns : List ℕ) → length ns ≡ length xs → map (λ (p : X × ℕ). f p.0 p.1) (zip xs ns) ≡ beside f xs ns
beside_given f [] ns e = refl
beside_given f (x ∷ xs) [] e = absurd (omega arith)
beside_given f (x ∷ xs) (n ∷ ns) e = ap (λ v. f x n ∷ v) (beside_given f xs ns (omega arith))

pub collected_beside : {X Y S : Type 0} {steps : S → Option Y → S → Type 0} {s : S} (f : X → ℕ → Y) (xs : List X) (ns : List ℕ) → length ns ≡ length xs → (ys : List Y) → Drains steps s ys → YieldsList steps (λ y. y) s (map (λ (p : X × ℕ). f p.0 p.1) (zip xs ns)) → ys ≡ beside f xs ns
collected_beside f xs ns same ys d gives = collected ys d gives ∙ beside_given f xs ns same

-- what holds of each entry, of one at its place
pub at_place : {X : Type 0} (P : X → Type 0) (xs : List X) → AllByRecursion P xs → (x : X) (k : ℕ) → k < length xs → x ≡ get_or xs k x → P x
at_place P xs all x k h is = subst P (sym is) (All-get_or P xs k x h all)

-- and of the pairs of two lists
pub all_first : {X Y : Type 0} (P : X → Type 0) (xs : List X) (ys : List Y) → AllByRecursion P xs → AllByRecursion (λ (p : X × Y). P p.0) (zip xs ys)
all_first P [] ys h = tt
all_first P (x ∷ xs) [] h = tt
all_first P (x ∷ xs) (y ∷ ys) (p, h) = (p, all_first P xs ys h)

pub all_pairs : {X Y : Type 0} (R : X → Y → Type 0) (xs : List X) (ys : List Y) → Both R xs ys → AllByRecursion (λ (p : X × Y). R p.0 p.1) (zip xs ys)
all_pairs R [] ys h = tt
all_pairs R (x ∷ xs) [] h = tt
all_pairs R (x ∷ xs) (y ∷ ys) (r, h) = (r, all_pairs R xs ys h)
