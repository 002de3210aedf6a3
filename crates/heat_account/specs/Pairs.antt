-- Two lists that stand beside each other, and what is made of them.
use Rattle.std.specs.Prelude.{List, [], ◌∷◌}

-- each value of the third is made of those at its place in the two others, as far as both go
abbrev pub Made : {A B C : Type 0} → (A → B → C → Type 0) → List A → List B → List C → Type 0
Made P [] ys [] = Unit {0}
Made P [] ys (z ∷ zs) = ⊥
Made P (x ∷ xs) [] [] = Unit {0}
Made P (x ∷ xs) [] (z ∷ zs) = ⊥
Made P (x ∷ xs) (y ∷ ys) [] = ⊥
Made P (x ∷ xs) (y ∷ ys) (z ∷ zs) = P x y z × Made P xs ys zs
