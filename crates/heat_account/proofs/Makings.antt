-- What is made of two lists, place by place.
use Rattle.std.proofs.Common.{◌≡◌, ℕ, suc, ◌<◌, List, [], ◌∷◌, ◌++◌, map, length, get_or, ◌⊎◌, inl, inr, refl, ap, subst, append-nil, arith}
use Rattle.billing.specs.Pots.{Both, beside}
use Rattle.heat_account.specs.Pairs.{Made}

module _ {A B C : Type 0} (P : A → B → C → Type 0) where
  -- what is still to be made, put behind what is made already, makes the whole
  abbrev pub Making : List A → List B → List C → List A → List B → Type 0
  Making xs ys made rest-xs rest-ys = (rest : List C) → Made P rest-xs rest-ys rest → Made P xs ys (made ++ rest)

  none_left : (rest-xs : List A) (rest-ys : List B) → (rest-xs ≡ []) ⊎ (rest-ys ≡ []) → Made P rest-xs rest-ys []
  none_left [] rest-ys e = tt
  none_left (x ∷ rest-xs) [] e = tt
  none_left (x ∷ rest-xs) (y ∷ rest-ys) (inl e) = absurd (omega (arith, ap length e))
  none_left (x ∷ rest-xs) (y ∷ rest-ys) (inr e) = absurd (omega (arith, ap length e))

  pub made_all : (xs : List A) (ys : List B) (made : List C) (rest-xs : List A) (rest-ys : List B) → (rest-xs ≡ []) ⊎ (rest-ys ≡ []) → Making xs ys made rest-xs rest-ys → Made P xs ys made
  made_all xs ys made rest-xs rest-ys e making = subst (Made P xs ys) (append-nil made) (making [] (none_left rest-xs rest-ys e))

-- what holds at each place
pub both_at : {A B : Type 0} (P : A → B → Type 0) (dx : A) (dy : B) (xs : List A) (ys : List B) → length ys ≡ length xs → ((k : ℕ) → k < length xs → P (get_or xs k dx) (get_or ys k dy)) → Both P xs ys
both_at P dx dy [] [] e h = tt
both_at P dx dy [] (y ∷ ys) e h = absurd (omega arith)
both_at P dx dy (x ∷ xs) [] e h = absurd (omega arith)
both_at P dx dy (x ∷ xs) (y ∷ ys) e h = (h 0 (omega arith), both_at P dx dy xs ys (omega arith) (λ k l. h (suc k) (omega arith)))

-- balances moved by bills
pub made_beside : {B : Type 0} (f : ℕ → ℕ → ℕ) (of : B → ℕ) (xs : List ℕ) (ys : List B) (zs : List ℕ) → length ys ≡ length xs → Made (λ x y z. z ≡ f x (of y)) xs ys zs → zs ≡ beside f xs (map of ys)
made_beside f of [] [] [] e m = refl
made_beside f of [] [] (z ∷ zs) e m = absurd m
made_beside f of [] (y ∷ ys) zs e m = absurd (omega arith)
made_beside f of (x ∷ xs) [] zs e m = absurd (omega arith)
made_beside f of (x ∷ xs) (y ∷ ys) [] e m = absurd m
made_beside f of (x ∷ xs) (y ∷ ys) (z ∷ zs) e (h, m) = let r = made_beside f of xs ys zs (omega arith) m in cc

-- the same made by another law
pub made_as : {A B C : Type 0} (P Q : A → B → C → Type 0) (xs : List A) (ys : List B) (zs : List C) → ((x : A) (y : B) (z : C) → P x y z → Q x y z) → Made P xs ys zs → Made Q xs ys zs
made_as P Q [] ys [] f m = tt
made_as P Q [] ys (z ∷ zs) f m = absurd m
made_as P Q (x ∷ xs) [] [] f m = tt
made_as P Q (x ∷ xs) [] (z ∷ zs) f m = absurd m
made_as P Q (x ∷ xs) (y ∷ ys) [] f m = absurd m
made_as P Q (x ∷ xs) (y ∷ ys) (z ∷ zs) f (h, m) = (f x y z h, made_as P Q xs ys zs f m)
