-- Lists side by side.
use Rattle.std.proofs.Common.{◌≡◌, ℕ, suc, ◌+◌, ◌-◌, List, [], ◌∷◌, map, length, sum_by, sum, refl, ap, arith}
use Rattle.std.proofs.lemmas.List.Sums.{sum_by-cons}
use Rattle.sharing.specs.Totals.{sum_cons}
use Rattle.billing.specs.Pots.{beside, Both}

module _ {X Y : Type 0} (R : X → Y → Type 0) where
  pub both_length : (xs : List X) (ys : List Y) → Both R xs ys → length ys ≡ length xs
  both_length [] [] h = refl
  both_length [] (y ∷ ys) h = absurd h
  both_length (x ∷ xs) [] h = absurd h
  both_length (x ∷ xs) (y ∷ ys) (_, h) = ap suc (both_length xs ys h)

  pub both_weaker : (S : X → Y → Type 0) → ((x : X) (y : Y) → R x y → S x y) → (xs : List X) (ys : List Y) → Both R xs ys → Both S xs ys
  both_weaker S f [] [] h = tt
  both_weaker S f [] (y ∷ ys) h = absurd h
  both_weaker S f (x ∷ xs) [] h = absurd h
  both_weaker S f (x ∷ xs) (y ∷ ys) (r, h) = (f x y r, both_weaker S f xs ys h)

  -- the entries that a list was made from
  pub both_unmap : {W : Type 0} (f : W → X) (ws : List W) (ys : List Y) → Both R (map f ws) ys → Both (λ w y. R (f w) y) ws ys
  both_unmap f [] [] h = tt
  both_unmap f [] (y ∷ ys) h = absurd h
  both_unmap f (w ∷ ws) [] h = absurd h
  both_unmap f (w ∷ ws) (y ∷ ys) (r, h) = (r, both_unmap f ws ys h)

  -- the other way round, beside a list made from the first
  pub both_turned : {W : Type 0} (f : W → Y) (ws : List W) (xs : List X) → Both (λ w x. R x (f w)) ws xs → Both R xs (map f ws)
  both_turned f [] [] h = tt
  both_turned f [] (x ∷ xs) h = absurd h
  both_turned f (w ∷ ws) [] h = absurd h
  both_turned f (w ∷ ws) (x ∷ xs) (r, h) = (r, both_turned f ws xs h)

-- what holds of two lists beside a third, and so of the two
pub both_through : {X Y Z : Type 0} (R : X → Y → Type 0) (S : X → Z → Type 0) (T : Y → Z → Type 0) → ((x : X) (y : Y) (z : Z) → R x y → S x z → T y z) → (xs : List X) (ys : List Y) (zs : List Z) → Both R xs ys → Both S xs zs → Both T ys zs
both_through R S T each [] [] [] h k = tt
both_through R S T each [] [] (z ∷ zs) h k = absurd k
both_through R S T each [] (y ∷ ys) zs h k = absurd h
both_through R S T each (x ∷ xs) [] zs h k = absurd h
both_through R S T each (x ∷ xs) (y ∷ ys) [] h k = absurd k
both_through R S T each (x ∷ xs) (y ∷ ys) (z ∷ zs) (r, h) (s, k) = (each x y z r s, both_through R S T each xs ys zs h k)

-- what holds of two lists beside a third holds of the list made of both
pub meet : {X A B : Type 0} (R : X → A → Type 0) (S : X → ℕ → Type 0) (T : X → B → Type 0) (f : A → ℕ → B) → ((x : X) (y : A) (n : ℕ) → R x y → S x n → T x (f y n)) → (xs : List X) (ys : List A) (ns : List ℕ) → Both R xs ys → Both S xs ns → Both T xs (beside f ys ns)
meet R S T f each [] [] ns h k = tt
meet R S T f each [] (y ∷ ys) ns h k = absurd h
meet R S T f each (x ∷ xs) [] ns h k = absurd h
meet R S T f each (x ∷ xs) (y ∷ ys) [] h k = absurd k
meet R S T f each (x ∷ xs) (y ∷ ys) (n ∷ ns) (r, h) (s, k) = (each x y n r s, meet R S T f each xs ys ns h k)

-- and of the list made of the third and another
pub become : {X B : Type 0} (R : X → ℕ → Type 0) (T : X → B → Type 0) (f : X → ℕ → B) → ((x : X) (n : ℕ) → R x n → T x (f x n)) → (xs : List X) (ns : List ℕ) → Both R xs ns → Both T xs (beside f xs ns)
become R T f each [] ns h = tt
become R T f each (x ∷ xs) [] h = absurd h
become R T f each (x ∷ xs) (n ∷ ns) (r, h) = (each x n r, become R T f each xs ns h)

-- each number more by a figure of the entry beside it
pub sum_beside : {X : Type 0} (R : X → ℕ → Type 0) (f : X → ℕ → ℕ) (g : X → ℕ) → ((x : X) (n : ℕ) → R x n → f x n ≡ g x + n) → (xs : List X) (ns : List ℕ) → Both R xs ns → sum (beside f xs ns) ≡ sum_by g xs + sum ns
sum_beside R f g each [] [] h = refl
sum_beside R f g each [] (n ∷ ns) h = absurd h
sum_beside R f g each (x ∷ xs) [] h = absurd h
sum_beside R f g each (x ∷ xs) (n ∷ ns) (r, h) =
    let rec = sum_beside R f g each xs ns h in
    omega (arith, sum_cons (f x n) (beside f xs ns), sum_by-cons g x xs, sum_cons n ns, each x n r)

-- what is taken away from each number beside it
pub sum_less : {X : Type 0} (R S : X → ℕ → Type 0) (u v : X → ℕ → ℕ) → ((x : X) (m n : ℕ) → R x m → S x n → u x (m - n) + n ≡ v x m) → (xs : List X) (ms ns : List ℕ) → Both R xs ms → Both S xs ns → sum (beside u xs (beside (λ m n. m - n) ms ns)) + sum ns ≡ sum (beside v xs ms)
sum_less R S u v each [] ms [] h k = refl
sum_less R S u v each [] ms (n ∷ ns) h k = absurd k
sum_less R S u v each (x ∷ xs) [] ns h k = absurd h
sum_less R S u v each (x ∷ xs) (m ∷ ms) [] h k = absurd k
sum_less R S u v each (x ∷ xs) (m ∷ ms) (n ∷ ns) (r, h) (s, k) =
    let rec = sum_less R S u v each xs ms ns h k in
    omega (arith, sum_cons (u x (m - n)) (beside u xs (beside (λ m n. m - n) ms ns)), sum_cons n ns, sum_cons (v x m) (beside v xs ms), each x m n r s)

pub beside_length : {X Y : Type 0} (f : X → ℕ → Y) (xs : List X) (ns : List ℕ) → length (beside f xs ns) ≡ length xs
beside_length f [] ns = refl
beside_length f (x ∷ xs) [] = ap suc (beside_length f xs [])
beside_length f (x ∷ xs) (n ∷ ns) = ap suc (beside_length f xs ns)

pub beside_second : {X : Type 0} (xs : List X) (ns : List ℕ) → length ns ≡ length xs → beside (λ x n. n) xs ns ≡ ns
beside_second [] [] e = refl
beside_second [] (n ∷ ns) e = absurd (omega arith)
beside_second (x ∷ xs) [] e = absurd (omega arith)
beside_second (x ∷ xs) (n ∷ ns) e = ap (λ (v : List ℕ). n ∷ v) (beside_second xs ns (omega arith))

-- a figure of each entry that the number beside it does not change
pub sum_over : {X : Type 0} (u f : X → ℕ → ℕ) (g : X → ℕ) → ((x : X) (n : ℕ) → u x (f x n) ≡ g x) → (xs : List X) (ns : List ℕ) → sum (beside u xs (beside f xs ns)) ≡ sum_by g xs
sum_over u f g each [] ns = refl
sum_over u f g each (x ∷ xs) [] =
    omega (arith, sum_cons (u x (f x 0)) (beside u xs (beside f xs [])), sum_by-cons g x xs, each x 0, sum_over u f g each xs [])
sum_over u f g each (x ∷ xs) (n ∷ ns) =
    omega (arith, sum_cons (u x (f x n)) (beside u xs (beside f xs ns)), sum_by-cons g x xs, each x n, sum_over u f g each xs ns)
