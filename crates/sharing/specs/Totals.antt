-- Sums of lists of numbers.
use Rattle.std.specs.Prelude.{◌≡◌, ℕ, ◌+◌, ◌<◌, ◌≤◌, List, ◌∷◌, length, take, sum, slice_index}
use Rattle.std.proofs.Common.{arith}
use Rattle.std.proofs.lemmas.List.Sums.{sum_by-cons, sum_by_more, sum_by-take-le, get_or-le-sum_by}

pub sum_cons : (x : ℕ) (xs : List ℕ) → sum (x ∷ xs) ≡ x + sum xs
sum_cons x xs = sum_by-cons (λ y. y) x xs

-- the sum of a front with one entry more
pub sum_front : (xs : List ℕ) (i s : ℕ) → i < length xs → s ≡ sum (take i xs) → s + slice_index xs i ≡ sum (take (i + 1) xs)
sum_front xs i s h e = omega (arith, sum_by_more (λ x. x) xs i 0 h)

pub sum_front_le : (xs : List ℕ) (i s : ℕ) → i < length xs → s ≡ sum (take i xs) → s + slice_index xs i ≤ sum xs
sum_front_le xs i s h e = omega (arith, sum_front xs i s h e, sum_by-take-le (λ x. x) xs (i + 1))

pub entry_le_sum : (xs : List ℕ) (i : ℕ) → i < length xs → slice_index xs i ≤ sum xs
entry_le_sum xs i h = get_or-le-sum_by (λ x. x) xs i 0 h
