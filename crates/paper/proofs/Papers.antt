-- A paper line by line.
use Rattle.std.proofs.Common.{◌≡◌, ℕ, suc, ◌≤◌, Bool, true, false, cond, eqb, List, [], ◌∷◌, length, Some, None, MatchOption, Option, ap, arith}
use Rattle.forms.specs.Lines.{onto, lines}

pub lines_few : (bs : List ℕ) → length (lines bs) ≤ length bs
lines_few [] = omega arith
lines_few (b ∷ bs) = at_test (eqb b 10) (lines_few bs) where
  onto_few : (ls : List (List ℕ)) → length ls ≤ length bs → length (onto b ls) ≤ suc (length bs)
  onto_few [] h = omega arith
  onto_few (l ∷ ls) h = omega arith

  at_test : (t : Bool) → length (lines bs) ≤ length bs → length (cond t ((b ∷ []) ∷ lines bs) (onto b (lines bs))) ≤ suc (length bs)
  at_test true h = omega arith
  at_test false h = onto_few (lines bs) h

-- one call of `next` leaves no more lines than there were
pub no_more : {A : Type 0} (view : A → List ℕ) (r : Option A) (old new : List (List ℕ)) → MatchOption r ((old ≡ []) × (new ≡ [])) (λ x. old ≡ view x ∷ new) → length new ≤ length old
no_more view None old new h = omega (arith, ap length h.1)
no_more view (Some x) old new h = omega (arith, ap length h)
