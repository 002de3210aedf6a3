-- The first line of a text, and the lines behind it.
use Rattle.std.proofs.Common.{◌≡◌, ℕ, suc, ◌+◌, ◌<◌, min, Bool, true, false, not, cond, eqb, ltb, List, [], ◌∷◌, length, take, drop, Some, None, Option, sym, refl, ap, ◌∙◌, arith}
use Rattle.std.proofs.lemmas.Bool.{ltb-true, ltb-false, eqb-false}
use Rattle.std.specs.List.{position, position_or_len}
use Rattle.forms.specs.Lines.{onto, lines, line_length}

abbrev is_end : ℕ → Bool
is_end b = eqb b 10

-- the first line ends behind the first byte that ends one, or with the text
line_by_end : (bs : List ℕ) → line_length bs ≡ min (position_or_len is_end bs + 1) (length bs)
line_by_end [] = refl
line_by_end (b ∷ bs) = at_test (eqb b 10) (line_by_end bs) where
  at_test : (t : Bool) → line_length bs ≡ min (position_or_len is_end bs + 1) (length bs) → cond t 1 (suc (line_length bs)) ≡ min (cond (not t) (1 + position_or_len is_end bs) 0 + 1) (suc (length bs))
  at_test true on = omega arith
  at_test false on = omega arith

module _ (bs : List ℕ) (found : Option ℕ) (is : found ≡ position is_end bs) where
  at_end : (end : ℕ) (t : Bool) → ltb (position_or_len is_end bs) (length bs) ≡ t → Some end ≡ cond t (Some (position_or_len is_end bs)) None → end + 1 ≡ line_length bs
  at_end end true e some = let same : end ≡ position_or_len is_end bs = cc in omega (arith, line_by_end bs, ltb-true _ _ e)
  at_end end false e some = cc

  pub line_to : (end : ℕ) → found ≡ Some end → end + 1 ≡ line_length bs
  line_to end some = at_end end _ refl (sym some ∙ is)

  at_none : (t : Bool) → ltb (position_or_len is_end bs) (length bs) ≡ t → None ≡ cond t (Some (position_or_len is_end bs)) None → length bs ≡ line_length bs
  at_none true e none = cc
  at_none false e none = omega (arith, line_by_end bs, ltb-false _ _ e)

  pub line_all : found ≡ None → length bs ≡ line_length bs
  line_all none = at_none _ refl (sym none ∙ is)

first_from : (b : ℕ) (bs : List ℕ) (t : Bool) → ((0 < length bs → lines bs ≡ take (line_length bs) bs ∷ lines (drop (line_length bs) bs))) → cond t ((b ∷ []) ∷ lines bs) (onto b (lines bs)) ≡ take (cond t 1 (suc (line_length bs))) (b ∷ bs) ∷ lines (drop (cond t 1 (suc (line_length bs))) (b ∷ bs))
first_from b bs true h = refl
first_from b [] false h = refl
first_from b (c ∷ bs) false h = ap (onto b) (h (omega arith))

pub first_line : (bs : List ℕ) → 0 < length bs → lines bs ≡ take (line_length bs) bs ∷ lines (drop (line_length bs) bs)
first_line [] h = absurd (omega arith)
first_line (b ∷ bs) h = first_from b bs (eqb b 10) (first_line bs)

pub next_line : (text line others : List ℕ) (n : ℕ) → line ≡ take n text → others ≡ drop n text → n ≡ line_length text → eqb (length text) 0 ≡ false → lines text ≡ line ∷ lines others
next_line text line others n front back is some =
    first_line text (omega (arith, eqb-false (length text) 0 some)) ∙ sym (λ i. (front ∙ ap (λ k. take k text) is) i ∷ lines ((back ∙ ap (λ k. drop k text) is) i))

-- a first line is not empty
pub line_some : (bs : List ℕ) → 0 < length bs → 0 < line_length bs
line_some bs some = omega (arith, line_by_end bs)
