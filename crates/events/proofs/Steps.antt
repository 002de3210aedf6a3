-- How a form goes on behind an item, by the cursor that reads it.
use Rattle.std.proofs.Common.{◌≡◌, ℕ, ◌+◌, ◌<◌, Bool, true, false, cond, ltb, ◌≢◌, List, [], ◌∷◌, length, get_or, take, is_ok, IsErrAnd, Ok, Err, Result, sym, refl, ap, ◌∙◌, ⊎_elim, arith}
use Rattle.std.specs.Result.{result_and}
use Rattle.std.proofs.lemmas.Result.{err_from_is_err_and}
use Rattle.std.proofs.lemmas.Bool.{ltb-true, ltb-false}
use Rattle.forms.specs.declared.misread.Misread.{Misread}
use Rattle.forms.specs.declared.token.Token.{Token}
use Rattle.forms.specs.Form.{Figure, Form, common, word, done, either}
use Rattle.forms.specs.Place.{Mark, Spot, mark_of, seen, on_line, read_on, onward, word_read, word_left, end_read, line_says}
use Rattle.forms.proofs.Fronts.{common_full}
use Rattle.forms.proofs.Walks.{no_word, stop_figure, figure_read, on_word, on_end, off_end}
use Rattle.forms.proofs.Choosing.{cond_cases, not_ok, err_is, either_first, either_second, misses}

-- what is said where nothing follows
pub ended : {X : Type 0} (x : X) (s : Spot) → result_and (on_line s.line (end_read s)) (Ok x) ≡ line_says (done x) s
ended {X} x s = go (on_line s.line (end_read s)) refl where
  go : (r : Result (Unit {0}) Misread) → on_line s.line (end_read s) ≡ r → result_and r (Ok x) ≡ line_says (done x) s
  go (Ok u) e = sym (on_end x s (sym e))
  go (Err d) e = sym (off_end x s d (sym e))

-- what the exit of a `?` returns
pub refused : {X E : Type 0} {d : E} {v : Result X E} (r : Result X E) → IsErrAnd r (λ y. y ≡ d) → v ≡ Err d → r ≡ v
refused r e h = let p = err_from_is_err_and r e in p.1 ∙ ap Err p.2 ∙ sym h

-- what `is_ok` tells of a word
module _ (r : Result Token Misread) (s : Spot) (w : List ℕ) (read : seen r ≡ read_on s.line (word_read s w)) where
  pub found : is_ok r ≡ true → (m : Mark) × (Ok m ≡ read_on s.line (word_read s w))
  found ok = at r read ok where
    at : (r : Result Token Misread) → seen r ≡ read_on s.line (word_read s w) → is_ok r ≡ true → (m : Mark) × (Ok m ≡ read_on s.line (word_read s w))
    at (Ok t) e ok = (mark_of t, e)
    at (Err d) e ok = cc

  pub missed : is_ok r ≡ false → (d : ℕ) × (Err d ≡ word_read s w)
  missed ok = at r read ok where
    at : (r : Result Token Misread) → seen r ≡ read_on s.line (word_read s w) → is_ok r ≡ false → (d : ℕ) × (Err d ≡ word_read s w)
    at (Ok t) e ok = cc
    at (Err d) e ok = (d.column, (stop_figure s.line d _ e).0)

module _ (s : Spot) (w : List ℕ) where
  -- a word that was read is the front of the text
  pub begins : (x : Figure) → Ok x ≡ word_read s w → take (length w) s.rest ≡ w
  begins x ok = ⊎_elim (λ h. absurd (not_ok (sym h.1))) (λ h. common_full w s.rest (ltb-false _ _ h.0)) (cond_cases (ltb (common w s.rest) (length w)) (Err (s.column + common w s.rest)) (Ok (record { value = 0; column = s.column })) (Ok x) (sym ok))

  -- a word that was not read, by how far the text follows it; it is left where it was
  pub stays : (d : ℕ) → Err d ≡ word_read s w → (d ≡ s.column + common w s.rest) × (common w s.rest < length w) × (word_left s w ≡ s)
  stays d err =
      ⊎_elim (λ h. (sym (err_is h.1), ltb-true _ _ h.0, ap (λ (t : Bool). cond t s (onward s (length w))) h.0)) (λ h. absurd (not_ok h.1))
      (cond_cases (ltb (common w s.rest) (length w)) (Err (s.column + common w s.rest)) (Ok (record { value = 0; column = s.column })) (Err d) (sym err))

first_is : (w : ℕ) (ws bs : List ℕ) → take (length (w ∷ ws)) bs ≡ w ∷ ws → get_or bs 0 0 ≡ w
first_is w ws [] e = let z : ◌≡◌ {A = ℕ} 0 1 = cc in absurd (omega arith)
first_is w ws (b ∷ bs) e = cc

-- two words, chosen by the next byte
module _ {X : Type 0} (v w : ℕ) (vs ws : List ℕ) (f g : Form X) (s : Spot) where
  pub first_next : v ≢ w → get_or s.rest 0 0 ≡ v → line_says (either (word (v ∷ vs) f) (word (w ∷ ws) g)) s ≡ line_says (word (v ∷ vs) f) s
  first_next other next = ap (on_line s.line) (either_first _ _ _ _ (misses w ws g _ _ (λ l e. other (sym next ∙ e))))

  pub second_next : (0 < length s.rest → get_or s.rest 0 0 ≡ v → ⊥) → line_says (either (word (v ∷ vs) f) (word (w ∷ ws) g)) s ≡ line_says (word (w ∷ ws) g) s
  second_next other = ap (on_line s.line) (either_second _ _ _ _ (misses v vs f _ _ other))

-- two words of one byte, of which the second was tried
module _ {X : Type 0} (v w : ℕ) (f g : Form X) (s s' : Spot) (r : Result Token Misread) (read : seen r ≡ read_on s.line (word_read s (w ∷ []))) (after : s' ≡ word_left s (w ∷ [])) where
  pub second_found : v ≢ w → is_ok r ≡ true → line_says (either (word (v ∷ []) f) (word (w ∷ []) g)) s ≡ line_says g s'
  second_found other ok =
      let m = found r s (w ∷ []) read ok in
      let first = first_is w [] s.rest (begins s (w ∷ []) m.0.figure (figure_read s.line m.0 _ m.1).0) in
      second_next v w [] [] f g s (λ l e. other (sym e ∙ first)) ∙ on_word _ g s s' m.0 m.1 after

  pub second_missed : is_ok r ≡ false → line_says (either (word (v ∷ []) f) (word (w ∷ []) g)) s ≡ line_says (word (v ∷ []) f) s'
  second_missed ok =
      let d = missed r s (w ∷ []) read ok in
      let stay = stays s (w ∷ []) d.0 d.1 in
      let here : d.0 ≡ s.column = omega (arith, stay.0, stay.1) in
      ap (on_line s.line) (either_first _ _ _ _ (no_word _ g s d.0 d.1 ∙ ap Err here)) ∙ sym (ap (line_says (word (v ∷ []) f)) (after ∙ stay.2))
