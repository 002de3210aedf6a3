-- Which of the forms a line has, where the column of a refusal does not matter.
use Rattle.std.proofs.Common.{◌≡◌, ℕ, true, false, List, ◌++◌, length, drop, is_ok, Ok, Err, codes, Result, sym, refl, ap, ◌∙◌}
use Rattle.std.specs.Result.{result_ok}
use Rattle.std.proofs.lemmas.List.{take-append-drop}
use Rattle.forms.specs.declared.misread.Misread.{Misread}
use Rattle.forms.specs.declared.token.Token.{Token}
use Rattle.forms.specs.Form.{Form, best, follow, word, either}
use Rattle.forms.specs.Place.{Spot, seen, on_line, read_on, word_read, word_left}
use Rattle.forms.proofs.Walks.{no_word, then_word, figure_read}
use Rattle.events.specs.Events.{said, closing_form, correction_form, balance_form}
use Rattle.events.proofs.Steps.{found, missed, begins, stays}

best_first : {X : Type 0} (r : Result X ℕ) (d : ℕ) → result_ok (best r (Err d)) ≡ result_ok r
best_first (Ok x) d = refl
best_first (Err i) d = refl

best_second : {X : Type 0} (d : ℕ) (r : Result X ℕ) → result_ok (best (Err d) r) ≡ result_ok r
best_second d (Ok x) = refl
best_second d (Err i) = refl

-- a form that no text with this front has
abbrev pub Fails : {X : Type 0} → List ℕ → Form X → Type 0
Fails w g = (column : ℕ) (t : List ℕ) → (d : ℕ) × (follow g column (w ++ t) ≡ Err d)

-- a word that was tried, and another form
module _ {X : Type 0} (w : List ℕ) (f g : Form X) (s s' : Spot) (r : Result Token Misread) (read : seen r ≡ read_on s.line (word_read s w)) (after : s' ≡ word_left s w) where
  pub tried_found : Fails w g → is_ok r ≡ true → result_ok (said (either (word w f) g) s) ≡ result_ok (said f s')
  unfolding follow
  tried_found fails ok =
      let m = found r s w read ok in
      let x = (figure_read s.line m.0 _ m.1).0 in
      let none = fails s.column (drop (length w) s.rest) in
      let front : s.rest ≡ w ++ drop (length w) s.rest = sym (take-append-drop (length w) s.rest) ∙ ap (λ (v : List ℕ). v ++ drop (length w) s.rest) (begins s w m.0.figure x) in
      ap (λ (q : Result X ℕ). result_ok (best (said (word w f) s) q)) (ap (follow g s.column) front ∙ none.1)
      ∙ best_first (said (word w f) s) none.0
      ∙ ap result_ok (then_word w f s s' m.0.figure x after)

  pub tried_missed : is_ok r ≡ false → result_ok (said (either (word w f) g) s) ≡ result_ok (said g s')
  unfolding follow
  tried_missed ok =
      let d = missed r s w read ok in
      ap (λ (q : Result X ℕ). result_ok (best q (said g s))) (no_word w f s d.0 d.1)
      ∙ best_second d.0 (said g s)
      ∙ ap (λ (p : Spot). result_ok (said g p)) (sym (after ∙ (stays s w d.0 d.1).2))

-- the line does not matter either
pub ok_said : {X : Type 0} (line : ℕ) (said : Result X ℕ) (r : Result X Misread) → r ≡ on_line line said → result_ok said ≡ result_ok r
ok_said line (Ok x) r is = sym (ap result_ok is)
ok_said line (Err column) r is = sym (ap result_ok is)

-- the forms differ in their first words
pub read_apart : Fails (codes "(read ") (either (word (codes "(close ") closing_form) (either (word (codes "(correct ") correction_form) balance_form))
unfolding follow
read_apart column t = (_, refl)

pub close_apart : Fails (codes "(close ") (either (word (codes "(correct ") correction_form) balance_form)
unfolding follow
close_apart column t = (_, refl)

pub correct_apart : Fails (codes "(correct ") balance_form
unfolding follow
correct_apart column t = (_, refl)
