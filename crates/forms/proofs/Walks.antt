-- What reading an item gives, and how a form goes on behind it.
use Rattle.std.proofs.Common.{◌≡◌, ℕ, Bool, true, false, cond, eqb, ltb, List, length, Ok, Err, Result, sym, refl, ap, ◌∙◌, arith}
use Rattle.std.specs.Str.Parse.{digits_value}
use Rattle.std.proofs.lemmas.Bool.{cond-true, cond-false}
use Rattle.forms.specs.Form.{Figure, Form, common, numeral_at, follow, word, number, done}
use Rattle.forms.specs.declared.misread.Misread.{Misread}
use Rattle.forms.specs.Place.{Mark, mark, on_line, read_on, Spot, onward, word_read, word_left, number_read, number_left, end_read, numeral, line_says}

ok_not_err : {X : Type 0} {x : X} {e : ℕ} → ◌≡◌ {A = Result X ℕ} (Ok x) (Err e) → ⊥
ok_not_err h = let z : ◌≡◌ {A = ℕ} 0 1 = cc in omega arith

ok_same : {X : Type 0} {x y : X} → ◌≡◌ {A = Result X ℕ} (Ok x) (Ok y) → x ≡ y
ok_same h = cc

err_same : {X : Type 0} {x y : ℕ} → ◌≡◌ {A = Result X ℕ} (Err x) (Err y) → x ≡ y
err_same h = cc

-- a form from a spot on
abbrev pub follows : {X : Type 0} → Form X → Spot → Result X ℕ
follows f s = follow f s.column s.rest

pub then_word : {X : Type 0} (w : List ℕ) (f : Form X) (s s' : Spot) (x : Figure) → Ok x ≡ word_read s w → s' ≡ word_left s w → follows (word w f) s ≡ follows f s'
unfolding follow
then_word w f s s' x ok left = go (ltb (common w s.rest) (length w)) refl where
  go : (t : Bool) → ltb (common w s.rest) (length w) ≡ t → follows (word w f) s ≡ follows f s'
  go true e = absurd (ok_not_err (ok ∙ cond-true _ _ _ e))
  go false e = cond-false _ _ _ e ∙ ap (follows f) (sym (left ∙ cond-false _ _ _ e))

pub no_word : {X : Type 0} (w : List ℕ) (f : Form X) (s : Spot) (column : ℕ) → Err column ≡ word_read s w → follows (word w f) s ≡ Err column
unfolding follow
no_word w f s column err = go (ltb (common w s.rest) (length w)) refl where
  go : (t : Bool) → ltb (common w s.rest) (length w) ≡ t → follows (word w f) s ≡ Err column
  go true e = cond-true _ _ _ e ∙ ap Err (err_same (sym (err ∙ cond-true _ _ _ e)))
  go false e = absurd (ok_not_err (sym (err ∙ cond-false _ _ _ e)))

pub then_number : {X : Type 0} (f : Figure → Form X) (s s' : Spot) (x : Figure) → Ok x ≡ number_read s → s' ≡ number_left s → follows (number f) s ≡ follows (f x) s'
unfolding follow
then_number f s s' x ok left = go (eqb (numeral_at s.rest) 0) refl where
  go : (t : Bool) → eqb (numeral_at s.rest) 0 ≡ t → follows (number f) s ≡ follows (f x) s'
  go true e = absurd (ok_not_err (ok ∙ cond-true _ _ _ e))
  go false e = cond-false _ _ _ e ∙ (let same : x ≡ record { value = digits_value 10 (numeral s.rest); column = s.column } = ok_same (ok ∙ cond-false _ _ _ e) in sym (λ i. follows (f (same i)) (left i)))

pub no_number : {X : Type 0} (f : Figure → Form X) (s : Spot) (column : ℕ) → Err column ≡ number_read s → follows (number f) s ≡ Err column
unfolding follow
no_number f s column err = go (eqb (numeral_at s.rest) 0) refl where
  go : (t : Bool) → eqb (numeral_at s.rest) 0 ≡ t → follows (number f) s ≡ Err column
  go true e = cond-true _ _ _ e ∙ ap Err (err_same (sym (err ∙ cond-true _ _ _ e)))
  go false e = absurd (ok_not_err (sym (err ∙ cond-false _ _ _ e)))

pub then_end : {X : Type 0} (x : X) (s : Spot) → Ok tt ≡ end_read s → follows (done x) s ≡ Ok x
unfolding follow
then_end x s ok = go (eqb (length s.rest) 0) refl where
  go : (t : Bool) → eqb (length s.rest) 0 ≡ t → follows (done x) s ≡ Ok x
  go true e = cond-true _ _ _ e
  go false e = absurd (ok_not_err (ok ∙ cond-false _ _ _ e))

pub no_end : {X : Type 0} (x : X) (s : Spot) (column : ℕ) → Err column ≡ end_read s → follows (done x) s ≡ Err column
unfolding follow
no_end x s column err = go (eqb (length s.rest) 0) refl where
  go : (t : Bool) → eqb (length s.rest) 0 ≡ t → follows (done x) s ≡ Err column
  go true e = absurd (ok_not_err (sym (err ∙ cond-true _ _ _ e)))
  go false e = cond-false _ _ _ e ∙ ap Err (err_same (sym (err ∙ cond-false _ _ _ e)))

pub left_line : (s : Spot) (w : List ℕ) → (word_left s w).line ≡ s.line
left_line s w = go (ltb (common w s.rest) (length w)) where
  go : (t : Bool) → (cond t s (onward s (length w))).line ≡ s.line
  go true = refl
  go false = refl

-- what was read on a line
mark_same : {m n : Mark} → ◌≡◌ {A = Result Mark Misread} (Ok m) (Ok n) → m ≡ n
mark_same h = cc

pub figure_read : (line : ℕ) (m : Mark) (r : Result Figure ℕ) → Ok m ≡ read_on line r → (Ok m.figure ≡ r) × (m ≡ mark line m.figure)
figure_read line m (Ok x) e =
    let same : m ≡ mark line x = mark_same e in
    let figure : m.figure ≡ x = ap (λ (v : Mark). v.figure) same in
    (ap Ok figure, same ∙ ap (mark line) (sym figure))
figure_read line m (Err column) e = absurd (mark_not_stop e) where
  mark_not_stop : {e : Misread} → ◌≡◌ {A = Result Mark Misread} (Ok m) (Err e) → ⊥
  mark_not_stop h = cc

misread_same : {X : Type 0} {e f : Misread} → ◌≡◌ {A = Result X Misread} (Err e) (Err f) → e ≡ f
misread_same h = cc

stop_not_ok : {X : Type 0} {x : X} {e : Misread} → ◌≡◌ {A = Result X Misread} (Err e) (Ok x) → ⊥
stop_not_ok h = cc

pub stop_read : {X : Type 0} (line : ℕ) (e : Misread) (r : Result X ℕ) → Err e ≡ on_line line r → (Err e.column ≡ r) × (record { line = line; column = e.column } ≡ e)
stop_read line e (Ok x) h = absurd (stop_not_ok h)
stop_read line e (Err column) h =
    let same : e ≡ record { line = line; column = column } = misread_same h in
    let here : e.column ≡ column = ap (λ (v : Misread). v.column) same in
    (ap Err here, ap (λ (k : ℕ). record { line = line; column = k }) here ∙ sym same)

pub stop_figure : (line : ℕ) (e : Misread) (r : Result Figure ℕ) → Err e ≡ read_on line r → (Err e.column ≡ r) × (record { line = line; column = e.column } ≡ e)
stop_figure line e (Ok x) h = absurd (stop_not_ok h)
stop_figure line e (Err column) h = stop_read {X = Figure} line e (Err column) (ap Err (misread_same h))

end_line : (line : ℕ) (r : Result (Unit {0}) ℕ) → Ok tt ≡ on_line line r → Ok tt ≡ r
end_line line (Ok u) h = refl
end_line line (Err column) h = absurd (stop_not_ok (sym h))

-- how a line goes on behind an item
pub on_word : {X : Type 0} (w : List ℕ) (f : Form X) (s s' : Spot) (m : Mark) → Ok m ≡ read_on s.line (word_read s w) → s' ≡ word_left s w → line_says (word w f) s ≡ line_says f s'
on_word w f s s' m ok left =
    let there : s.line ≡ s'.line = sym (ap (λ (v : Spot). v.line) left ∙ left_line s w) in
    let on = then_word w f s s' m.figure (figure_read s.line m _ ok).0 left in
    λ i. on_line (there i) (on i)

pub off_word : {X : Type 0} (w : List ℕ) (f : Form X) (s : Spot) (e : Misread) → Err e ≡ read_on s.line (word_read s w) → line_says (word w f) s ≡ Err e
off_word w f s e err = let p = stop_figure s.line e _ err in ap (on_line s.line) (no_word w f s e.column p.0) ∙ ap Err p.1

pub on_number : {X : Type 0} (f : Figure → Form X) (s s' : Spot) (m : Mark) → Ok m ≡ read_on s.line (number_read s) → s' ≡ number_left s → line_says (number f) s ≡ line_says (f m.figure) s'
on_number f s s' m ok left =
    let there : s.line ≡ s'.line = sym (ap (λ (v : Spot). v.line) left) in
    let on = then_number f s s' m.figure (figure_read s.line m _ ok).0 left in
    λ i. on_line (there i) (on i)

pub off_number : {X : Type 0} (f : Figure → Form X) (s : Spot) (e : Misread) → Err e ≡ read_on s.line (number_read s) → line_says (number f) s ≡ Err e
off_number f s e err = let p = stop_figure s.line e _ err in ap (on_line s.line) (no_number f s e.column p.0) ∙ ap Err p.1

pub on_end : {X : Type 0} (x : X) (s : Spot) → Ok tt ≡ on_line s.line (end_read s) → line_says (done x) s ≡ Ok x
on_end x s ok = ap (on_line s.line) (then_end x s (end_line s.line (end_read s) ok))

pub off_end : {X : Type 0} (x : X) (s : Spot) (e : Misread) → Err e ≡ on_line s.line (end_read s) → line_says (done x) s ≡ Err e
off_end x s e err = let p = stop_read s.line e (end_read s) err in ap (on_line s.line) (no_end x s e.column p.0) ∙ ap Err p.1

-- a number behind a word stands in the word's line
pub mark_behind : (w : List ℕ) (s s' : Spot) (m : Mark) → s' ≡ word_left s w → Ok m ≡ read_on s'.line (number_read s') → m ≡ mark s.line m.figure
mark_behind w s s' m left ok =
    (figure_read s'.line m _ ok).1 ∙ ap (λ (n : ℕ). mark n m.figure) (ap (λ (v : Spot). v.line) left ∙ left_line s w)

-- at an exit by `?`
pub exit_is : {X E : Type 0} (r : Result X E) (e : E) → (x : E) × (r ≡ Err x) × (x ≡ e) → r ≡ Err e
exit_is r e p = p.1 ∙ ap Err p.2
