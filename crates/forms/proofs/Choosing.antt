-- Which part of a choice a text follows, and between which columns it stops.
use Rattle.std.proofs.Common.{◌≡◌, ℕ, ◌+◌, ◌<◌, ◌≤◌, max, Bool, true, false, cond, eqb, ltb, ◌⊎◌, List, ◌∷◌, length, get_or, take, drop, Ok, Err, Result, sym, refl, ap, ◌∙◌, inl, inr, ⊎_elim, arith, length-drop}
use Rattle.std.specs.Str.Parse.{digits_value}
use Rattle.std.proofs.lemmas.Bool.{cond-true, lt-ltb, ltb-false}
use Rattle.forms.specs.Form.{Figure, Form, common, numeral_at, best, follow, word, number, done, mark, either}
use Rattle.forms.proofs.Fronts.{common_off, common_within, numeral_length}

pub cond_cases : {A : Type 0} (t : Bool) (x y z : A) → cond t x y ≡ z → ((t ≡ true) × (x ≡ z)) ⊎ ((t ≡ false) × (y ≡ z))
cond_cases true x y z e = inl (refl, e)
cond_cases false x y z e = inr (refl, e)

pub not_ok : {X : Type 0} {x : X} {c : ℕ} → ◌≡◌ {A = Result X ℕ} (Ok x) (Err c) → ⊥
not_ok h = let z : ◌≡◌ {A = ℕ} 0 1 = cc in omega arith

pub err_is : {X : Type 0} {a c : ℕ} → ◌≡◌ {A = Result X ℕ} (Err a) (Err c) → a ≡ c
err_is h = cc

-- a choice fails where both parts do, at the further column
pub best_err : {X : Type 0} (r s : Result X ℕ) (c : ℕ) → best r s ≡ Err c → (i : ℕ) × (j : ℕ) × (r ≡ Err i) × (s ≡ Err j) × (max i j ≡ c)
best_err (Ok x) s c e = absurd (not_ok e)
best_err (Err i) (Ok y) c e = absurd (not_ok e)
best_err (Err i) (Err j) c e = (i, j, refl, refl, err_is e)

pub best_ok : {X : Type 0} (r s : Result X ℕ) (x : X) → best r s ≡ Ok x → (r ≡ Ok x) ⊎ (s ≡ Ok x)
best_ok (Ok y) s x e = inl e
best_ok {X = X} (Err i) s x e = inr (second s e) where
  second : (s : Result X ℕ) → best (Err i) s ≡ Ok x → s ≡ Ok x
  second (Ok y) e = e
  second (Err j) e = absurd (not_ok (sym e))

-- the column at which a text stops lies within it, or one past it
pub follow_ge : {X : Type 0} (f : Form X) (column : ℕ) (bs : List ℕ) (c : ℕ) → follow f column bs ≡ Err c → (column ≤ c) × (c ≤ column + length bs)
unfolding follow
follow_ge (done x) column bs c e =
    ⊎_elim (λ h. absurd (not_ok h.1)) (λ h. let same = err_is h.1 in (omega arith, omega arith)) (cond_cases (eqb (length bs) 0) (Ok x) (Err column) (Err c) e)
follow_ge (word w f) column bs c e =
    let far = common_within w bs in
    ⊎_elim
    (λ h. let same = err_is h.1 in (omega arith, omega arith))
    (λ h. let on = follow_ge f (column + length w) (drop (length w) bs) c h.1 in
    let l = ltb-false _ _ h.0 in
    let d = length-drop (length w) bs in
    (omega arith, omega arith))
    (cond_cases (ltb (common w bs) (length w)) (Err (column + common w bs)) (follow f (column + length w) (drop (length w) bs)) (Err c) e)
follow_ge (number f) column bs c e =
    let within = numeral_length bs in
    let figure : Figure = record { value = digits_value 10 (take (numeral_at bs) bs); column = column } in
    ⊎_elim
    (λ h. let same = err_is h.1 in (omega arith, omega arith))
    (λ h. let on = follow_ge (f figure) (column + numeral_at bs) (drop (numeral_at bs) bs) c h.1 in
    let d = length-drop (numeral_at bs) bs in
    (omega arith, omega arith))
    (cond_cases (eqb (numeral_at bs) 0) (Err column) (follow (f figure) (column + numeral_at bs) (drop (numeral_at bs) bs)) (Err c) e)
follow_ge (mark f) column bs c e = follow_ge (f column) column bs c e
follow_ge (either f g) column bs c e =
    let b = best_err (follow f column bs) (follow g column bs) c e in
    let l = follow_ge f column bs b.0 b.2 in
    let r = follow_ge g column bs b.1 b.3 in
    let m = b.4 in
    (omega arith, omega arith)

best_first : {X : Type 0} (r : Result X ℕ) (column : ℕ) → ((c : ℕ) → r ≡ Err c → column ≤ c) → best r (Err column) ≡ r
best_first (Ok x) column h = refl
best_first (Err i) column h = let l = h i refl in ap Err (omega arith)

best_second : {X : Type 0} (r : Result X ℕ) (column : ℕ) → ((c : ℕ) → r ≡ Err c → column ≤ c) → best (Err column) r ≡ r
best_second (Ok x) column h = refl
best_second (Err i) column h = let l = h i refl in ap Err (omega arith)

-- where the second part fails at once, a choice is its first part
pub either_first : {X : Type 0} (f g : Form X) (column : ℕ) (bs : List ℕ) → follow g column bs ≡ Err column → follow (either f g) column bs ≡ follow f column bs
unfolding follow
either_first f g column bs e = ap (best (follow f column bs)) e ∙ best_first (follow f column bs) column (λ c h. (follow_ge f column bs c h).0)

-- where the first part fails at once, a choice is its second part
pub either_second : {X : Type 0} (f g : Form X) (column : ℕ) (bs : List ℕ) → follow f column bs ≡ Err column → follow (either f g) column bs ≡ follow g column bs
unfolding follow
either_second {X = X} f g column bs e = ap (λ (r : Result X ℕ). best r (follow g column bs)) e ∙ best_second (follow g column bs) column (λ c h. (follow_ge g column bs c h).0)

-- a word that begins with another byte than the text fails at once
pub misses : {X : Type 0} (w : ℕ) (ws : List ℕ) (f : Form X) (column : ℕ) (bs : List ℕ) → (0 < length bs → get_or bs 0 0 ≡ w → ⊥) → follow (word (w ∷ ws) f) column bs ≡ Err column
unfolding follow
misses w ws f column bs off =
    let none = common_off (w ∷ ws) bs (λ lw lb e. off lb (sym e)) in
    let small : common (w ∷ ws) bs < length (w ∷ ws) = omega arith in
    let here : column + common (w ∷ ws) bs ≡ column = omega arith in
    cond-true _ _ _ (lt-ltb _ _ small) ∙ ap Err here
