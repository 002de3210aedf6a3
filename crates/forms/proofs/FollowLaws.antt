-- What `follow` finds is what a line says, and where it stops no line goes on.
use Rattle.std.proofs.Common.{◌≡◌, ℕ, zero, suc, ◌+◌, ◌-◌, ◌<◌, ◌≤◌, Bool, true, false, cond, eqb, ltb, ◌⊎◌, List, [], ◌∷◌, ◌++◌, length, get_or, take, drop, Ok, Err, decimal, Result, sym, refl, ap, ◌∙◌, subst, inl, inr, ⊎_elim, append_assoc, arith, length-append, length-drop}
use Rattle.std.specs.Str.Parse.{digits_value}
use Rattle.std.specs.Char.{is_ascii_digit}
use Rattle.std.proofs.lemmas.List.{take-append-drop, take-append-le, take-take, drop-append-le, drop-take, nil_from_length, take_at, drop_at, get_or_append_left, length-take-le}
use Rattle.std.proofs.lemmas.Bool.{cond-true, cond-false, lt-ltb, le-ltb, ltb-false, ltb-true, eqb-true, eqb-false, eq-eqb, ne_eqb, both_ways, cases_lt}
use Rattle.forms.specs.Form.{Figure, Form, common, numeral_at, best, follow, word, number, done, mark, either}
use Rattle.forms.specs.Lawful.{Says, Starts, unlike, Opens, Sound, Told}
use Rattle.forms.proofs.Fronts.{common_full, common_small, numeral_length}
use Rattle.forms.proofs.Choosing.{cond_cases, not_ok, err_is, best_err, best_ok, follow_ge}
use Rattle.forms.proofs.Spelling.{numeral_decimal, decimal_numeral, decimal_worth, decimal_begins, common_all, common_front, common_local, numeral_local, Ended}

ok_is : {X : Type 0} {x y : X} → ◌≡◌ {A = Result X ℕ} (Ok x) (Ok y) → x ≡ y
ok_is h = cc

above : (m : ℕ) → (m ≡ 0 → ⊥) → 0 < m
above zero h = absurd (h refl)
above (suc m) h = omega arith

-- what is followed to its end is a line
pub follow_says : {X : Type 0} (f : Form X) (column : ℕ) (bs : List ℕ) (x : X) → follow f column bs ≡ Ok x → Says f column bs x
unfolding follow
follow_says (done y) column bs x e =
    ⊎_elim
    (λ h. (nil_from_length bs (eqb-true _ _ h.0), sym (ok_is h.1)))
    (λ h. absurd (not_ok (sym h.1)))
    (cond_cases (eqb (length bs) 0) (Ok y) (Err column) (Ok x) e)
follow_says (word w f) column bs x e =
    ⊎_elim
    (λ h. absurd (not_ok (sym h.1)))
    (λ h. (
      drop (length w) bs,
      sym (take-append-drop (length w) bs) ∙ ap (λ (p : List ℕ). p ++ drop (length w) bs) (common_full w bs (ltb-false _ _ h.0)),
      follow_says f (column + length w) (drop (length w) bs) x h.1,
    ))
    (cond_cases (ltb (common w bs) (length w)) (Err (column + common w bs)) (follow f (column + length w) (drop (length w) bs)) (Ok x) e)
follow_says (number f) column bs x e =
    let ds : List ℕ = take (numeral_at bs) bs in
    let n : ℕ = digits_value 10 ds in
    let fig : Figure = record { value = n; column = column } in
    ⊎_elim
    (λ h. absurd (not_ok (sym h.1)))
    (λ h. let none = eqb-false _ _ h.0 in
    let d = numeral_decimal bs (above (numeral_at bs) none) in
    let size : length (decimal n) ≡ numeral_at bs = ap length d.1 ∙ (numeral_length bs).0 in (
      n,
      drop (numeral_at bs) bs,
      d.0,
      sym (take-append-drop (numeral_at bs) bs) ∙ ap (λ (p : List ℕ). p ++ drop (numeral_at bs) bs) (sym d.1),
      subst (λ (m : ℕ). Says (f fig) (column + m) (drop (numeral_at bs) bs) x) (sym size) (follow_says (f fig) (column + numeral_at bs) (drop (numeral_at bs) bs) x h.1),
    ))
    (cond_cases (eqb (numeral_at bs) 0) (Err column) (follow (f fig) (column + numeral_at bs) (drop (numeral_at bs) bs)) (Ok x) e)
follow_says (mark f) column bs x e = follow_says (f column) column bs x e
follow_says (either f g) column bs x e =
    ⊎_elim
    (λ h. inl (follow_says f column bs x h))
    (λ h. inr (follow_says g column bs x h))
    (best_ok (follow f column bs) (follow g column bs) x e)

-- how a line of a form begins
abbrev pub Opened : Type 0 → (List ℕ → Type 0) → List ℕ → Type 0
Opened E P bs = ((bs ≡ []) × E) ⊎ ((v : List ℕ) × (rest : List ℕ) × (0 < length v) × (bs ≡ v ++ rest) × P v)

first_byte : (ds : List ℕ) → 0 < length ds → (tail : List ℕ) × (ds ≡ get_or ds 0 0 ∷ tail)
first_byte [] l = absurd (omega arith)
first_byte (d ∷ ds) l = (ds, refl)

pub says_opens : {X : Type 0} (f : Form X) (E : Type 0) (P : List ℕ → Type 0) → Opens f E P → (column : ℕ) (bs : List ℕ) (x : X) → Says f column bs x → Opened E P bs
says_opens (done y) E P o column bs x h = inl (h.0, o)
says_opens (word [] f) E P o column bs x h = subst (Opened E P) (sym h.1) (says_opens f E P o (column + 0) h.0 x h.2)
says_opens (word (w ∷ ws) f) E P o column bs x h = inr (w ∷ ws, h.0, omega arith, h.1, o)
says_opens (number f) E P o column bs x h =
    let b = decimal_begins h.0 h.2 in
    let t = first_byte (decimal h.0) b.0 in
    inr (get_or (decimal h.0) 0 0 ∷ [], t.0 ++ h.1, omega arith, h.3 ∙ ap (λ (q : List ℕ). q ++ h.1) t.1, o (get_or (decimal h.0) 0 0) b.1)
says_opens (mark f) E P o column bs x h = says_opens (f column) E P (o column) column bs x h
says_opens (either f g) E P o column bs x h = ⊎_elim (λ l. says_opens f E P o.0 column bs x l) (λ r. says_opens g E P o.1 column bs x r) h

unlike_test : (t : Bool) (p : Bool) → t ≡ true → cond t p true ≡ true → p ≡ true
unlike_test true p e h = h
unlike_test false p e h = absurd (both_ways false refl e)

-- no text begins with both of two words that are unlike
pub unlike_apart : (v w p q : List ℕ) → unlike v w ≡ true → v ++ p ≡ w ++ q → ⊥
unlike_apart [] w p q u e = both_ways false refl u
unlike_apart (a ∷ v) [] p q u e = both_ways false refl u
unlike_apart (a ∷ v) (b ∷ w) p q u e =
    let head : a ≡ b = cc in
    let tail : v ++ p ≡ w ++ q = cc in
    unlike_apart v w p q (unlike_test (eqb a b) (unlike v w) (eq-eqb a b head) u) tail

-- no line is of both parts of a choice
pub apart : {X : Type 0} (f g : Form X) → Opens f ⊥ (λ v. Opens g (Unit {0}) (λ w. unlike v w ≡ true)) → (column : ℕ) (bs : List ℕ) (x y : X) → Says f column bs x → Says g column bs y → ⊥
apart f g o column bs x y hf hg =
    ⊎_elim
    (λ l. l.1)
    (λ r. ⊎_elim
    (λ n. let none = ap length (sym r.3 ∙ n.0) in let long = length-append r.0 r.1 in omega arith)
    (λ s. unlike_apart r.0 s.0 r.1 s.1 s.4 (sym r.3 ∙ s.3))
    (says_opens g (Unit {0}) (λ w. unlike r.0 w ≡ true) r.4 column bs y hg))
    (says_opens f ⊥ (λ v. Opens g (Unit {0}) (λ w. unlike v w ≡ true)) o column bs x hf)

best_other : {X : Type 0} (r s : Result X ℕ) (x : X) → s ≡ Ok x → ((y : X) → r ≡ Ok y → ⊥) → best r s ≡ Ok x
best_other (Ok y) s x e none = absurd (none y refl)
best_other (Err i) s x e none = ap (best (Err i)) e

-- a line is followed to its end
pub says_follow : {X : Type 0} (f : Form X) → Sound f → (column : ℕ) (bs : List ℕ) (x : X) → Says f column bs x → follow f column bs ≡ Ok x
unfolding follow
says_follow (done y) s column bs x h = cond-true _ _ _ (eq-eqb _ _ (ap length h.0)) ∙ ap Ok (sym h.1)
says_follow {X = X} (word w f) s column bs x h =
    let rest : List ℕ = h.0 in
    let all = common_all w rest in
    let on = says_follow f s (column + length w) rest x h.2 in
    let full : length w ≤ common w (w ++ rest) = omega arith in
    let there : follow (word w f) column (w ++ rest) ≡ Ok x =
    cond-false _ _ _ (le-ltb _ _ full) ∙ ap (follow f (column + length w)) (drop_at w rest (length w) refl) ∙ on in
    ap (follow (word w f) column) h.1 ∙ there
says_follow {X = X} (number f) s column bs x h =
    let n : ℕ = h.0 in
    let rest : List ℕ = h.1 in
    let fig : Figure = record { value = n; column = column } in
    let sound = s n column in
    let end : Ended rest = λ l d. ⊎_elim
    (λ z. let none = ap length z.0 in omega arith)
    (λ r. let front : get_or rest 0 0 ≡ get_or r.0 0 0 = ap (λ (q : List ℕ). get_or q 0 0) r.3 ∙ get_or_append_left r.0 r.1 0 0 r.2 in
    both_ways _ r.4 (sym (ap is_ascii_digit front) ∙ d))
    (says_opens (f fig) (Unit {0}) (λ v. is_ascii_digit (get_or v 0 0) ≡ false) sound.0 (column + length (decimal n)) rest x h.4) in
    let size = decimal_numeral n rest h.2 end in
    let some = (decimal_begins n h.2).0 in
    let front : take (numeral_at (decimal n ++ rest)) (decimal n ++ rest) ≡ decimal n = take_at (decimal n) rest _ (sym size) in
    let back : drop (numeral_at (decimal n ++ rest)) (decimal n ++ rest) ≡ rest = drop_at (decimal n) rest _ (sym size) in
    let worth : digits_value 10 (take (numeral_at (decimal n ++ rest)) (decimal n ++ rest)) ≡ n = ap (digits_value 10) front ∙ decimal_worth n h.2 in
    let on = says_follow (f fig) sound.1 (column + length (decimal n)) rest x h.4 in
    let same : follow (f (record { value = digits_value 10 (take (numeral_at (decimal n ++ rest)) (decimal n ++ rest)); column = column })) (column + numeral_at (decimal n ++ rest)) (drop (numeral_at (decimal n ++ rest)) (decimal n ++ rest)) ≡ follow (f fig) (column + length (decimal n)) rest =
    λ i. follow (f (record { value = worth i; column = column })) (column + size i) (back i) in
    let there : follow (number f) column (decimal n ++ rest) ≡ Ok x =
    cond-false _ _ _ (ne_eqb (numeral_at (decimal n ++ rest)) 0 (λ z. omega arith)) ∙ same ∙ on in
    ap (follow (number f) column) h.3 ∙ there
says_follow (mark f) s column bs x h = says_follow (f column) (s column) column bs x h
says_follow {X = X} (either f g) s column bs x h =
    ⊎_elim
    (λ l. ap (λ (r : Result X ℕ). best r (follow g column bs)) (says_follow f s.1 column bs x l))
    (λ r. best_other (follow f column bs) (follow g column bs) x (says_follow g s.2 column bs x r)
    (λ y e. apart f g s.0 column bs y x (follow_says f column bs y e) r))
    h

-- each form has a line
pub some_line : {X : Type 0} (f : Form X) (column : ℕ) → (bs : List ℕ) × (x : X) × Says f column bs x
some_line (done y) column = ([], y, (refl, refl))
some_line (word w f) column = let on = some_line f (column + length w) in (w ++ on.0, on.1, (on.0, refl, on.2))
some_line (number f) column =
    let on = some_line (f (record { value = 0; column = column })) (column + length (decimal 0)) in
    (decimal 0 ++ on.0, on.1, (0, on.0, omega arith, refl, on.2))
some_line (mark f) column = some_line (f column) column
some_line (either f g) column = let on = some_line f column in (on.0, on.1, inl on.2)

-- what is taken past a part is the part and what is taken of the rest
seam : (m c column : ℕ) (bs p more : List ℕ) → column + m ≤ c → take m bs ≡ p → take (c - column) bs ++ more ≡ p ++ (take (c - (column + m)) (drop m bs) ++ more)
seam m c column bs p more l e =
    let k : ℕ = c - (column + m) in
    let sum : c - column ≡ m + k = omega arith in
    let parts : take (m + k) bs ≡ p ++ take k (drop m bs) =
    sym (take-append-drop m (take (m + k) bs)) ∙ (λ i. take-take m (m + k) bs (omega arith) i ++ drop-take m k bs i) ∙ ap (λ (q : List ℕ). q ++ take k (drop m bs)) e in
    ap (λ (j : ℕ). take j bs ++ more) sum ∙ ap (λ (q : List ℕ). q ++ more) parts ∙ append_assoc p (take k (drop m bs)) more

-- up to where it stops, the text is the start of a line
pub follow_starts : {X : Type 0} (f : Form X) (column : ℕ) (bs : List ℕ) (c : ℕ) → follow f column bs ≡ Err c → Starts f column (take (c - column) bs)
unfolding follow
follow_starts (done y) column bs c e =
    ⊎_elim
    (λ h. absurd (not_ok h.1))
    (λ h. let same = err_is h.1 in
    let none : c - column ≡ 0 = omega arith in
    ([], y, (ap (λ (j : ℕ). take j bs ++ []) none, refl)))
    (cond_cases (eqb (length bs) 0) (Ok y) (Err column) (Err c) e)
follow_starts (word w f) column bs c e =
    let m : ℕ = common w bs in
    ⊎_elim
    (λ h. let same = err_is h.1 in
    let here : c - column ≡ m = omega arith in
    let line = some_line f (column + length w) in (
      drop m w ++ line.0,
      line.1,
      (
        line.0,
        ap (λ (j : ℕ). take j bs ++ (drop m w ++ line.0)) here
            ∙ ap (λ (q : List ℕ). q ++ (drop m w ++ line.0)) (common_front w bs)
            ∙ sym (append_assoc (take m w) (drop m w) line.0)
            ∙ ap (λ (q : List ℕ). q ++ line.0) (take-append-drop m w),
        line.2,
      ),
    ))
    (λ h. let on = follow_starts f (column + length w) (drop (length w) bs) c h.1 in
    let far = follow_ge f (column + length w) (drop (length w) bs) c h.1 in (
      on.0,
      on.1,
      (
        take (c - (column + length w)) (drop (length w) bs) ++ on.0,
        seam (length w) c column bs w on.0 far.0 (common_full w bs (ltb-false _ _ h.0)),
        on.2,
      ),
    ))
    (cond_cases (ltb m (length w)) (Err (column + m)) (follow f (column + length w) (drop (length w) bs)) (Err c) e)
follow_starts (number f) column bs c e =
    let m : ℕ = numeral_at bs in
    let n : ℕ = digits_value 10 (take m bs) in
    let fig : Figure = record { value = n; column = column } in
    ⊎_elim
    (λ h. let same = err_is h.1 in
    let none : c - column ≡ 0 = omega arith in
    let line = some_line (number f) column in
    (line.0, line.1, subst (λ (j : ℕ). Says (number f) column (take j bs ++ line.0) line.1) (sym none) line.2))
    (λ h. let on = follow_starts (f fig) (column + m) (drop m bs) c h.1 in
    let far = follow_ge (f fig) (column + m) (drop m bs) c h.1 in
    let d = numeral_decimal bs (above m (eqb-false _ _ h.0)) in
    let size : length (decimal n) ≡ m = ap length d.1 ∙ (numeral_length bs).0 in
    let rest : List ℕ = take (c - (column + m)) (drop m bs) ++ on.0 in (
      on.0,
      on.1,
      (
        n,
        rest,
        d.0,
        seam m c column bs (decimal n) on.0 far.0 (sym d.1),
        subst (λ (j : ℕ). Says (f fig) (column + j) rest on.1) (sym size) on.2,
      ),
    ))
    (cond_cases (eqb m 0) (Err column) (follow (f fig) (column + m) (drop m bs)) (Err c) e)
follow_starts (mark f) column bs c e = follow_starts (f column) column bs c e
follow_starts (either f g) column bs c e =
    let b = best_err (follow f column bs) (follow g column bs) c e in
    let m = b.4 in
    ⊎_elim
    (λ (l : b.0 < b.1).
    let on = follow_starts g column bs c (b.3 ∙ ap Err (omega arith)) in (on.0, on.1, inr on.2))
    (λ (l : b.1 ≤ b.0).
    let on = follow_starts f column bs c (b.2 ∙ ap Err (omega arith)) in (on.0, on.1, inl on.2))
    (cases_lt b.0 b.1)

past : (m k : ℕ) (bs more : List ℕ) → m ≤ k → k ≤ length bs → drop m (take k bs ++ more) ≡ take (k - m) (drop m bs) ++ more
past m k bs more l within =
    let size = length-take-le k bs within in
    let sum : k ≡ m + (k - m) = omega arith in
    drop-append-le m (take k bs) more (omega arith) ∙ ap (λ (q : List ℕ). q ++ more) (ap (λ (j : ℕ). drop m (take j bs)) sum ∙ drop-take m (k - m) bs)

-- what stands behind the byte at which a text stops changes nothing
pub follow_local : {X : Type 0} (f : Form X) (column : ℕ) (bs more : List ℕ) (c k : ℕ) → follow f column bs ≡ Err c → c < column + k → k ≤ length bs → follow f column (take k bs ++ more) ≡ Err c
unfolding follow
follow_local (done y) column bs more c k e l within =
    ⊎_elim
    (λ h. absurd (not_ok h.1))
    (λ h. let same = err_is h.1 in
    let long = length-append (take k bs) more in
    let size = length-take-le k bs within in
    cond-false _ _ _ (ne_eqb (length (take k bs ++ more)) 0 (λ z. omega arith)) ∙ h.1)
    (cond_cases (eqb (length bs) 0) (Ok y) (Err column) (Err c) e)
follow_local (word w f) column bs more c k e l within =
    ⊎_elim
    (λ h. let same = err_is h.1 in
    let stop : common w bs < k = omega arith in
    let eq = common_local w bs more k stop within in
    let less = ltb-true _ _ h.0 in
    let short : common w (take k bs ++ more) < length w = omega arith in
    cond-true _ _ _ (lt-ltb _ _ short) ∙ ap (λ (m : ℕ). Err (column + m)) eq ∙ h.1)
    (λ h. let far = follow_ge f (column + length w) (drop (length w) bs) c h.1 in
    let full = ltb-false _ _ h.0 in
    let small = common_small w bs in
    let eq = common_local w bs more k (omega arith) within in
    let long : length w ≤ common w (take k bs ++ more) = omega arith in
    let left = length-drop (length w) bs in
    let size = length-take-le k bs within in
    cond-false _ _ _ (le-ltb _ _ long) ∙ ap (follow f (column + length w)) (past (length w) k bs more (omega arith) within)
    ∙ follow_local f (column + length w) (drop (length w) bs) more c (k - length w) h.1 (omega arith) (omega arith))
    (cond_cases (ltb (common w bs) (length w)) (Err (column + common w bs)) (follow f (column + length w) (drop (length w) bs)) (Err c) e)
follow_local (number f) column bs more c k e l within =
    let m : ℕ = numeral_at bs in
    let fig : Figure = record { value = digits_value 10 (take m bs); column = column } in
    ⊎_elim
    (λ h. let same = err_is h.1 in
    let none = eqb-true _ _ h.0 in
    let eq = numeral_local bs more k (omega arith) within in
    cond-true _ _ _ (eq-eqb (numeral_at (take k bs ++ more)) 0 (omega arith)) ∙ h.1)
    (λ h. let far = follow_ge (f fig) (column + m) (drop m bs) c h.1 in
    let some = eqb-false _ _ h.0 in
    let eq : numeral_at (take k bs ++ more) ≡ m = numeral_local bs more k (omega arith) within in
    let left = length-drop m bs in
    let size = length-take-le k bs within in
    let front : take (numeral_at (take k bs ++ more)) (take k bs ++ more) ≡ take m bs =
    ap (λ (j : ℕ). take j (take k bs ++ more)) eq ∙ take-append-le m (take k bs) more (omega arith) ∙ take-take m k bs (omega arith) in
    let back : drop (numeral_at (take k bs ++ more)) (take k bs ++ more) ≡ take (k - m) (drop m bs) ++ more =
    ap (λ (j : ℕ). drop j (take k bs ++ more)) eq ∙ past m k bs more (omega arith) within in
    cond-false _ _ _ (ne_eqb (numeral_at (take k bs ++ more)) 0 (λ z. some (sym eq ∙ z)))
    ∙ (λ i. follow (f (record { value = digits_value 10 (front i); column = column })) (column + eq i) (back i))
    ∙ follow_local (f fig) (column + m) (drop m bs) more c (k - m) h.1 (omega arith) (omega arith))
    (cond_cases (eqb m 0) (Err column) (follow (f fig) (column + m) (drop m bs)) (Err c) e)
follow_local (mark f) column bs more c k e l within = follow_local (f column) column bs more c k e l within
follow_local {X = X} (either f g) column bs more c k e l within =
    let b = best_err (follow f column bs) (follow g column bs) c e in
    let m = b.4 in
    let one = follow_local f column bs more b.0 k b.2 (omega arith) within in
    let two = follow_local g column bs more b.1 k b.3 (omega arith) within in
    (λ i. best (one i) (two i)) ∙ ap Err m

-- past where it stops, the text is the start of no line
pub follow_stops : {X : Type 0} (f : Form X) → Sound f → (column : ℕ) (bs : List ℕ) (c : ℕ) → follow f column bs ≡ Err c → (k : ℕ) → c < column + k → k ≤ length bs → Starts f column (take k bs) → ⊥
follow_stops f s column bs c e k l within starts =
    not_ok (sym (says_follow f s column (take k bs ++ starts.0) starts.1 starts.2) ∙ follow_local f column bs starts.0 c k e l within)

-- what `follow` tells of a text
pub followed : {X : Type 0} (f : Form X) → Sound f → (column : ℕ) (bs : List ℕ) → Told f column bs (follow f column bs)
followed {X = X} f s column bs = go (follow f column bs) refl where
  go : (r : Result X ℕ) → follow f column bs ≡ r → Told f column bs r
  go (Ok x) e = (follow_says f column bs x e, λ y h. ok_is (sym (says_follow f s column bs y h) ∙ e))
  go (Err c) e =
      let between = follow_ge f column bs c e in
      (between.0, between.1, follow_starts f column bs c e, follow_stops f s column bs c e, λ x h. not_ok (sym (says_follow f s column bs x h) ∙ e))
