-- A line with its end and without, and the first of the events.
use Rattle.std.proofs.Common.{◌≡◌, ℕ, suc, ◌-◌, ◌<◌, true, false, eqb, List, [], ◌∷◌, length, get_or, take, map, sym, refl, ap, ◌∙◌, arith}
use Rattle.std.proofs.lemmas.Bool.{cond-true, cond-false, eqb-false}
use Rattle.forms.specs.Lines.{lines}
use Rattle.forms.proofs.LineLaws.{first_line}
use Rattle.input.specs.Parts.{unended, first_event, other_events}

-- what a slice pattern names before the last byte
abbrev pub body : List ℕ → List ℕ
body bs = take (length bs - 1) bs

pub unended_body : (bs : List ℕ) → 0 < length bs → eqb (get_or bs (length bs - 1) 0) 10 ≡ true → body bs ≡ unended bs
unended_body [] l e = absurd (omega arith)
unended_body (b ∷ []) l e = sym (cond-true _ _ _ e)
unended_body (b ∷ c ∷ bs) l e =
    let less : length (b ∷ c ∷ bs) - 1 ≡ suc (length (c ∷ bs) - 1) = omega arith in
    ap (λ (n : ℕ). take n (b ∷ c ∷ bs)) less ∙ ap (λ (v : List ℕ). b ∷ v) (unended_body (c ∷ bs) (omega arith) (sym (ap (λ (n : ℕ). eqb (get_or (b ∷ c ∷ bs) n 0) 10) less) ∙ e))

pub unended_same : (bs : List ℕ) → (0 < length bs → eqb (get_or bs (length bs - 1) 0) 10 ≡ false) → bs ≡ unended bs
unended_same [] off = refl
unended_same (b ∷ []) off = sym (cond-false _ _ _ (off (omega arith)))
unended_same (b ∷ c ∷ bs) off =
    let less : length (b ∷ c ∷ bs) - 1 ≡ suc (length (c ∷ bs) - 1) = omega arith in
    ap (λ (v : List ℕ). b ∷ v) (unended_same (c ∷ bs) (λ l. sym (ap (λ (n : ℕ). eqb (get_or (b ∷ c ∷ bs) n 0) 10) less) ∙ off (omega arith)))

pub next_event : (events : List ℕ) → eqb (length events) 0 ≡ false → map unended (lines events) ≡ first_event events ∷ map unended (lines (other_events events))
next_event events some = ap (map unended) (first_line events (omega (arith, eqb-false (length events) 0 some)))
