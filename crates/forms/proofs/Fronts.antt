-- How far a text goes on, byte by byte.
use Rattle.std.proofs.Common.{◌≡◌, ℕ, zero, suc, ◌+◌, ◌-◌, ◌<◌, ◌≤◌, Bool, true, false, cond, eqb, List, [], ◌∷◌, length, get_or, take, drop, sym, refl, ap, ◌∙◌, arith}
use native.Mathlib.Nat.{pow-le-pow_right}
use Rattle.std.specs.Str.Parse.{AllDigits, digits_value}
use Rattle.std.specs.List.{prefix_len, zip}
use Rattle.std.proofs.lemmas.Int.Digits.{digits_value-lt}
use Rattle.std.proofs.lemmas.Str.Parse.{digit_at}
use Rattle.std.specs.Char.{is_ascii_digit, digit_value as digitValue}
use Rattle.std.proofs.lemmas.Bool.Decides.{nat_tests}
use Rattle.std.proofs.lemmas.List.{take_all, length-take-le}
use Rattle.std.proofs.lemmas.Bool.{ne_eqb, eqb-true}
use Rattle.forms.specs.Form.{common, digits_at, numeral_at}

by_cond : (t : Bool) (n m : ℕ) → n ≤ m → cond t (suc n) 0 ≤ suc m
by_cond true n m h = omega arith
by_cond false n m h = omega arith

digit_small : (b : ℕ) → is_ascii_digit b ≡ true → digitValue b < 10
digit_small b e = grind (arith, nat_tests)

false_from : (t : Bool) → (t ≡ true → ⊥) → t ≡ false
false_from t none = elim t as (λ v. (v ≡ true → ⊥) → v ≡ false) [ true ↦ (λ h. absurd (h refl)) | false ↦ (λ h. refl) ] none

-- what a slice pattern names as the tail
abbrev pub tail : List ℕ → List ℕ
tail bs = take (length bs - 1) (drop 1 bs)

pub tail_is : (b : ℕ) (bs : List ℕ) → tail (b ∷ bs) ≡ bs
tail_is b bs = take_all (length (b ∷ bs) - 1) bs (omega arith)

-- as far as the pairs of their bytes are equal
pub common_prefix : (ws bs : List ℕ) → common ws bs ≡ prefix_len (λ (p : ℕ × ℕ). eqb p.0 p.1) (zip ws bs)
common_prefix [] bs = refl
common_prefix (w ∷ ws) [] = refl
common_prefix (w ∷ ws) (b ∷ bs) = ap (λ n. cond (eqb w b) n 0) (omega (arith, common_prefix ws bs))

pub common_off : (ws bs : List ℕ) → (0 < length ws → 0 < length bs → get_or ws 0 0 ≡ get_or bs 0 0 → ⊥) → 0 ≡ common ws bs
common_off [] bs off = refl
common_off (w ∷ ws) [] off = refl
common_off (w ∷ ws) (b ∷ bs) off = sym (ap (λ (t : Bool). cond t (suc (common ws bs)) 0) (ne_eqb w b (λ e. off (omega arith) (omega arith) e)))

pub digits_on : (k : ℕ) (bs : List ℕ) → 0 < k → 0 < length bs → is_ascii_digit (get_or bs 0 0) ≡ true → 1 + digits_at (k - 1) (tail bs) ≡ digits_at k bs
digits_on zero bs lk lb e = absurd (omega arith)
digits_on (suc k) [] lk lb e = absurd (omega arith)
digits_on (suc k) (b ∷ bs) lk lb e =
    let less : suc k - 1 ≡ k = omega arith in
    let same : digits_at (suc k - 1) (tail (b ∷ bs)) ≡ digits_at k bs = (λ i. digits_at (less i) (tail_is b bs i)) in
    let here = ap (λ (t : Bool). cond t (suc (digits_at k bs)) 0) e in
    omega (arith, same, here)

pub digits_off : (k : ℕ) (bs : List ℕ) → (0 < k → 0 < length bs → is_ascii_digit (get_or bs 0 0) ≡ true → ⊥) → 0 ≡ digits_at k bs
digits_off zero bs off = refl
digits_off (suc k) [] off = refl
digits_off (suc k) (b ∷ bs) off = sym (ap (λ (t : Bool). cond t (suc (digits_at k bs)) 0) (false_from (is_ascii_digit b) (λ e. off (omega arith) (omega arith) e)))

pub differ : (t : Bool) → t ≡ true → t ≡ false → ⊥
differ t yes-is no-is = let z : ◌≡◌ {A = Bool} true false = sym yes-is ∙ no-is in let w : ◌≡◌ {A = ℕ} 0 1 = cc in omega arith

pub common_small : (ws bs : List ℕ) → common ws bs ≤ length ws
common_small [] bs = omega arith
common_small (w ∷ ws) [] = omega arith
common_small (w ∷ ws) (b ∷ bs) = by_cond (eqb w b) (common ws bs) (length ws) (common_small ws bs)

pub common_within : (ws bs : List ℕ) → common ws bs ≤ length bs
common_within [] bs = omega arith
common_within (w ∷ ws) [] = omega arith
common_within (w ∷ ws) (b ∷ bs) = by_cond (eqb w b) (common ws bs) (length bs) (common_within ws bs)

pub digits_within : (k : ℕ) (bs : List ℕ) → digits_at k bs ≤ length bs
digits_within zero bs = omega arith
digits_within (suc k) [] = omega arith
digits_within (suc k) (b ∷ bs) = by_cond (is_ascii_digit b) (digits_at k bs) (length bs) (digits_within k bs)

-- the digits at the front are digits
digit_front : (b : ℕ) (t : Bool) → is_ascii_digit b ≡ t → (n : ℕ) (bs : List ℕ) → AllDigits 10 (take n bs) → AllDigits 10 (take (cond t (suc n) 0) (b ∷ bs))
digit_front b true e n bs h = (digit_small b e, h)
digit_front b false e n bs h = tt

pub digits_are : (k : ℕ) (bs : List ℕ) → AllDigits 10 (take (digits_at k bs) bs)
digits_are zero bs = tt
digits_are (suc k) [] = tt
digits_are (suc k) (b ∷ bs) = digit_front b (is_ascii_digit b) refl (digits_at k bs) bs (digits_are k bs)

pub numeral_digits : (bs : List ℕ) → AllDigits 10 (take (numeral_at bs) bs)
numeral_digits bs = digits_are (cond (eqb (get_or bs 0 0) 48) 1 9) bs

digits_take : (i : ℕ) (bs : List ℕ) → AllDigits 10 bs → AllDigits 10 (take i bs)
digits_take zero bs h = tt
digits_take (suc i) [] h = tt
digits_take (suc i) (b ∷ bs) h = (h.0, digits_take i bs h.1)

-- up to eight digits leave room for one more
pub few_digits : (bs : List ℕ) (i : ℕ) → AllDigits 10 bs → i < length bs → length bs ≤ 9 → digits_value 10 (take i bs) < 100000000
few_digits bs i h l few =
    let n : length (take i bs) ≤ 8 = omega (arith, length-take-le i bs (omega arith)) in
    omega (arith, digits_value-lt 10 (take i bs) (digits_take i bs h), pow-le-pow_right {n = 10} (omega arith) n)

pub digit_value : (bs : List ℕ) (i : ℕ) → AllDigits 10 bs → i < length bs → (48 ≤ get_or bs i 0) × (get_or bs i 0 ≤ 57) × (digitValue (get_or bs i 0) ≡ get_or bs i 0 - 48)
digit_value bs i h l =
    let d = digit_at bs i h l in
    (d.0, d.1, grind (arith, nat_tests))

-- a text that has all of a word begins with it
common_test : (w b : ℕ) (ws bs rest : List ℕ) (t : Bool) → eqb w b ≡ t → suc (length ws) ≤ cond t (suc (common ws bs)) 0 → (length ws ≤ common ws bs → rest ≡ ws) → ◌≡◌ {A = List ℕ} (b ∷ rest) (w ∷ ws)
common_test w b ws bs rest false e l h = absurd (omega arith)
common_test w b ws bs rest true e l h = let same = eqb-true w b e in let more = h (omega arith) in cc

pub common_full : (ws bs : List ℕ) → length ws ≤ common ws bs → take (length ws) bs ≡ ws
common_full [] bs h = refl
common_full (w ∷ ws) [] h = absurd (omega arith)
common_full (w ∷ ws) (b ∷ bs) h = common_test w b ws bs (take (length ws) bs) (eqb w b) refl h (common_full ws bs)

pub numeral_length : (bs : List ℕ) → (length (take (numeral_at bs) bs) ≡ numeral_at bs) × (numeral_at bs ≤ length bs)
numeral_length bs = let w = digits_within (cond (eqb (get_or bs 0 0) 48) 1 9) bs in (length-take-le (numeral_at bs) bs w, w)
