-- Where a word and a number stand in front, and that a number is spelled in one way.
use Rattle.std.proofs.Common.{◌≡◌, ℕ, zero, suc, ◌+◌, ◌<◌, ◌≤◌, Bool, true, false, cond, eqb, List, [], ◌∷◌, ◌++◌, length, get_or, take, decimal, sym, refl, ap, ◌∙◌, ⊎_elim, arith}
use native.Mathlib.Nat.{pow-le-pow_right}
use Rattle.std.specs.Str.Parse.{AllDigits, digits_value}
use Rattle.std.specs.Char.{is_ascii_digit, digit_value}
use Rattle.std.proofs.lemmas.Int.Digits.{digits_value-lt}
use Rattle.std.proofs.lemmas.Str.Parse.{IsNumeralModel, numerals_by_value, tells_digits, digit_from_value}
use Rattle.std.proofs.lemmas.Fmt.{decimal-digits_value, digits_decimal, digits_value-decimal, decimal_digit, decimal_nonempty, first_decimal, length-decimal-le}
use Rattle.std.proofs.lemmas.List.{get_or-take, get_or_append_left, length-take-le}
use Rattle.std.proofs.lemmas.Bool.{eq-eqb, ne_eqb, eqb-true, cases_eq}
use Rattle.std.proofs.lemmas.Bool.Decides.{nat_tests}
use Rattle.forms.specs.Form.{common, digits_at, numeral_at}
use Rattle.forms.proofs.Fronts.{digits_off, numeral_digits, numeral_length}

own : IsNumeralModel (AllDigits 10) (digits_value 10)
own = numerals_by_value (AllDigits 10) tells_digits

is_digit : (b : ℕ) → digit_value b < 10 → is_ascii_digit b ≡ true
is_digit b l = let d = digit_from_value b l in grind (arith, nat_tests)

pub digits_few : (k : ℕ) (bs : List ℕ) → digits_at k bs ≤ k
digits_few zero bs = omega arith
digits_few (suc k) [] = omega arith
digits_few (suc k) (b ∷ bs) = let h = digits_few k bs in grind (arith, nat_tests)

pub numeral_few : (bs : List ℕ) → numeral_at bs ≤ 9
numeral_few bs = most (eqb (get_or bs 0 0) 48) where
  most : (t : Bool) → digits_at (cond t 1 9) bs ≤ 9
  most true = omega (arith, digits_few 1 bs)
  most false = digits_few 9 bs

-- the digits in front are just how their number is written
pub numeral_decimal : (bs : List ℕ) → 0 < numeral_at bs → (digits_value 10 (take (numeral_at bs) bs) < 1000000000) × (decimal (digits_value 10 (take (numeral_at bs) bs)) ≡ take (numeral_at bs) bs)
numeral_decimal bs some =
    let ds : List ℕ = take (numeral_at bs) bs in
    let l = numeral_length bs in
    let few : length ds ≤ 9 = omega (arith, numeral_few bs) in
    let v : digits_value 10 ds < 1000000000 = omega (arith, digits_value-lt 10 ds (numeral_digits bs), pow-le-pow_right {n = 10} (omega arith) few) in
    let alone : get_or ds 0 0 ≡ 48 → length ds ≡ 1 = λ e.
    (let first : get_or bs 0 0 ≡ 48 = sym (get_or-take (numeral_at bs) bs 0 0 some) ∙ e in
    let one : numeral_at bs ≡ digits_at 1 bs = ap (λ (t : Bool). digits_at (cond t 1 9) bs) (eq-eqb _ _ first) in
    omega (arith, digits_few 1 bs)) in
    (v, decimal-digits_value own ds (numeral_digits bs) (omega arith) alone (omega arith))

-- no digit in front
abbrev pub Ended : List ℕ → Type 0
Ended rest = 0 < length rest → is_ascii_digit (get_or rest 0 0) ≡ true → ⊥

pub digits_run : (k : ℕ) (ds rest : List ℕ) → AllDigits 10 ds → length ds ≤ k → Ended rest → digits_at k (ds ++ rest) ≡ length ds
digits_run k [] rest h l end = sym (digits_off k rest (λ lk lb e. end lb e))
digits_run zero (d ∷ ds) rest h l end = absurd (omega arith)
digits_run (suc k) (d ∷ ds) rest h l end =
    let on = digits_run k ds rest h.1 (omega arith) end in
    ap (λ (t : Bool). cond t (suc (digits_at k (ds ++ rest))) 0) (is_digit d h.0) ∙ ap suc on

-- a number in front is all of the digits there
pub decimal_numeral : (n : ℕ) (rest : List ℕ) → n < 1000000000 → Ended rest → numeral_at (decimal n ++ rest) ≡ length (decimal n)
decimal_numeral n rest small end =
    let ds = digits_decimal own n (omega arith) in
    let some = decimal_nonempty n (omega arith) in
    let front = get_or_append_left (decimal n) rest 0 0 some in
    ⊎_elim
    (λ (z : n ≡ 0).
    let single = decimal_digit n (omega arith) in
    let one : length (decimal n) ≡ 1 = ap length single in
    let byte : get_or (decimal n) 0 0 ≡ 48 + n = ap (λ (ds : List ℕ). get_or ds 0 0) single in
    let first : get_or (decimal n ++ rest) 0 0 ≡ 48 = omega arith in
    ap (λ (t : Bool). digits_at (cond t 1 9) (decimal n ++ rest)) (eq-eqb _ _ first) ∙ digits_run 1 (decimal n) rest ds (omega arith) end)
    (λ nz. let pos : 48 < get_or (decimal n) 0 0 = first_decimal n (omega arith) (omega arith) in
    let first : eqb (get_or (decimal n ++ rest) 0 0) 48 ≡ false = ne_eqb _ _ (λ e. omega arith) in
    ap (λ (t : Bool). digits_at (cond t 1 9) (decimal n ++ rest)) first ∙ digits_run 9 (decimal n) rest ds (length-decimal-le 9 n (omega arith) (omega arith) (omega arith)) end)
    (cases_eq n 0)

pub decimal_worth : (n : ℕ) → n < 1000000000 → digits_value 10 (decimal n) ≡ n
decimal_worth n small = digits_value-decimal own n (omega arith)

pub decimal_begins : (n : ℕ) → n < 1000000000 → (0 < length (decimal n)) × (is_ascii_digit (get_or (decimal n) 0 0) ≡ true)
decimal_begins n small =
    let some = decimal_nonempty n (omega arith) in
    (some, begins (decimal n) (digits_decimal own n (omega arith)) some) where
      begins : (ds : List ℕ) → AllDigits 10 ds → 0 < length ds → is_ascii_digit (get_or ds 0 0) ≡ true
      begins [] h l = absurd (omega arith)
      begins (d ∷ ds) h l = is_digit d h.0

-- a word stands in front of what begins with it
pub common_all : (ws rest : List ℕ) → common ws (ws ++ rest) ≡ length ws
common_all [] rest = refl
common_all (w ∷ ws) rest = ap (λ (t : Bool). cond t (suc (common ws (ws ++ rest))) 0) (eq-eqb w w refl) ∙ ap suc (common_all ws rest)

-- a text has with a word in common what the word has with it
common_step : (w b : ℕ) (ws bs : List ℕ) (m : ℕ) (t : Bool) → eqb w b ≡ t → take m bs ≡ take m ws → take (cond t (suc m) 0) (b ∷ bs) ≡ take (cond t (suc m) 0) (w ∷ ws)
common_step w b ws bs m false e h = refl
common_step w b ws bs m true e h = let same = eqb-true w b e in cc

pub common_front : (ws bs : List ℕ) → take (common ws bs) bs ≡ take (common ws bs) ws
common_front [] bs = refl
common_front (w ∷ ws) [] = refl
common_front (w ∷ ws) (b ∷ bs) = common_step w b ws bs (common ws bs) (eqb w b) refl (common_front ws bs)

-- the bytes behind the first that is another change nothing
same_test : (t : Bool) (n m k : ℕ) → cond t (suc m) 0 < suc k → (m < k → n ≡ m) → cond t (suc n) 0 ≡ cond t (suc m) 0
same_test true n m k l h = ap suc (h (omega arith))
same_test false n m k l h = refl

pub common_local : (ws bs more : List ℕ) (k : ℕ) → common ws bs < k → k ≤ length bs → common ws (take k bs ++ more) ≡ common ws bs
common_local [] bs more k l within = refl
common_local (w ∷ ws) [] more k l within = absurd (omega arith)
common_local (w ∷ ws) (b ∷ bs) more zero l within = absurd (omega arith)
common_local (w ∷ ws) (b ∷ bs) more (suc k) l within = same_test (eqb w b) (common ws (take k bs ++ more)) (common ws bs) k l (λ less. common_local ws bs more k less (omega arith))

digits_local : (j : ℕ) (bs more : List ℕ) (k : ℕ) → digits_at j bs < k → k ≤ length bs → digits_at j (take k bs ++ more) ≡ digits_at j bs
digits_local zero bs more k l within = refl
digits_local (suc j) [] more k l within = absurd (omega arith)
digits_local (suc j) (b ∷ bs) more zero l within = absurd (omega arith)
digits_local (suc j) (b ∷ bs) more (suc k) l within = same_test (is_ascii_digit b) (digits_at j (take k bs ++ more)) (digits_at j bs) k l (λ less. digits_local j bs more k less (omega arith))

pub numeral_local : (bs more : List ℕ) (k : ℕ) → numeral_at bs < k → k ≤ length bs → numeral_at (take k bs ++ more) ≡ numeral_at bs
numeral_local bs more k l within =
    let long = length-take-le k bs within in
    let first : get_or (take k bs ++ more) 0 0 ≡ get_or bs 0 0 = get_or_append_left (take k bs) more 0 0 (omega arith) ∙ get_or-take k bs 0 0 (omega arith) in
    ap (λ (b : ℕ). digits_at (cond (eqb b 48) 1 9) (take k bs ++ more)) first ∙ digits_local (cond (eqb (get_or bs 0 0) 48) 1 9) bs more k l within
