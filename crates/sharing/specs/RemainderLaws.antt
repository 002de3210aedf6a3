-- The rule of the largest remainders keeps the laws of a sharing.
use Rattle.std.specs.Prelude.{◌≡◌, ℕ, zero, suc, ◌+◌, ◌-◌, ◌*◌, ◌/◌, ◌%◌, ◌<◌, ◌≤◌, List, [], ◌∷◌, ◌++◌, length, take, replicate, sum, codes, nat_lt, if◌then◌else◌, slice_index, refl}
use Rattle.std.proofs.Common.{sym, ap, subst, ◌∙◌, mul-add, add-mul, div-add-mod', mod-lt, zero-mul, mul-zero, le_of_mul-le-mul_right, mul-le-mul_left, rules, arith}
use Rattle.std.proofs.Math.Nat.{zero-div, zero-mod, div-zero}
use Rattle.std.proofs.lemmas.List.{map_more, length-map}
use Rattle.std.proofs.lemmas.List.Sums.{sum_by_push, sum_by-take-le}
use Rattle.std.specs.List.{AllZip}
use Rattle.std.proofs.lemmas.Bool.Decides.{nat_tests}
use Rattle.sharing.specs.Rule.{Fair, Near, Title}
use Rattle.sharing.specs.Remainders.{floors, rests, odd_units, added, shared_by, remainders}
use Rattle.sharing.specs.Cutoff.{above, at_least, Cut, unit, spared, dealt}
use Rattle.sharing.specs.Totals.{sum_cons}
use Rattle.sharing.specs.Cutoffs.{above_cons, at_least_cons, above_le_at_least, at_least_none, dealt_length, dealt_sum, cut_below, odd_units_dealt, unit_le}

pub added_length : (xs ys : List ℕ) → length (added xs ys) ≡ length xs
added_length [] ys = refl
added_length (x ∷ xs) [] = refl
added_length (x ∷ xs) (y ∷ ys) = ap suc (added_length xs ys)

pub sum_added : (xs ys : List ℕ) → length xs ≡ length ys → sum (added xs ys) ≡ sum xs + sum ys
sum_added [] [] e = refl
sum_added [] (y ∷ ys) e = absurd (omega arith)
sum_added (x ∷ xs) [] e = absurd (omega arith)
sum_added (x ∷ xs) (y ∷ ys) e =
    let rec = sum_added xs ys (omega arith) in
    omega (arith, sum_cons (x + y) (added xs ys), sum_cons x xs, sum_cons y ys)

-- the parts rounded down and the remainders together are the whole
pub parts_sum : (t w : ℕ) (ws : List ℕ) → sum (floors t w ws) * w + sum (rests t w ws) ≡ t * sum ws
parts_sum t w [] = omega (arith, zero-mul w, mul-zero t)
parts_sum t w (x ∷ ws) =
    let rec = parts_sum t w ws in
    let fs = sum_cons (t * x / w) (floors t w ws) in
    omega (arith, ap (λ v. v * w) fs, add-mul (t * x / w) (sum (floors t w ws)) w, sum_cons (t * x % w) (rests t w ws), ap (λ v. t * v) (sum_cons x ws), mul-add t x (sum ws), div-add-mod' (t * x) w)

-- every remainder is below the sum of the weights, and only those above 0 count
rests_sum_le : (t w : ℕ) (ws : List ℕ) → 0 < w → sum (rests t w ws) ≤ above 0 (rests t w ws) * w
rests_sum_le t w [] pos = omega arith
rests_sum_le t w (x ∷ ws) pos =
    let r = t * x % w in
    let rec = rests_sum_le t w ws pos in
    let lt = mod-lt (t * x) pos in
    let s = sum_cons r (rests t w ws) in
    let a = ap (λ v. v * w) (above_cons 0 r (rests t w ws)) in
    let b = add-mul (if nat_lt 0 r then 1 else 0) (above 0 (rests t w ws)) w in
    grind (arith, nat_tests)

rests_below : (t w : ℕ) (ws : List ℕ) → 0 < w → at_least w (rests t w ws) ≡ 0
rests_below t w [] pos = refl
rests_below t w (x ∷ ws) pos =
    let rec = rests_below t w ws pos in
    let lt = mod-lt (t * x) pos in
    let a = at_least_cons w (t * x % w) (rests t w ws) in
    grind (arith, nat_tests)

-- the parts rounded down do not pass the total
pub floors_sum_le : (t w : ℕ) (ws : List ℕ) → 0 < w → sum ws ≤ w → sum (floors t w ws) ≤ t
floors_sum_le t w ws pos le =
    le_of_mul-le-mul_right (omega (arith, parts_sum t w ws, mul-le-mul_left t le)) pos

-- what the front of the list takes, with one claimant more
pub floors_front : (t w : ℕ) (ws : List ℕ) (i : ℕ) → i < length ws → sum (floors t w (take (i + 1) ws)) ≡ sum (floors t w (take i ws)) + t * slice_index ws i / w
floors_front t w ws i h = ap sum (map_more (λ x. t * x / w) ws i 0 h) ∙ sum_by_push (λ x. x) (floors t w (take i ws)) (t * slice_index ws i / w)

floors_over_none : (t : ℕ) (ws : List ℕ) → sum (floors t 0 ws) ≡ 0
floors_over_none t [] = refl
floors_over_none t (x ∷ ws) = omega (arith, sum_cons (t * x / 0) (floors t 0 ws), div-zero (t * x), floors_over_none t ws)

pub floors_front_le : (t w : ℕ) (ws : List ℕ) (i : ℕ) → w ≡ sum ws → sum (floors t w (take i ws)) ≤ t
floors_front_le t zero ws i e = omega (arith, floors_over_none t (take i ws))
floors_front_le t (suc w) ws i e = floors_sum_le t (suc w) (take i ws) (omega arith) (omega (arith, sum_by-take-le (λ x. x) ws i))

-- a claimant's part fits what the claimants before it leave
pub floor_fits : (t w : ℕ) (ws : List ℕ) (i : ℕ) → w ≡ sum ws → i < length ws → sum (floors t w (take i ws)) + t * slice_index ws i / w ≤ t
floor_fits t w ws i e h = omega (arith, floors_front t w ws i h, floors_front_le t w ws (i + 1) e)

-- the units left over, by the code's and the rule's words
abbrev pub left_over : ℕ → ℕ → List ℕ → ℕ
left_over t w ws = t - sum (floors t w ws)

-- no more are left over than there are remainders above 0
pub left_le_above : (t : ℕ) (ws : List ℕ) → 0 < sum ws → left_over t (sum ws) ws ≤ above 0 (rests t (sum ws) ws)
left_le_above t ws pos =
    let w = sum ws in
    let f = sum (floors t w ws) in
    let le = floors_sum_le t w ws pos (omega arith) in
    let whole : (t - f) + f ≡ t = omega arith in
    le_of_mul-le-mul_right {m = t - f} {n = above 0 (rests t w ws)} (omega (arith, sym (add-mul (t - f) f w) ∙ ap (λ v. v * w) whole, parts_sum t w ws, rests_sum_le t w ws pos)) pos

pub left_le_length : (t : ℕ) (ws : List ℕ) → 0 < sum ws → left_over t (sum ws) ws ≤ length (rests t (sum ws) ws)
left_le_length t ws pos =
    let rs = rests t (sum ws) ws in
    omega (arith, left_le_above t ws pos, above_le_at_least 0 rs, at_least_none rs)

rests_of_none : (k w : ℕ) (ws : List ℕ) → above k (rests 0 w ws) ≡ 0
rests_of_none k w [] = refl
rests_of_none k w (x ∷ ws) =
    let z : 0 * x % w ≡ 0 = simp (zero-mul, zero-mod) in
    let rec = rests_of_none k w ws in
    let a = above_cons k (0 * x % w) (rests 0 w ws) in
    grind (arith, nat_tests)

-- of an accepted pot: there are claimants enough for the units left over, and no remainder passes the sum of the weights
pub takers : (t : ℕ) (ws : List ℕ) → (0 < t → 0 < sum ws) → left_over t (sum ws) ws ≤ length (rests t (sum ws) ws)
takers zero ws weighed = omega arith
takers (suc t) ws weighed = left_le_length (suc t) ws (weighed (omega arith))

pub bounded : (t : ℕ) (ws : List ℕ) → (0 < t → 0 < sum ws) → above (sum ws) (rests t (sum ws) ws) ≡ 0
bounded zero ws weighed = rests_of_none (sum ws) (sum ws) ws
bounded (suc t) ws weighed =
    let rs = rests (suc t) (sum ws) ws in
    omega (arith, above_le_at_least (sum ws) rs, rests_below (suc t) (sum ws) ws (weighed (omega arith)))

-- the shares by any cutoff for the units left over
pub shared_dealt : (t w k : ℕ) (ws : List ℕ) → Cut (left_over t w ws) k (rests t w ws) → shared_by t w ws ≡ added (floors t w ws) (dealt k (left_over t w ws - above k (rests t w ws)) (rests t w ws))
shared_dealt t w k ws cut =
    ap (added (floors t w ws)) (odd_units_dealt (left_over t w ws) k [] (rests t w ws) cut ∙ ap (λ v. dealt k v (rests t w ws)) (omega arith))

-- the shares by a cutoff
abbrev pub given : ℕ → ℕ → ℕ → ℕ → List ℕ → List ℕ
given t w k e ws = added (floors t w ws) (dealt k e (rests t w ws))

near_one : (t w x u : ℕ) → 0 < w → u ≤ 1 → (0 < u → 0 < t * x % w) → Near t w x (t * x / w + u)
near_one t w x zero pos le some = omega (arith, div-add-mod' (t * x) w, mod-lt (t * x) pos)
near_one t w x (suc u) pos le some = omega (arith, some (omega arith), add-mul (t * x / w) 1 w, ap (λ v. (t * x / w + suc v) * w) (let z : u ≡ 0 = omega arith in z), div-add-mod' (t * x) w, mod-lt (t * x) pos)

-- no claimant with remainder 0 has an odd unit, so each share is near
pub near_dealt : (t w k e : ℕ) (ws : List ℕ) → 0 < w → (k ≡ 0 → e ≡ 0) → AllZip (Near t w) ws (added (floors t w ws) (dealt k e (rests t w ws)))
near_dealt t w k e [] pos none = tt
near_dealt t w k e (x ∷ ws) pos none =
    let r = t * x % w in (
      near_one t w x (unit k e r) pos (unit_le k e r) (λ h. grind (arith, nat_tests)),
      near_dealt t w k (spared k e r) ws pos (λ z. grind (arith, nat_tests)),
    )

odd_units_none : (earlier later : List ℕ) → odd_units 0 earlier later ≡ replicate (length later) 0
odd_units_none xs [] = refl
odd_units_none xs (r ∷ ys) =
    let rec = odd_units_none (xs ++ r ∷ []) ys in
    grind (arith, nat_tests)

floors_none : (w : ℕ) (ws : List ℕ) → floors 0 w ws ≡ replicate (length ws) 0
floors_none w [] = refl
floors_none w (x ∷ ws) =
    let rec = floors_none w ws in
    let z : 0 * x / w ≡ 0 = simp (zero-mul, zero-div) in
    cc

added_none : (n : ℕ) → added (replicate n 0) (replicate n 0) ≡ replicate n 0
added_none zero = refl
added_none (suc n) = ap (λ (v : List ℕ). 0 ∷ v) (added_none n)

-- of nothing everybody gets nothing
pub remainders_nothing : (w : ℕ) (ws : List ℕ) → shared_by 0 w ws ≡ replicate (length ws) 0
remainders_nothing w ws =
    let n : length (rests 0 w ws) ≡ length ws = length-map ws _ in
    let z : left_over 0 w ws ≡ 0 = omega arith in
    ap (λ v. added (floors 0 w ws) (odd_units v [] (rests 0 w ws))) z
    ∙ ap (added (floors 0 w ws)) (odd_units_none [] (rests 0 w ws) ∙ ap (λ v. replicate v 0) n)
    ∙ ap (λ v. added v (replicate (length ws) 0)) (floors_none w ws)
    ∙ added_none (length ws)

module _ (t : ℕ) (ws : List ℕ) (pos : 0 < sum ws) where
  some_cut : (k : ℕ) × Cut (left_over t (sum ws) ws) k (rests t (sum ws) ws)
  some_cut =
      let rs = rests t (sum ws) ws in
      cut_below (sum ws) (left_over t (sum ws) ws) rs (left_le_length t ws pos) (omega (arith, rests_below t (sum ws) ws pos))

  whole_by : (k : ℕ) → Cut (left_over t (sum ws) ws) k (rests t (sum ws) ws) → sum (remainders t ws) ≡ t
  whole_by k cut =
      let w = sum ws in
      let rs = rests t w ws in
      let e = left_over t w ws - above k rs in
      let n : length (floors t w ws) ≡ length (dealt k e rs) = length-map ws _ ∙ sym (dealt_length k e rs ∙ length-map ws _) in
      ap sum (shared_dealt t w k ws cut) ∙ sum_added (floors t w ws) (dealt k e rs) n ∙ omega (arith, dealt_sum k e rs (omega (arith, cut.fits, cut.enough)), cut.fits, floors_sum_le t w ws pos (omega arith))

  near_by : (k : ℕ) → Cut (left_over t (sum ws) ws) k (rests t (sum ws) ws) → AllZip (Near t (sum ws)) ws (remainders t ws)
  near_by k cut =
      let w = sum ws in
      let rs = rests t w ws in
      subst (λ (v : List ℕ). AllZip (Near t w) ws v) (sym (shared_dealt t w k ws cut)) (near_dealt t w k (left_over t w ws - above k rs) ws pos (λ z. omega (arith, left_le_above t ws pos, ap (λ v. above v rs) z)))

pub remainders_fair : Fair remainders
remainders_fair = record {
  long = λ t ws. added_length (floors t (sum ws) ws) _ ∙ length-map ws _;
  whole = λ t ws pos. whole_by t ws pos (some_cut t ws pos).0 (some_cut t ws pos).1;
  near = λ t ws pos. near_by t ws pos (some_cut t ws pos).0 (some_cut t ws pos).1;
  none = λ ws e. remainders_nothing (sum ws) ws;
}

pub remainders_titled : Title (codes "remainders")
remainders_titled = search rules
