-- Odd units by a cutoff: one to each remainder above it, and the rest to the earliest of those at it.
use Rattle.std.specs.Prelude.{◌≡◌, ℕ, zero, suc, ◌+◌, ◌-◌, ◌<◌, ◌≤◌, if◌then◌else◌, List, [], ◌∷◌, ◌++◌, length, sum, nat_le, nat_lt, refl}
use Rattle.std.proofs.Common.{sym, ap, subst, append_assoc, ⊎_elim, arith}
use Rattle.std.proofs.lemmas.List.Sums.{sum_by-cons, sum_by-append}
use Rattle.std.proofs.lemmas.Bool.{cases_lt}
use Rattle.std.proofs.lemmas.Bool.Decides.{nat_tests}
use Rattle.sharing.specs.Remainders.{ahead, odd_units}
use Rattle.sharing.specs.Cutoff.{above, at_least, Cut, unit, spared, dealt}
use Rattle.sharing.specs.Totals.{sum_cons}

pub above_cons : (n x : ℕ) (xs : List ℕ) → above n (x ∷ xs) ≡ (if nat_lt n x then 1 else 0) + above n xs
above_cons n x xs = sum_by-cons (λ y. if nat_lt n y then 1 else 0) x xs

pub at_least_cons : (n x : ℕ) (xs : List ℕ) → at_least n (x ∷ xs) ≡ (if nat_le n x then 1 else 0) + at_least n xs
at_least_cons n x xs = sum_by-cons (λ y. if nat_le n y then 1 else 0) x xs

above_append : (n : ℕ) (xs ys : List ℕ) → above n (xs ++ ys) ≡ above n xs + above n ys
above_append n xs ys = sum_by-append (λ y. if nat_lt n y then 1 else 0) xs ys

at_least_append : (n : ℕ) (xs ys : List ℕ) → at_least n (xs ++ ys) ≡ at_least n xs + at_least n ys
at_least_append n xs ys = sum_by-append (λ y. if nat_le n y then 1 else 0) xs ys

-- counting is the rarer the larger the number
pub above_le_at_least : (n : ℕ) (xs : List ℕ) → above n xs ≤ at_least n xs
above_le_at_least n [] = omega arith
above_le_at_least n (x ∷ xs) = let h = above_le_at_least n xs in let a = above_cons n x xs in let b = at_least_cons n x xs in grind (arith, nat_tests)

pub at_least_le_above : (m n : ℕ) (xs : List ℕ) → m < n → at_least n xs ≤ above m xs
at_least_le_above m n [] lt = omega arith
at_least_le_above m n (x ∷ xs) lt = let h = at_least_le_above m n xs lt in let a = above_cons m x xs in let b = at_least_cons n x xs in grind (arith, nat_tests)

pub above_is_at_least : (n : ℕ) (xs : List ℕ) → above n xs ≡ at_least (suc n) xs
above_is_at_least n xs = refl

pub at_least_none : (xs : List ℕ) → at_least 0 xs ≡ length xs
at_least_none [] = refl
at_least_none (x ∷ xs) = let h = at_least_none xs in let b = at_least_cons 0 x xs in grind (arith, nat_tests)

-- what is left for those at the cutoff after the earlier claimants
abbrev spare_after : ℕ → ℕ → List ℕ → List ℕ → ℕ
spare_after left cutoff all earlier = left - above cutoff all - (at_least cutoff earlier - above cutoff earlier)

unit_above : (left cutoff rest : ℕ) (earlier later : List ℕ) → Cut left cutoff (earlier ++ rest ∷ later) → cutoff < rest → ahead earlier rest later < left
unit_above left k r xs ys cut h =
    let fits = cut.fits in
    let all = above_append k xs (r ∷ ys) in
    let one = above_cons k r ys in
    let before = at_least_le_above k r xs h in
    let after = above_le_at_least r ys in
    let rarer = at_least_le_above k r ys h in
    grind (arith, nat_tests)

unit_at : (cutoff rest : ℕ) (earlier later : List ℕ) → rest ≡ cutoff → ahead earlier rest later + above cutoff earlier ≡ above cutoff (earlier ++ rest ∷ later) + at_least cutoff earlier
unit_at k r xs ys e =
    let all = above_append k xs (r ∷ ys) in
    let one = above_cons k r ys in
    grind (arith, nat_tests)

unit_below : (left cutoff rest : ℕ) (earlier later : List ℕ) → Cut left cutoff (earlier ++ rest ∷ later) → rest < cutoff → left ≤ ahead earlier rest later
unit_below left k r xs ys cut h =
    let enough = cut.enough in
    let all = at_least_append k xs (r ∷ ys) in
    let one = at_least_cons k r ys in
    let before = at_least_le_above r k xs h in
    let rarer = above_le_at_least r xs in
    let after = at_least_le_above r k ys h in
    grind (arith, nat_tests)

module _ (left k r : ℕ) (xs ys : List ℕ) where
  abbrev spare : ℕ
  spare = spare_after left k (xs ++ r ∷ ys) xs

  odd_unit : Cut left k (xs ++ r ∷ ys) → (if nat_lt (ahead xs r ys) left then 1 else 0) ≡ unit k spare r
  odd_unit cut =
      let more : k < r → ahead xs r ys < left = unit_above left k r xs ys cut in
      let same : r ≡ k → ahead xs r ys + above k xs ≡ above k (xs ++ r ∷ ys) + at_least k xs = unit_at k r xs ys in
      let less : r < k → left ≤ ahead xs r ys = unit_below left k r xs ys cut in
      let fits = cut.fits in
      let rarer = above_le_at_least k xs in
      grind (arith, nat_tests)

  -- one claimant more among the earlier
  spare_next : spare_after left k ((xs ++ r ∷ []) ++ ys) (xs ++ r ∷ []) ≡ spared k spare r
  spare_next =
      let all = ap (above k) (append_assoc xs (r ∷ []) ys) in
      let a = at_least_append k xs (r ∷ []) in
      let b = at_least_cons k r [] in
      let c = above_append k xs (r ∷ []) in
      let d = above_cons k r [] in
      let rarer = above_le_at_least k xs in
      grind (arith, nat_tests)

-- the largest remainders, the earlier first, are those that a cutoff picks
pub odd_units_dealt : (left cutoff : ℕ) (earlier later : List ℕ) → Cut left cutoff (earlier ++ later) → odd_units left earlier later ≡ dealt cutoff (spare_after left cutoff (earlier ++ later) earlier) later
odd_units_dealt left k xs [] cut = refl
odd_units_dealt left k xs (r ∷ ys) cut =
    let later = odd_units_dealt left k (xs ++ r ∷ []) ys (subst (Cut left k) (sym (append_assoc xs (r ∷ []) ys)) cut) in
    let one = odd_unit left k r xs ys cut in
    let next = spare_next left k r xs ys in
    cc

pub unit_le : (cutoff spare rest : ℕ) → unit cutoff spare rest ≤ 1
unit_le k e r = grind (arith, nat_tests)

pub dealt_length : (cutoff spare : ℕ) (rests : List ℕ) → length (dealt cutoff spare rests) ≡ length rests
dealt_length k e [] = refl
dealt_length k e (r ∷ rs) = ap suc (dealt_length k (spared k e r) rs)

-- each above the cutoff has one unit, and of those at it as many as are spare
pub dealt_sum : (cutoff spare : ℕ) (rests : List ℕ) → above cutoff rests + spare ≤ at_least cutoff rests → sum (dealt cutoff spare rests) ≡ above cutoff rests + spare
dealt_sum k e [] h = omega arith
dealt_sum k e (r ∷ rs) h =
    let a = above_cons k r rs in
    let b = at_least_cons k r rs in
    let rarer = above_le_at_least k rs in
    let s = sum_cons (unit k e r) (dealt k (spared k e r) rs) in
    let rec = dealt_sum k (spared k e r) rs (grind (arith, nat_tests)) in
    grind (arith, nat_tests)

-- there is a cutoff for any number of units that the claimants can take
pub cut_below : (bound left : ℕ) (rests : List ℕ) → left ≤ length rests → at_least bound rests ≤ left → (cutoff : ℕ) × Cut left cutoff rests
cut_below zero left rs h b = (0, record { fits = omega (arith, above_le_at_least 0 rs); enough = omega (arith, at_least_none rs) })
cut_below (suc m) left rs h b =
    ⊎_elim
    (λ lt. (m, record { fits = omega (arith, above_is_at_least m rs); enough = omega arith }))
    (λ le. cut_below m left rs h le)
    (cases_lt left (at_least m rs))
