-- What follows from the laws of a sharing for every rule.
use Rattle.std.proofs.Common.{◌≡◌, ℕ, zero, suc, ◌*◌, ◌<◌, ◌≤◌, List, [], ◌∷◌, length, take, IfOk, Ok, Err, sum, Result, sym, refl, ap, ◌∙◌, ⊎_elim, mul-le-mul_right, one-mul, mul-zero, arith}
use Rattle.std.specs.List.{AllZip}
use Rattle.std.proofs.ByRecursion.{All-from_get_or}
use Rattle.std.proofs.lemmas.Bool.{cases_lt}
use Rattle.std.proofs.lemmas.List.Folds.{sum_by-replicate}
use Rattle.fault.specs.declared.refusal.Fault.{Fault}
use Rattle.sharing.specs.Rule.{Shares, Near, Fair, Modest}
use Rattle.sharing.specs.Refusal.{refusal, answer, placed}
use Rattle.sharing.proofs.Answered.{ok_is_none, within_limits, placed_front}
use Rattle.sharing.specs.Totals.{entry_le_sum}

-- a share of weight 0 is below one unit
none_near : (t w x s : ℕ) → Near t w x s → x ≡ 0 → s ≡ 0
none_near t w x zero near e = refl
none_near t w x (suc s) near e = absurd (omega (arith, near.0, ap (λ v. t * v) e, mul-zero t, mul-le-mul_right {m = 1} {n = suc s} w (omega arith), one-mul w))

all_none_near : (t w : ℕ) (ws ss : List ℕ) → AllZip (Near t w) ws ss → AllZip (λ x s. x ≡ 0 → s ≡ 0) ws ss
all_none_near t w [] [] h = tt
all_none_near t w [] (s ∷ ss) h = h
all_none_near t w (x ∷ ws) [] h = h
all_none_near t w (x ∷ ws) (s ∷ ss) (near, h) = (none_near t w x s near, all_none_near t w ws ss h)

pub modest : (shares : Shares) → Fair shares → Modest shares
modest shares fair = record {
  within = λ t ws pos. All-from_get_or (λ s. s ≤ t) (shares t ws) 0 (λ i h. omega (arith, entry_le_sum (shares t ws) i h, fair.whole t ws pos));
  weightless = λ t ws pos. all_none_near t (sum ws) ws (shares t ws) (fair.near t ws pos);
}

-- the shares of an accepted sharing add up to the total, also where nobody has a weight
pub shares_sum : (shares : Shares) → Fair shares → (t : ℕ) (ws : List ℕ) → (0 < t → 0 < sum ws) → sum (shares t ws) ≡ t
shares_sum shares fair t ws weighed =
    ⊎_elim
    (λ pos. fair.whole t ws pos)
    (λ none. let z : t ≡ 0 = no_total t weighed none in ap (λ v. sum (shares v ws)) z ∙ ap sum (fair.none ws (omega arith)) ∙ omega (arith, sum_by-replicate (λ x. x) (length ws) 0))
    (cases_lt 0 (sum ws))
  where
    no_total : (n : ℕ) → (0 < n → 0 < sum ws) → sum ws ≤ 0 → n ≡ 0
    no_total zero w none = refl
    no_total (suc n) w none = absurd (omega (arith, w (omega arith)))

-- where a sharing is accepted, the front of the place adds up to the total
pub paid_whole : (shares : Shares) → Fair shares → (t : ℕ) (ws old : List ℕ) (r : Result (Unit {0}) Fault) (now : List ℕ) → r ≡ answer (refusal t ws (length old)) tt → now ≡ placed (refusal t ws (length old)) (shares t ws) old → IfOk r (λ _. sum (take (length ws) now) ≡ t)
paid_whole shares fair t ws old (Err f) now e after = tt
paid_whole shares fair t ws old (Ok u) now e after =
    let o = refusal t ws (length old) in
    let none = (ok_is_none o tt u (sym e)).0 in
    ap (λ v. sum (take (length ws) v)) after ∙ ap sum (placed_front o (shares t ws) old (length ws) none (fair.long t ws)) ∙ shares_sum shares fair t ws (within_limits t ws (length old) none).weighed
