-- The rule of the running sum keeps the laws of a sharing.
use Rattle.std.specs.Prelude.{◌≡◌, ℕ, suc, ◌+◌, ◌-◌, ◌*◌, ◌/◌, ◌<◌, List, [], ◌∷◌, length, replicate, sum, codes, refl}
use Rattle.std.proofs.Common.{sym, ap, ◌∙◌, mul-add, add-mul, div-mul-le_self, mul-div_cancel, mul-zero, zero-mul, add-zero, zero-add, rules, arith}
use Rattle.std.proofs.Math.Nat.{lt-div-mul-add, zero-div}
use Rattle.std.specs.List.{AllZip}
use Rattle.sharing.specs.Rule.{Fair, Near, Title}
use Rattle.sharing.specs.Running.{running, running_from}
use Rattle.sharing.specs.Totals.{sum_cons}
use Rattle.sharing.specs.Parts.{rising}

pub running_length : (t w p : ℕ) (ws : List ℕ) → length (running_from t w p ws) ≡ length ws
running_length t w p [] = refl
running_length t w p (x ∷ ws) = ap suc (running_length t w (p + x) ws)

telescope : (t w p : ℕ) (ws : List ℕ) → sum (running_from t w p ws) + t * p / w ≡ t * (p + sum ws) / w
telescope t w p [] = zero-add (t * p / w) ∙ ap (λ v. t * v / w) (sym (add-zero p))
telescope t w p (x ∷ ws) =
    let ih = telescope t w (p + x) ws in
    let moved : p + sum (x ∷ ws) ≡ (p + x) + sum ws = omega (arith, sum_cons x ws) in
    omega (arith, sum_cons (t * (p + x) / w - t * p / w) (running_from t w (p + x) ws), ih, ap (λ v. t * v / w) moved, rising t p x w)

near_step : (t w p x : ℕ) → 0 < w → Near t w x (t * (p + x) / w - t * p / w)
near_step t w p x pos =
    let s = t * (p + x) / w - t * p / w in
    let split : s * w + t * p / w * w ≡ t * (p + x) / w * w = sym (add-mul s (t * p / w) w) ∙ ap (λ v. v * w) (let h = rising t p x w in omega arith) in
    omega (arith, split, div-mul-le_self (t * p) w, div-mul-le_self (t * (p + x)) w, lt-div-mul-add {a = t * p} pos, lt-div-mul-add {a = t * (p + x)} pos, mul-add t p x)

near : (t w p : ℕ) (ws : List ℕ) → 0 < w → AllZip (Near t w) ws (running_from t w p ws)
near t w p [] pos = tt
near t w p (x ∷ ws) pos = (near_step t w p x pos, near t w (p + x) ws pos)

-- of nothing everybody gets nothing
pub running_nothing : (w p : ℕ) (ws : List ℕ) → running_from 0 w p ws ≡ replicate (length ws) 0
running_nothing w p [] = refl
running_nothing w p (x ∷ ws) = ap (λ v. v ∷ running_from 0 w (p + x) ws) (simp (zero-mul, zero-div)) ∙ ap (λ v. 0 ∷ v) (running_nothing w (p + x) ws)

pub running_fair : Fair running
running_fair = record {
  long = λ t ws. running_length t (sum ws) 0 ws;
  whole = λ t ws pos. omega (arith, telescope t (sum ws) 0 ws, ap (λ v. t * v / sum ws) (zero-add (sum ws)), mul-div_cancel t pos, ap (λ v. v / sum ws) (mul-zero t), zero-div (sum ws));
  near = λ t ws pos. near t (sum ws) 0 ws pos;
  none = λ ws e. running_nothing (sum ws) 0 ws;
}

pub running_titled : Title (codes "running")
running_titled = search rules
