-- What falls to a weight of the total.
use Rattle.std.specs.Prelude.{◌≡◌, ℕ, zero, suc, ◌+◌, ◌-◌, ◌*◌, ◌/◌, ◌≤◌}
use Rattle.std.proofs.Common.{ap, mul-add, div-mul-le_self, mul-div_cancel, arith}
use Rattle.std.proofs.Math.Nat.{div-zero}
use Rattle.std.proofs.lemmas.Nat.{le-div}

pub rising : (t p x w : ℕ) → t * p / w ≤ t * (p + x) / w
rising t p x zero = omega (arith, div-zero (t * p))
rising t p x (suc w) = le-div (t * p / suc w) (t * (p + x)) (suc w) (omega arith) (omega (arith, div-mul-le_self (t * p) (suc w), mul-add t p x))

-- what falls to claimants of weight p in all is at most the total
pub capped : (t p w : ℕ) → p ≤ w → t * p / w ≤ t
capped t p zero le = omega (arith, div-zero (t * p))
capped t p (suc w) le =
    let q : p + (suc w - p) ≡ suc w = omega arith in
    omega (arith, rising t p (suc w - p) (suc w), ap (λ v. t * v / suc w) q, mul-div_cancel t {n = suc w} (omega arith))
