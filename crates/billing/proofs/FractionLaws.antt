-- Amounts beside exact ones: how far above and how far below they lie.
use Rattle.std.proofs.Common.{◌≡◌, ℕ, ◌+◌, ◌-◌, ◌*◌, ◌/◌, ◌%◌, ◌<◌, ◌≤◌, ap, ◌∙◌, ⊎_elim, mul-le-mul_right, mod-lt, lt_of_mul-lt-mul_right, mul-le-mul_left, mul-lt-mul_of_pos_right, mul-pos, div-add-mod', arith}
use native.Mathlib.Nat.{div-zero}
use Rattle.std.proofs.lemmas.Bool.{cases_lt}
use Rattle.std.proofs.lemmas.Bool.Decides.{nat_tests}
use Rattle.billing.specs.Fraction.{Fraction, whole, over, plus, minus, Within}
use Rattle.sharing.specs.Parts.{capped}
use Rattle.billing.proofs.PotLaws.{Portion}

-- less than `up` units above a fraction and less than `down` units below it
pub record Lies (up down amount : ℕ) (x : Fraction) : Type 0 where
  pub real : 0 < x.bottom
  pub above : amount * x.bottom < x.top + up * x.bottom
  pub below : x.top < amount * x.bottom + down * x.bottom

pub lies_plus : (a b c d m n : ℕ) (x y : Fraction) → Lies a b m x → Lies c d n y → Lies (a + c) (b + d) (m + n) (plus x y)
lies_plus a b c d m n x y p q = record {
  real = mul-pos p.real q.real;
  above = omega (arith, mul-lt-mul_of_pos_right p.above q.real, mul-lt-mul_of_pos_right q.above p.real);
  below = omega (arith, mul-lt-mul_of_pos_right p.below q.real, mul-lt-mul_of_pos_right q.below p.real);
}

pub lies_within : (a b k m : ℕ) (x : Fraction) → a ≤ k → b ≤ k → Lies a b m x → Within k m x
lies_within a b k m x up down p =
    (omega (arith, p.above, mul-le-mul_right x.bottom up), omega (arith, p.below, mul-le-mul_right x.bottom down))

-- a whole amount is what it is
pub lies_whole : (up down n : ℕ) → 0 < up → 0 < down → Lies up down n (whole n)
lies_whole up down n a b = record { real = omega arith; above = omega arith; below = omega arith }

-- less a part that does not pass it
pub lies_minus : (a b g d : ℕ) (x : Fraction) → d ≤ g → x.top ≤ g * x.bottom → Lies a b d x → Lies b a (g - d) (minus (whole g) x)
lies_minus a b g d x le part p =
    let e : g ≡ (g - d) + d = omega arith in
    let split : g * x.bottom ≡ (g - d) * x.bottom + d * x.bottom = omega (arith, ap (λ v. v * x.bottom) e) in
    record {
      real = omega (arith, p.real);
      above = omega (arith, split, p.below);
      below = omega (arith, split, p.above);
    }

module _ (up down amount n d : ℕ) where
  pub lies_over : 0 < d → amount * d < n + up * d → n < amount * d + down * d → Lies up down amount (over n d)
  lies_over pos a b = record { real = grind (arith, nat_tests); above = grind (arith, nat_tests); below = grind (arith, nat_tests) }

-- a quotient is at most g where its top is at most g times its bottom
pub over_le : (n d g : ℕ) → n ≤ g * d → (over n d).top ≤ g * (over n d).bottom
over_le n d g le = grind (arith, nat_tests)

-- nothing is one unit from nothing, and more
pub lies_none : (up down amount n d : ℕ) → 0 < up → 0 < down → amount ≡ 0 → d ≡ 0 → Lies up down amount (over n d)
lies_none up down amount n d a b zero-amount zero-d =
    record { real = grind (arith, nat_tests); above = grind (arith, nat_tests); below = grind (arith, nat_tests) }

-- a share of a pot is less than one unit from its exact part
pub portion_lies : (pot all weight share : ℕ) → Portion pot all weight share → Lies 1 1 share (over (pot * weight) all)
portion_lies pot all w s p = record { real = grind (arith, nat_tests); above = grind (arith, nat_tests); below = grind (arith, nat_tests) }

-- a share of a pot that is itself a part rounded down: less than one unit above and two below
pub part_lies : (n d all weight share : ℕ) → 0 < all → Portion (n / d) all weight share → Lies 1 2 share (over (n * weight) (d * all))
part_lies n d all w s some p =
    let near = p.near some in
    ⊎_elim
    (λ pos.
    let q = n / d in
    let r = n % d in
    let split : n * w ≡ q * d * w + r * w = omega (arith, ap (λ v. v * w) (div-add-mod' n d)) in
    lies_over 1 2 s (n * w) (d * all) (mul-pos pos some)
    (omega (arith, split, mul-lt-mul_of_pos_right near.0 pos))
    (omega (arith, split, mul-lt-mul_of_pos_right near.1 pos, mul-le-mul_left r p.part, mul-lt-mul_of_pos_right (mod-lt n pos) some)))
    (λ none.
    let z : d ≡ 0 = omega arith in
    let q : n / d ≡ 0 = ap (λ v. n / v) z ∙ div-zero n in
    let below : s * all < 1 * all = omega (arith, near.0, ap (λ v. v * w) q) in
    lies_none 1 2 s (n * w) (d * all) (omega arith) (omega arith) (omega (arith, lt_of_mul-lt-mul_right all below)) (omega (arith, ap (λ v. v * all) z)))
    (cases_lt 0 d)

-- a share of what such a part leaves: less than two units above and one below
pub left_lies : (u a all weight share : ℕ) → Portion (u - u * a / (a + all)) all weight share → Lies 2 1 share (over (u * weight) (a + all))
left_lies u a all w s p =
    ⊎_elim
    (λ pos.
    let d = a + all in
    let r = u * a % d in
    let q = u * a / d in
    let real : 0 < d = omega arith in
    let near = p.near pos in
    let e : u ≡ (u - q) + q = omega (arith, capped u a d (omega arith)) in
    let split : (u - q) * d ≡ u * all + r = omega (arith, ap (λ v. v * d) e, div-add-mod' (u * a) d) in
    let times : (u - q) * w * d ≡ u * w * all + r * w = omega (arith, ap (λ v. v * w) split) in
    let odd : r * w < d * all = omega (arith, mul-le-mul_left r p.part, mul-lt-mul_of_pos_right (mod-lt (u * a) real) pos) in
    lies_over 2 1 s (u * w) d real
    (lt_of_mul-lt-mul_right all {m = s * d} {n = u * w + 2 * d} (omega (arith, times, odd, mul-lt-mul_of_pos_right near.0 real)))
    (lt_of_mul-lt-mul_right all {m = u * w} {n = s * d + 1 * d} (omega (arith, times, mul-lt-mul_of_pos_right near.1 real))))
    (λ none.
    let z : s ≡ 0 = p.none (omega arith) in
    let unweighed : u * w ≡ 0 = omega (arith, ap (λ v. u * v) (let v : w ≡ 0 = omega (arith, p.part) in v)) in
    ⊎_elim
    (λ real. lies_over 2 1 s (u * w) (a + all) real (omega (arith, ap (λ v. v * (a + all)) z)) (omega arith))
    (λ zero-d. lies_none 2 1 s (u * w) (a + all) (omega arith) (omega arith) z (omega arith))
    (cases_lt 0 (a + all)))
    (cases_lt 0 all)
