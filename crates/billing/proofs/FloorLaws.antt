-- Floors, surcharges and excesses of the rooms that are read.
use Rattle.std.proofs.Common.{◌≡◌, ℕ, ◌+◌, ◌*◌, ◌/◌, ◌≤◌, List, [], ◌∷◌, Some, None, sum_by, sum, sym, refl, ap, ◌∙◌, ⊎_elim, mul-le-mul_right, mul-le-mul, div-mul-le_self, le_of_mul-le-mul_right, arith}
use native.Mathlib.Nat.{div-zero, div-le_of_le-mul}
use Rattle.std.proofs.lemmas.List.Sums.{sum_by-cons, sum-map}
use Rattle.std.proofs.lemmas.Bool.{cases_lt}
use Rattle.billing.specs.declared.counting.Role.{Role}
use Rattle.billing.specs.declared.counting.CountedRoom.{CountedRoom}
use Rattle.billing.specs.declared.floors.Floors.{Floors}
use Rattle.billing.specs.Counting.{if_read, read_area, read_sum}
use Rattle.billing.specs.Pots.{weights}
use Rattle.billing.specs.Stated.{floor, surcharge, excess, surcharges, excesses, by_excess}
use Rattle.billing.specs.Claims.{floor_by, surcharge_by}
use Rattle.billing.proofs.PotLaws.{weights_sum}
use Rattle.billing.proofs.RoomLaws.{sums_le, sums_add}

-- parts of a whole rounded down, of the rooms that are read
module _ (n d : ℕ) where
  abbrev part : CountedRoom → ℕ
  part r = if_read r.role (λ _. n * r.area / d) 0

  part_times : (role : Role) (area : ℕ) → if_read role (λ _. n * area / d) 0 * d ≤ n * if_read role (λ _. area) 0
  part_times role area = grind (arith, div-mul-le_self)

  parts_times : (rooms : List CountedRoom) → sum_by part rooms * d ≤ n * read_area rooms
  parts_times [] = omega arith
  parts_times (r ∷ rooms) =
      let area : CountedRoom → ℕ = λ r. if_read r.role (λ _. r.area) 0 in
      omega (arith, ap (λ v. v * d) (sum_by-cons part r rooms), ap (λ v. n * v) (sum_by-cons area r rooms), part_times r.role r.area, parts_times rooms)

  no_part : d ≡ 0 → (role : Role) (area : ℕ) → if_read role (λ _. n * area / d) 0 ≡ 0
  no_part z role area = grind (arith, div-zero)

  no_parts : d ≡ 0 → (rooms : List CountedRoom) → sum_by part rooms ≡ 0
  no_parts z [] = refl
  no_parts z (r ∷ rooms) = omega (arith, sum_by-cons part r rooms, no_part z r.role r.area, no_parts z rooms)

module _ (percent : ℕ) (rooms : List CountedRoom) where
  abbrev reading : CountedRoom → ℕ
  reading r = if_read r.role (λ m. m) 0

  abbrev floor_of : CountedRoom → ℕ
  floor_of r = if_read r.role (λ _. floor percent rooms r.area) 0

  -- the floors are parts of at most all that is read
  pub floors_le : percent ≤ 100 → sum_by floor_of rooms ≤ read_sum rooms
  floors_le le =
      let n = percent * read_sum rooms in
      let d = 100 * read_area rooms in
      ⊎_elim
      (λ pos. le_of_mul-le-mul_right {m = sum_by floor_of rooms} {n = read_sum rooms} (omega (arith, parts_times n d rooms, mul-le-mul_right (read_sum rooms * read_area rooms) le)) pos)
      (λ none. omega (arith, no_parts n d (let z : d ≡ 0 = omega arith in z) rooms))
      (cases_lt 0 d)

  balance : (r : CountedRoom) → reading r + surcharge percent rooms r ≡ floor_of r + excess percent rooms r
  balance r = grind arith

  -- what the floors add is covered by what lies above them
  pub surcharges_le : percent ≤ 100 → surcharges percent rooms ≤ excesses percent rooms
  surcharges_le le =
      let both : CountedRoom → ℕ = λ r. reading r + surcharge percent rooms r in
      omega (
        arith,
        sums_add both reading (surcharge percent rooms) (λ r. refl) rooms,
        sums_add both floor_of (excess percent rooms) balance rooms,
        floors_le le,
        sum-map (surcharge percent rooms) rooms,
        sum-map (excess percent rooms) rooms,
      )

  pub excesses_le : excesses percent rooms ≤ read_sum rooms
  excesses_le = omega (arith, sum-map (excess percent rooms) rooms, sums_le (excess percent rooms) reading (λ r. grind arith) rooms)

  pub excess_weights : sum (weights (by_excess percent rooms)) ≡ excesses percent rooms
  excess_weights = weights_sum (λ (r : CountedRoom). if_read r.role (λ _. Some (excess percent rooms r)) None) (excess percent rooms) (λ r. grind arith) rooms ∙ sym (sum-map (excess percent rooms) rooms)

-- no floor passes all readings, so no surcharge does
module _ (f : Floors) (low : f.percent ≤ 100) where
  floor_le : (area : ℕ) → area ≤ f.area → floor_by f area ≤ f.readings
  floor_le area part =
      div-le_of_le-mul (100 * f.area) {m = f.percent * f.readings * area} {n = f.readings}
      (omega (arith, mul-le-mul (mul-le-mul_right f.readings low) part))

  pub surcharge_by_le : (r : CountedRoom) → if_read r.role (λ _. r.area) 0 ≤ f.area → surcharge_by f r ≤ f.readings
  surcharge_by_le r part = grind (arith, floor_le)
