-- The method Stated keeps the laws of a period.
use Rattle.std.proofs.Common.{◌≡◌, ℕ, ◌+◌, ◌-◌, ◌*◌, ◌<◌, ◌≤◌, List, Some, None, sum, Option, sym, refl, ap, subst, mul-le-mul, arith}
use Rattle.std.proofs.lemmas.List.Sums.{sum-map}
use Rattle.sharing.specs.Rule.{Shares, Fair}
use Rattle.house.specs.declared.method.Method.TheVariants.{Stated}
use Rattle.billing.specs.declared.counting.Role.{Role}
use Rattle.billing.specs.declared.counting.Role.TheVariants.{Read, Plain, Detached}
use Rattle.billing.specs.declared.counting.CountedRoom.{CountedRoom}
use Rattle.billing.specs.Counting.{if_read, if_plain, pipe, all_area, plain_area, read_sum, pipe_sum}
use Rattle.billing.specs.Pots.{pot_shares, plain_by_area, Both}
use Rattle.billing.specs.Fraction.{whole, over}
use Rattle.billing.specs.Stated.{common_figure, rest, floor, surcharge, excess, surcharges, excesses, deductions, gross, gross_heats, own_heats, common_shares, exact_own}
use Rattle.billing.specs.Period.{given, bills, Lawful, Laws}
use Rattle.billing.proofs.Beside.{both_length, both_weaker, both_through, become, meet, sum_beside, sum_less, sum_over, beside_second}
use Rattle.billing.proofs.PotLaws.{Portion, Falls, portion_le, shares_fall, shares_total}
use Rattle.billing.proofs.FractionLaws.{Lies, lies_whole, lies_minus, over_le, portion_lies}
use Rattle.billing.proofs.RoomLaws.{sums_add, some_area, area_shares_fall, area_shares_total, plain_shares_fall, plain_shares_total}
use Rattle.billing.proofs.FloorLaws.{surcharges_le, excess_weights}
use Rattle.billing.proofs.BillLaws.{read_heat, Own, laws_hold}

-- the figures that are billed and shared make up the total
pub figures_sum : (rooms : List CountedRoom) (total : ℕ) (q : Option ℕ) → read_sum rooms + pipe_sum rooms + given q ≤ total → read_sum rooms + pipe_sum rooms + rest rooms total q + common_figure rooms total q ≡ total
figures_sum rooms total (Some q) within = omega arith
figures_sum rooms total None within = omega arith

module _ (percent : ℕ) (rooms : List CountedRoom) (total : ℕ) (q : Option ℕ) (low : percent ≤ 100) where
  -- what a room is billed before the deduction, of the rest nothing
  abbrev base : CountedRoom → ℕ
  base r = gross (surcharge percent rooms r) r.role 0

  abbrev Deducted : Role → ℕ → ℕ → Type 0
  Deducted role exc d = Falls (Portion (surcharges percent rooms) (excesses percent rooms)) (if_read role (λ _. Some exc) None) d

  abbrev Rest_share : Role → ℕ → ℕ → Type 0
  Rest_share role area s = Falls (Portion (rest rooms total q) (plain_area rooms)) (if_plain role (Some area) None) s

  -- by its role, what a room is billed before the deduction
  abbrev Gross : Role → ℕ → ℕ → ℕ → Type 0
  Gross (Read m) area sur g = g ≡ m + sur
  Gross Plain area sur g = Portion (rest rooms total q) (plain_area rooms) area g
  Gross (Detached t) area sur g = g ≡ t

  gross_is : (role : Role) (area sur s : ℕ) → Rest_share role area s → Gross role area sur (gross sur role s)
  gross_is (Read m) area sur s h = refl
  gross_is Plain area sur s h = h
  gross_is (Detached t) area sur s h = refl

  -- no deduction passes the excess
  deducted_le : (exc d : ℕ) → Portion (surcharges percent rooms) (excesses percent rooms) exc d → d ≤ exc
  deducted_le exc d p = portion_le (surcharges percent rooms) (excesses percent rooms) exc d (surcharges_le percent rooms low) p

  abbrev room : Role → ℕ → CountedRoom
  room role area = record { area = area; role = role }

  own_is : (role : Role) (area g d : ℕ) → Gross role area (surcharge percent rooms (room role area)) g → Deducted role (excess percent rooms (room role area)) d → Own 1 1 (if_read role (λ _. floor percent rooms area) 0) (g - d) (exact_own percent rooms total q (room role area))
  own_is (Read m) area g d e p =
      let f = floor percent rooms area in
      let le = deducted_le (m - f) d p in
      let part : surcharges percent rooms * (m - f) ≤ (m + (f - m)) * excesses percent rooms =
      omega (arith, mul-le-mul (surcharges_le percent rooms low) (let h : m - f ≤ m + (f - m) = omega arith in h)) in
      record {
        near = subst (λ (v : ℕ). Lies 1 1 (v - d) (exact_own percent rooms total q (room (Read m) area))) (sym e)
            (lies_minus 1 1 (m + (f - m)) d (over (surcharges percent rooms * (m - f)) (excesses percent rooms)) (omega arith) (over_le _ _ _ part)
            (portion_lies (surcharges percent rooms) (excesses percent rooms) (m - f) d p));
        enough = omega arith;
      }
  own_is Plain area g d p z = record {
    near = subst (λ (v : ℕ). Lies 1 1 v (over (rest rooms total q * area) (plain_area rooms))) (let e : g ≡ g - d = omega arith in e) (portion_lies (rest rooms total q) (plain_area rooms) area g p);
    enough = omega arith;
  }
  own_is (Detached t) area g d e z = record {
    near = subst (λ (v : ℕ). Lies 1 1 v (whole t)) (let e : t ≡ g - d = omega arith in e) (lies_whole 1 1 t (omega arith) (omega arith));
    enough = omega arith;
  }

  -- a deduction leaves the rest of what is billed
  less : (role : Role) (area f g d : ℕ) → Gross role area (if_read role (λ m. f - m) 0) g → Deducted role (if_read role (λ m. m - f) 0) d → (g - d) + d ≡ g
  less role area f g d h k = grind (arith, deducted_le)

  less_read : (role : Role) (area f g d : ℕ) → Gross role area (if_read role (λ m. f - m) 0) g → Deducted role (if_read role (λ m. m - f) 0) d → if_read role (λ _. g - d) 0 + d ≡ if_read role (λ m. m + (f - m)) 0
  less_read role area f g d h k = grind (arith, deducted_le)

  -- what each room is billed before the deduction, and its deduction
  abbrev Heat : CountedRoom → ℕ → Type 0
  Heat r g = Gross r.role r.area (surcharge percent rooms r) g

  abbrev Less : CountedRoom → ℕ → Type 0
  Less r d = Deducted r.role (excess percent rooms r) d

  module _ (shares : Shares) (fair : Fair shares) where
    covered : 0 < surcharges percent rooms → 0 < excesses percent rooms
    covered some = omega (arith, surcharges_le percent rooms low)

    abbrev claim : CountedRoom → Option ℕ
    claim r = if_read r.role (λ _. Some (excess percent rooms r)) None

    deductions_fall : Both Less rooms (deductions shares percent rooms)
    deductions_fall = shares_fall shares fair (surcharges percent rooms) claim rooms (excesses percent rooms) (excess_weights percent rooms) covered

    deductions_sum : sum (deductions shares percent rooms) ≡ surcharges percent rooms
    deductions_sum = shares_total shares fair (surcharges percent rooms) claim rooms (excesses percent rooms) (excess_weights percent rooms) covered

    module _ (weighed : 0 < rest rooms total q → 0 < plain_area rooms) where
      abbrev rests : List ℕ
      rests = pot_shares shares (rest rooms total q) (plain_by_area rooms)

      abbrev Share : CountedRoom → ℕ → Type 0
      Share r s = Rest_share r.role r.area s

      abbrev heat : CountedRoom → ℕ → ℕ
      heat r s = gross (surcharge percent rooms r) r.role s

      rests_fall : Both Share rooms rests
      rests_fall = plain_shares_fall shares fair (rest rooms total q) rooms weighed

      heats_fall : Both Heat rooms (gross_heats shares percent rooms total q)
      heats_fall = become Share Heat heat (λ r s h. gross_is r.role r.area (surcharge percent rooms r) s h) rooms rests rests_fall

      -- no deduction passes what its room is billed
      pub deductions_covered : Both (λ (g d : ℕ). d ≤ g) (gross_heats shares percent rooms total q) (deductions shares percent rooms)
      deductions_covered =
          both_through Heat Less (λ (g d : ℕ). d ≤ g) (λ r g d h k. omega (arith, less r.role r.area (floor percent rooms r.area) g d h k))
          rooms (gross_heats shares percent rooms total q) (deductions shares percent rooms) heats_fall deductions_fall

      pub stated_laws : Lawful (Stated percent) rooms → read_sum rooms + pipe_sum rooms + given q ≤ total → Laws (Stated percent) rooms total q (bills shares (Stated percent) rooms total q)
      stated_laws lawful within =
          let sur = surcharge percent rooms in
          let fl : CountedRoom → ℕ = λ r. floor percent rooms r.area in
          let c = common_figure rooms total q in
          let area = some_area rooms lawful.some lawful.areas in
          let deds = deductions shares percent rooms in
          let heats = gross_heats shares percent rooms total q in
          let owns = own_heats shares percent rooms total q in
          let commons = common_shares shares rooms total q in
          let Mine : CountedRoom → ℕ → Type 0 = λ r o. Own 1 1 (if_read r.role (λ _. fl r) 0) o (exact_own percent rooms total q r) in
          let owned : Both Mine rooms owns = meet Heat Less Mine (λ g d. g - d) (λ r g d h k. own_is r.role r.area g d h k) rooms heats deds heats_fall deductions_fall in
          let read-base : CountedRoom → ℕ = λ r. if_read r.role (λ m. m + (fl r - m)) 0 in
          let reads = sums_add read-base (λ r. if_read r.role (λ m. m) 0) sur (λ r. grind arith) rooms in
          laws_hold (Stated percent) rooms total q (exact_own percent rooms total q) (λ r. over (c * r.area) (all_area rooms)) refl 1 1 1 1 owns commons (omega arith) (omega arith)
          owned
          (both_weaker (λ r s. Portion c (all_area rooms) r.area s) (λ r s. Lies 1 1 s (over (c * r.area) (all_area rooms)))
          (λ r s h. portion_lies c (all_area rooms) r.area s h) rooms commons (area_shares_fall shares fair c rooms (λ _. area)))
          (omega (
            arith,
            sum_less Heat Less (λ _ o. o) (λ _ g. g) (λ r g d h k. less r.role r.area (fl r) g d h k) rooms heats deds heats_fall deductions_fall,
            ap sum (beside_second rooms owns (both_length Mine rooms owns owned)),
            ap sum (beside_second rooms heats (both_length Heat rooms heats heats_fall)),
            sum_beside Share heat base (λ r s h. grind arith) rooms rests rests_fall,
            sums_add base read-base (λ r. pipe r.role) (λ r. grind arith) rooms,
            reads,
            sum-map sur rooms,
            deductions_sum,
            plain_shares_total shares fair (rest rooms total q) rooms weighed,
            area_shares_total shares fair c rooms (λ _. area),
            figures_sum rooms total q within,
          ))
          (omega (
            arith,
            sum_less Heat Less read_heat (λ r _. read-base r) (λ r g d h k. less_read r.role r.area (fl r) g d h k) rooms heats deds heats_fall deductions_fall,
            sum_over (λ r _. read-base r) heat read-base (λ r s. refl) rooms rests,
            reads,
            sum-map sur rooms,
            deductions_sum,
          ))
