-- The method Remainder keeps the laws of a period.
use Rattle.std.proofs.Common.{◌≡◌, ℕ, ◌-◌, ◌*◌, ◌/◌, ◌<◌, ◌≤◌, List, Some, None, Option, sym, refl, ap, ◌∙◌, subst, ⊎_elim, mul-div_cancel, arith}
use native.Mathlib.Nat.{div-zero}
use Rattle.std.proofs.lemmas.Bool.{cases_lt}
use Rattle.std.proofs.lemmas.Bool.Decides.{nat_tests}
use Rattle.sharing.specs.Rule.{Shares, Fair}
use Rattle.sharing.specs.Parts.{capped}
use Rattle.house.specs.declared.method.Method.TheVariants.{Remainder}
use Rattle.billing.specs.declared.counting.Role.{Role}
use Rattle.billing.specs.declared.counting.Role.TheVariants.{Read, Plain, Detached}
use Rattle.billing.specs.declared.counting.CountedRoom.{CountedRoom}
use Rattle.billing.specs.Counting.{if_read, if_plain, all_area, plain_area, read_sum}
use Rattle.billing.specs.Pots.{pot_shares, plain_by_area, Both}
use Rattle.billing.specs.Fraction.{Fraction, whole, over}
use Rattle.billing.specs.Remainder.{unread, claiming_area, common_pot, plain_pot, own_heats, common_shares}
use Rattle.billing.specs.Period.{bills, Lawful, Laws}
use Rattle.billing.proofs.Beside.{both_weaker, become, sum_beside, sum_over}
use Rattle.billing.proofs.PotLaws.{Portion, Falls}
use Rattle.billing.proofs.FractionLaws.{Lies, lies_whole, part_lies, left_lies}
use Rattle.billing.proofs.RoomLaws.{some_area, area_shares_fall, area_shares_total, plain_shares_fall, plain_shares_total}
use Rattle.billing.proofs.BillLaws.{read_heat, Own, laws_hold}

module _ (common : ℕ) (rooms : List CountedRoom) (total : ℕ) where
  pub common_pot_le : common_pot common rooms total ≤ unread rooms total
  common_pot_le = grind (arith, capped, div-zero)

  some_plain_pot : 0 < claiming_area common rooms → plain_pot common rooms total ≡ unread rooms total - common_pot common rooms total
  some_plain_pot pos = grind (arith, nat_tests)

  no_plain_pot : claiming_area common rooms ≤ 0 → plain_pot common rooms total ≡ 0
  no_plain_pot none = grind (arith, nat_tests)

  pub plain_pot_le : plain_pot common rooms total ≤ unread rooms total
  plain_pot_le = grind (arith, nat_tests)

  -- with no plain room the common area claims all, if there is one
  pub plain_weighed : 0 < plain_pot common rooms total → 0 < plain_area rooms
  plain_weighed some =
      let u = unread rooms total in
      let d = claiming_area common rooms in
      ⊎_elim
      (λ pos. pos)
      (λ none. ⊎_elim
      (λ claimed.
      let all : u * common / d ≡ u = ap (λ v. u * v / d) (let e : common ≡ d = omega arith in e) ∙ mul-div_cancel u claimed in
      absurd (omega (arith, some_plain_pot claimed, all)))
      (λ unclaimed. absurd (omega (arith, no_plain_pot unclaimed)))
      (cases_lt 0 d))
      (cases_lt 0 (plain_area rooms))

  module _ (claimed : 0 < unread rooms total → 0 < claiming_area common rooms) where
    pub plain_pot_is : plain_pot common rooms total ≡ unread rooms total - common_pot common rooms total
    plain_pot_is = grind (arith, nat_tests)

module _ (common : ℕ) (rooms : List CountedRoom) (total : ℕ) (claimed : 0 < unread rooms total → 0 < claiming_area common rooms) where
  -- without rounding
  abbrev exact_own : CountedRoom → Fraction
  exact_own r = if_read r.role whole (if_plain r.role (over (unread rooms total * r.area) (claiming_area common rooms)) (whole 0))

  abbrev exact_common : CountedRoom → Fraction
  exact_common r = over (unread rooms total * common * r.area) (claiming_area common rooms * all_area rooms)

  -- what falls to a room of the plain pot
  abbrev Plain_share : Role → ℕ → ℕ → Type 0
  Plain_share role area s = Falls (Portion (plain_pot common rooms total) (plain_area rooms)) (if_plain role (Some area) None) s

  own_lies : (role : Role) (area s : ℕ) → Plain_share role area s → Lies 2 1 (if_read role (λ m. m) s) (exact_own (record { area = area; role = role }))
  own_lies (Read m) area s h = lies_whole 2 1 m (omega arith) (omega arith)
  own_lies Plain area s h = left_lies (unread rooms total) common (plain_area rooms) area s (subst (λ (v : ℕ). Portion v (plain_area rooms) area s) (plain_pot_is common rooms total claimed) h)
  own_lies (Detached t) area s h = subst (λ (v : ℕ). Lies 2 1 v (whole 0)) (sym h) (lies_whole 2 1 0 (omega arith) (omega arith))

  pub remainder_laws : (shares : Shares) → Fair shares → (q : Option ℕ) → Lawful (Remainder common) rooms → read_sum rooms ≤ total → Laws (Remainder common) rooms total q (bills shares (Remainder common) rooms total q)
  remainder_laws shares fair q lawful within =
      let p = plain_pot common rooms total in
      let c = common_pot common rooms total in
      let area = some_area rooms lawful.some lawful.areas in
      let plain-shares = pot_shares shares p (plain_by_area rooms) in
      let owns = own_heats shares common rooms total in
      let commons = common_shares shares common rooms total in
      let Share : CountedRoom → ℕ → Type 0 = λ r s. Plain_share r.role r.area s in
      let own : CountedRoom → ℕ → ℕ = λ r s. if_read r.role (λ m. m) s in
      let weighed = plain_weighed common rooms total in
      let falls : Both Share rooms plain-shares = plain_shares_fall shares fair p rooms weighed in
      laws_hold (Remainder common) rooms total q exact_own exact_common refl 2 1 1 2 owns commons (omega arith) (omega arith)
      (become Share (λ r o. Own 2 1 0 o (exact_own r)) own (λ r s h. record { near = own_lies r.role r.area s h; enough = omega arith }) rooms plain-shares falls)
      (both_weaker (λ r s. Portion c (all_area rooms) r.area s) (λ r s. Lies 1 2 s (exact_common r))
      (λ r s h. part_lies (unread rooms total * common) (claiming_area common rooms) (all_area rooms) r.area s area h)
      rooms commons (area_shares_fall shares fair c rooms (λ _. area)))
      (omega (
        arith,
        sum_beside Share own (λ r. if_read r.role (λ m. m) 0) (λ r s h. grind arith) rooms plain-shares falls,
        plain_shares_total shares fair p rooms weighed,
        area_shares_total shares fair c rooms (λ _. area),
        plain_pot_is common rooms total claimed,
        common_pot_le common rooms total,
      ))
      (sum_over read_heat own (λ r. if_read r.role (λ m. m) 0) (λ r s. grind arith) rooms plain-shares)
