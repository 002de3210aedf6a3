-- Bills made of own heats and common shares that keep the laws.
use Rattle.std.proofs.Common.{◌≡◌, ℕ, ◌+◌, ◌≤◌, List, [], ◌∷◌, map, length, sum_by, sum, Option, sym, refl, ◌∙◌, subst, arith}
use Rattle.std.proofs.lemmas.List.Sums.{sum_by-cons}
use Rattle.sharing.specs.Totals.{sum_cons}
use Rattle.house.specs.declared.method.Method.{Method}
use Rattle.billing.specs.declared.counting.CountedRoom.{CountedRoom}
use Rattle.billing.specs.Counting.{if_read, read_sum}
use Rattle.billing.specs.Pots.{beside, Both}
use Rattle.billing.specs.Fraction.{Fraction, Within, plus}
use Rattle.billing.specs.Period.{Bill, bill, exact_amounts, figures, floor, read_heats, Laws}
use Rattle.billing.proofs.Beside.{both_length, both_turned, both_weaker, meet}
use Rattle.billing.proofs.FractionLaws.{Lies, lies_plus, lies_within}

abbrev pub paired : List ℕ → List ℕ → List Bill
paired owns commons = beside bill owns commons

sum_paired : (owns commons : List ℕ) → length commons ≡ length owns → sum_by figures (paired owns commons) ≡ sum owns + sum commons
sum_paired [] [] e = refl
sum_paired [] (c ∷ cs) e = absurd (omega arith)
sum_paired (o ∷ os) [] e = absurd (omega arith)
sum_paired (o ∷ os) (c ∷ cs) e =
    omega (arith, sum_by-cons figures (bill o c) (paired os cs), sum_cons o os, sum_cons c cs, sum_paired os cs (omega arith))

-- the own heat of a room that is read
abbrev pub read_heat : CountedRoom → ℕ → ℕ
read_heat r own = if_read r.role (λ _. own) 0

read_paired : (rooms : List CountedRoom) (owns commons : List ℕ) → length owns ≡ length rooms → length commons ≡ length owns → read_heats rooms (paired owns commons) ≡ sum (beside read_heat rooms owns)
read_paired [] os cs e f = refl
read_paired (r ∷ rooms) [] cs e f = absurd (omega arith)
read_paired (r ∷ rooms) (o ∷ os) [] e f = absurd (omega arith)
read_paired (r ∷ rooms) (o ∷ os) (c ∷ cs) e f =
    omega (arith, sum_cons (read_heat r o) (beside read_heat rooms os), read_paired rooms os cs (omega arith) (omega arith))

-- an own heat so near to the exact one, and not below the least
pub record Own (up down least own : ℕ) (exact : Fraction) : Type 0 where
  pub near : Lies up down own exact
  pub enough : least ≤ own

module _ (method : Method) (rooms : List CountedRoom) (total : ℕ) (q : Option ℕ) (exact_own exact_common : CountedRoom → Fraction) (exact : exact_amounts method rooms total q ≡ map (λ r. plus (exact_own r) (exact_common r)) rooms) where
  abbrev exact_bill : CountedRoom → Fraction
  exact_bill r = plus (exact_own r) (exact_common r)

  pub laws_hold : (a b c d : ℕ) (owns commons : List ℕ) → a + c ≤ 3 → b + d ≤ 3 → Both (λ r o. Own a b (floor method rooms r) o (exact_own r)) rooms owns → Both (λ r s. Lies c d s (exact_common r)) rooms commons → sum owns + sum commons ≡ total → sum (beside read_heat rooms owns) ≡ read_sum rooms → Laws method rooms total q (paired owns commons)
  laws_hold a b c d owns commons up down os cs whole reads =
      let Mine : CountedRoom → ℕ → Type 0 = λ r o. Own a b (floor method rooms r) o (exact_own r) in
      let Theirs : CountedRoom → ℕ → Type 0 = λ r s. Lies c d s (exact_common r) in
      let Near : Bill → Fraction → Type 0 = λ bill x. Within 3 (figures bill) x in
      let Billed : CountedRoom → Bill → Type 0 = λ r bill. Near bill (exact_bill r) × (floor method rooms r ≤ bill.0) in
      let bills = paired owns commons in
      let each : Both Billed rooms bills =
      meet Mine Theirs Billed bill (λ r o s h k. (lies_within (a + c) (b + d) 3 (o + s) (exact_bill r) up down (lies_plus a b c d o s (exact_own r) (exact_common r) h.near k), h.enough)) rooms owns commons os cs in
      let n = both_length Mine rooms owns os in
      let m : length commons ≡ length owns = both_length Theirs rooms commons cs ∙ sym n in
      record {
        long = both_length Billed rooms bills each;
        closes = sum_paired owns commons m ∙ whole;
        near = subst (λ (v : List Fraction). Both Near bills v) (sym exact)
            (both_turned Near exact_bill rooms bills (both_weaker Billed (λ r bill. Near bill (exact_bill r)) (λ r bill h. h.0) rooms bills each));
        floors = both_weaker Billed (λ r (bill : Bill). floor method rooms r ≤ bill.0) (λ r bill h. h.1) rooms bills each;
        readings = read_paired rooms owns commons n m ∙ reads;
      }
