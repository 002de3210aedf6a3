-- The search of a room by its number, where the numbers rise.
use Rattle.std.proofs.Common.{◌≡◌, ℕ, zero, suc, ◌+◌, ◌<◌, ◌≤◌, true, List, [], ◌∷◌, length, get_or, Ok, Err, inl, inr, sym, refl, ap, ◌∙◌, add-zero, arith}
use Rattle.std.specs.List.Sorted.{IsSearchInRange, IsBinarySearchResult, IsNonDecreasingBy}
use Rattle.std.specs.Ordering.{nat_cmp, ordering_index}
use Rattle.std.proofs.lemmas.Bool.{cases_order, eq-eqb, ne_eqb, cond-true, cond-false}
use Rattle.std.proofs.lemmas.Bool.Decides.{nat_tests}
use Rattle.std.proofs.lemmas.Cmp.{ranked}
use Rattle.std.proofs.lemmas.List.Sorted.{IsNonDecreasingBy-from_default}
use Rattle.fault.specs.declared.reason.Reason.TheVariants.{UnknownRoom}
use Rattle.house.specs.Plan.{ascend_from}
use Rattle.house.specs.declared.room.Room.{Room}
use Rattle.house.proofs.Laws.{ascend_far}
use Rattle.heat_account.specs.Judged.{found_from}

-- the first room of that number
found_first : (rooms : List Room) (from i number : ℕ) (d : Room) → i < length rooms → (get_or rooms i d).number ≡ number → ((k : ℕ) → k < i → (get_or rooms k d).number ≡ number → ⊥) → found_from rooms from number ≡ Ok (from + i, get_or rooms i d)
found_first [] from i number d h e none = absurd (omega arith)
found_first (r ∷ rooms) from zero number d h e none = cond-true _ _ _ (eq-eqb r.number number e) ∙ ap (λ n. Ok (n, r)) (sym (add-zero from))
found_first (r ∷ rooms) from (suc i) number d h e none =
    cond-false _ _ _ (ne_eqb r.number number (none 0 (omega arith)))
    ∙ found_first rooms (from + 1) i number d (omega arith) e (λ k lt. none (suc k) (omega arith))
    ∙ ap (λ n. Ok (n, get_or rooms i d)) (omega arith)

found_nowhere : (rooms : List Room) (from number : ℕ) (d : Room) → ((k : ℕ) → k < length rooms → (get_or rooms k d).number ≡ number → ⊥) → found_from rooms from number ≡ Err UnknownRoom
found_nowhere [] from number d none = refl
found_nowhere (r ∷ rooms) from number d none =
    cond-false _ _ _ (ne_eqb r.number number (none 0 (omega arith)))
    ∙ found_nowhere rooms (from + 1) number d (λ k lt. none (suc k) (omega arith))

module _ (rooms : List Room) (ascend : ascend_from 0 rooms ≡ true) (number : ℕ) (d : Room) where
  rise : (i j : ℕ) → i ≤ j → j < length rooms → (get_or rooms i d).number ≤ (get_or rooms j d).number
  rise i j le h =
      elim (cases_order i j) [
        | inl same ↦ let e = ap (λ k. (get_or rooms k d).number) same in omega arith
        | inr (inl lt) ↦ let f = ascend_far 0 rooms ascend i j d lt h in omega arith
        | inr (inr gt) ↦ absurd (omega arith)
      ]

  comparisons_rise : IsNonDecreasingBy (λ (r : Room). ordering_index (nat_cmp r.number number)) rooms
  comparisons_rise =
      IsNonDecreasingBy-from_default (λ (r : Room). ordering_index (nat_cmp r.number number)) rooms d (λ i j le h.
      let up = rise i j le h in
      grind (arith, nat_tests))

  -- a search by halving finds the room that a search from the front does
  pub halved_ok : (at : ℕ) → IsSearchInRange (Ok at) (length rooms) → IsBinarySearchResult (λ (r : Room). nat_cmp r.number number) rooms (Ok at) → found_from rooms 0 number ≡ Ok (at, get_or rooms at d)
  halved_ok at within equal =
      let e : (get_or rooms at d).number ≡ number = ranked _ number _ (sym (equal d)) in
      found_first rooms 0 at number d within e (λ k lt same. let f = ascend_far 0 rooms ascend k at d lt within in omega arith)
      ∙ ap (λ n. Ok (n, get_or rooms at d)) (omega arith)

  pub halved_err : (at : ℕ) → IsSearchInRange (Err at) (length rooms) → IsBinarySearchResult (λ (r : Room). nat_cmp r.number number) rooms (Err at) → found_from rooms 0 number ≡ Err UnknownRoom
  halved_err at within parted =
      let sides = parted comparisons_rise in
      found_nowhere rooms 0 number d (λ k lt same. elim (cases_order k at) [
        | inl here ↦ let f = ranked _ number _ (sym (sides.1 k d (omega arith) lt)) in omega arith
        | inr (inl before) ↦ let f = ranked _ number _ (sym (sides.0 k d (omega arith) before)) in omega arith
        | inr (inr behind) ↦ let f = ranked _ number _ (sym (sides.1 k d (omega arith) lt)) in omega arith
      ])
