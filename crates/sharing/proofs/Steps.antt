-- Steps over lists of claimants: how the next one fares by a cutoff, and a list that is written from the front.
use Rattle.std.proofs.Common.{◌≡◌, ℕ, ◌+◌, ◌-◌, ◌*◌, ◌/◌, ◌%◌, ◌<◌, ◌≤◌, List, [], ◌∷◌, ◌++◌, length, take, drop, sum, sym, ap, ◌∙◌, append_assoc, append-nil, arith}
use Rattle.std.specs.List.{slice_index, slice_set}
use Rattle.std.proofs.lemmas.List.{take_more_set, take_all, at_drop_more, at_drop_all}
use Rattle.std.proofs.lemmas.Bool.Decides.{nat_tests}
use Rattle.sharing.specs.Cutoff.{unit, spared, dealt}
use Rattle.sharing.specs.RemainderLaws.{given, floors_front, floors_front_le}

pub dealt_above : (cutoff spare rest : ℕ) (rests : List ℕ) → cutoff < rest → dealt cutoff spare (rest ∷ rests) ≡ 1 ∷ dealt cutoff spare rests
dealt_above k e r rs h = grind (arith, nat_tests)

pub dealt_at : (cutoff spare rest : ℕ) (rests : List ℕ) → rest ≡ cutoff → 0 < spare → dealt cutoff spare (rest ∷ rests) ≡ 1 ∷ dealt cutoff (spare - 1) rests
dealt_at k e r rs h p = grind (arith, nat_tests)

pub dealt_spent : (cutoff rest : ℕ) (rests : List ℕ) → rest ≤ cutoff → dealt cutoff 0 (rest ∷ rests) ≡ 0 ∷ dealt cutoff 0 rests
dealt_spent k r rs h = grind (arith, nat_tests)

pub dealt_below : (cutoff spare rest : ℕ) (rests : List ℕ) → rest < cutoff → dealt cutoff spare (rest ∷ rests) ≡ 0 ∷ dealt cutoff spare rests
dealt_below k e r rs h = grind (arith, nat_tests)

pub given_more : (t w k e x r s k' e' : ℕ) (ws : List ℕ) → r ≡ t * x % w → s ≡ t * x / w + unit k e r → k' ≡ k → e' ≡ spared k e r → given t w k e (x ∷ ws) ≡ s ∷ given t w k' e' ws
given_more t w k e x r s k' e' ws at n c d =
    ap (λ v. (t * x / w + unit k e v) ∷ given t w k (spared k e v) ws) (sym at)
    ∙ ap (λ (v : ℕ). v ∷ given t w k (spared k e r) ws) (sym n)
    ∙ ap (λ v. s ∷ given t w v (spared k e r) ws) (sym c)
    ∙ ap (λ v. s ∷ given t w k' v ws) (sym d)

-- a claimant's part of a pot whose weights add up to w
pub floor_le : (t w : ℕ) (ws : List ℕ) (i : ℕ) → w ≡ sum ws → i < length ws → t * slice_index ws i / w ≤ t
floor_le t w ws i e h = omega (arith, floors_front t w ws i h, floors_front_le t w ws (i + 1) e)

-- a loop that writes a list from the front: what is written, and what `rest` makes of the inputs still to come, make up the whole
pub written_more : (rest : List ℕ → List ℕ) (inputs place whole : List ℕ) (i x : ℕ) (later : List ℕ) → i < length inputs → i < length place → rest (slice_index inputs i ∷ drop (i + 1) inputs) ≡ x ∷ later → take i place ++ rest (drop i inputs) ≡ whole → take (i + 1) (slice_set place i x) ++ later ≡ whole
written_more rest inputs place whole i x later h p e inv =
    ap (λ v. v ++ later) (take_more_set place i x p) ∙ append_assoc (take i place) (x ∷ []) later ∙ ap (λ v. take i place ++ v) (sym (at_drop_more rest inputs i 0 h ∙ e)) ∙ inv

pub written_all : (rest : List ℕ → List ℕ) (inputs place whole : List ℕ) (i : ℕ) → length inputs ≤ i → length place ≤ i → rest [] ≡ [] → take i place ++ rest (drop i inputs) ≡ whole → place ≡ whole
written_all rest inputs place whole i h p e inv =
    sym (take_all i place p) ∙ sym (append-nil (take i place)) ∙ ap (λ v. take i place ++ v) (sym (at_drop_all rest inputs i h ∙ e)) ∙ inv
