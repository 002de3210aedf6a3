-- The rooms counted one after the other.
use Rattle.std.proofs.Common.{◌≡◌, ℕ, ◌+◌, List, [], ◌∷◌, map, drop, get_or, None, Option, sym, refl, ap, ◌∙◌, add-zero}
use Rattle.std.specs.List.{enumerate_from}
use Rattle.std.proofs.lemmas.List.{drop-drop, get_or-drop}
use Rattle.house.specs.declared.room.Room.{Room}
use Rattle.billing.specs.declared.counting.CountedRoom.{CountedRoom}
use Rattle.billing.specs.Counting.{role, counted}

-- a room and its place, with the reading at that place
abbrev pub counted_at : List (Option ℕ) → ℕ × Room → CountedRoom
counted_at ms p = record { area = p.1.area; role = role p.1.kind (get_or ms p.0 None) }

counted_next : (r : Room) (rooms : List Room) (ms : List (Option ℕ)) → counted (r ∷ rooms) ms ≡ record { area = r.area; role = role r.kind (get_or ms 0 None) } ∷ counted rooms (drop 1 ms)
counted_next r rooms [] = refl
counted_next r rooms (m ∷ ms) = refl

counted_from : (rooms : List Room) (ms : List (Option ℕ)) (i : ℕ) → map (counted_at ms) (enumerate_from i rooms) ≡ counted rooms (drop i ms)
counted_from [] ms i = refl
counted_from (r ∷ rooms) ms i =
    let reading : get_or ms i None ≡ get_or (drop i ms) 0 None = sym (get_or-drop i ms 0 None ∙ ap (λ v. get_or ms v None) (add-zero i)) in
    ap (λ (v : Option ℕ). record { area = r.area; role = role r.kind v } ∷ map (counted_at ms) (enumerate_from (i + 1) rooms)) reading
    ∙ ap (λ (v : List CountedRoom). record { area = r.area; role = role r.kind (get_or (drop i ms) 0 None) } ∷ v) (counted_from rooms ms (i + 1) ∙ ap (counted rooms) (sym (drop-drop 1 i ms)))
    ∙ sym (counted_next r rooms (drop i ms))

pub counted_given : (rooms : List Room) (ms : List (Option ℕ)) → map (counted_at ms) (enumerate_from 0 rooms) ≡ counted rooms ms
counted_given rooms ms = counted_from rooms ms 0
