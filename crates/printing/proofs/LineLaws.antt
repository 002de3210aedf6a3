-- The lines that are still to come.
use Rattle.std.proofs.Common.{◌≡◌, ℕ, List, [], ◌∷◌, None, Option, refl, ⊎_elim, Bor}
use Rattle.std.proofs.iter.Yields.{fronts}
use Rattle.std.proofs.lemmas.Iterator.{zips}
use Rattle.std.proofs.lemmas.Slice.Zip.{either_empty_from_Zip}
use Rattle.std.specs.Iterator.Adapters.{zip_first, zip_second}
use Rattle.std.specs.Slice.Iter.{iter_rest}
use Rattle.std.specs.declared.iter.Zip.{Zip}
use Rattle.std.specs.declared.slice.Iter.{Iter}
use Rattle.house.specs.declared.room.Room.{Room}
use Rattle.printing.specs.Printed.{lines}

module _ {X : Type 0} (line : Room → X → List ℕ) where
  -- the lines of what an iterator over both lists has still to give
  abbrev pub to_come : Zip (Iter Room) (Iter X) → List ℕ
  to_come s = lines line (iter_rest (zip_first s)) (iter_rest (zip_second s))

  pub no_rooms : (rooms : List Room) (entries : List X) → rooms ≡ [] → lines line rooms entries ≡ []
  no_rooms rooms entries e = rw e

  pub no_entries : (rooms : List Room) (entries : List X) → entries ≡ [] → lines line rooms entries ≡ []
  no_entries [] entries e = refl
  no_entries (room ∷ rooms) entries e = rw e

  pub to_come_all : (s t : Zip (Iter Room) (Iter X)) (r : Option (Bor Room × Bor X)) → r ≡ None → zips fronts fronts s r t → to_come s ≡ []
  to_come_all s t r none stepped = ⊎_elim (no_rooms _ _) (no_entries _ _) (either_empty_from_Zip s t r none stepped)
