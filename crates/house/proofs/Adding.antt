-- Rooms with one more at the end.
use Rattle.std.proofs.Common.{◌≡◌, ℕ, ◌+◌, ◌<◌, ◌≤◌, Bool, true, if◌then◌else◌, nat_lt, ltb, List, [], ◌∷◌, ◌++◌, length, is_ok, None, Ok, Err, fold, Result, refl, ap, ◌∙◌, arith}
use Rattle.std.proofs.lemmas.List.{length_push}
use Rattle.std.proofs.lemmas.List.Sums.{sum_by_push}
use Rattle.std.proofs.lemmas.Bool.{and_from, and_parts, cond-true, lt-ltb}
use Rattle.std.proofs.lemmas.Bool.Decides.{nat_tests}
use Rattle.house.specs.declared.method.Method.{Method}
use Rattle.house.specs.declared.room.Room.{Room}
use Rattle.house.specs.Plan.{most_rooms, most_area, common_area, takes, room_fits, every, ascend_from, last_number, area_sum, lawful, next_refusal}
use Rattle.house.proofs.Laws.{laws_of, lawful_by}

every_push : (test : Room → Bool) (rooms : List Room) (room : Room) → every test rooms ≡ true → test room ≡ true → every test (rooms ++ room ∷ []) ≡ true
every_push test [] room h t = and_from _ _ t refl
every_push test (r ∷ rooms) room h t =
    let p = and_parts (test r) (every test rooms) h in
    and_from _ _ p.0 (every_push test rooms room p.1 t)

ascend_push : (n : ℕ) (rooms : List Room) (room : Room) → ascend_from n rooms ≡ true → fold (λ before r. r.number) n rooms < room.number → ascend_from n (rooms ++ room ∷ []) ≡ true
ascend_push n [] room h t = grind (arith, nat_tests)
ascend_push n (r ∷ rooms) room h t =
    let p = and_parts (ltb n r.number) (ascend_from r.number rooms) h in
    and_from _ _ p.0 (ascend_push r.number rooms room p.1 t)

-- what it takes not to be refused
pub record Admitted (method : Method) (rooms : List Room) (room : Room) : Type 0 where
  pub fit : room_fits room ≡ true
  pub few : length rooms < most_rooms
  pub above : last_number rooms < room.number
  pub taken : takes method room.kind ≡ true
  pub areas : area_sum rooms + room.area + common_area method ≤ most_area

pub none_is_admitted : (m : Method) (rooms : List Room) (room : Room) → next_refusal m rooms room ≡ None → Admitted m rooms room
none_is_admitted m rooms room e = record {
  fit = grind (arith, nat_tests);
  few = grind (arith, nat_tests);
  above = grind (arith, nat_tests);
  taken = grind (arith, nat_tests);
  areas = grind (arith, nat_tests);
}

-- a room that is not refused leaves the house lawful
pub lawful_push : (n : ℕ) (m : Method) (rooms : List Room) (room : Room) → lawful n m rooms ≡ true → next_refusal m rooms room ≡ None → lawful n m (rooms ++ room ∷ []) ≡ true
lawful_push n m rooms room h e =
    let old = laws_of n m rooms h in
    let new = none_is_admitted m rooms room e in
    lawful_by n m (rooms ++ room ∷ []) (record {
      number_in = old.number_in;
      method_in = old.method_in;
      some = omega (arith, length_push rooms room);
      few = omega (arith, length_push rooms room);
      fit = every_push room_fits rooms room old.fit new.fit;
      ascend = ascend_push 0 rooms room old.ascend new.above;
      taken = every_push (λ r. takes m r.kind) rooms room old.taken new.taken;
      areas = omega (arith, new.areas, sum_by_push (λ r. r.area) rooms room);
    })

-- a table takes a room that is not refused
pub pushed : (m : Method) (rooms : List Room) (room : Room) → next_refusal m rooms room ≡ None → (r : Result (Unit {0}) Room) (new : List Room) → r ≡ (if nat_lt (length rooms) most_rooms then Ok tt else Err room) → new ≡ (if is_ok r then rooms ++ room ∷ [] else rooms) → new ≡ rooms ++ room ∷ []
pushed m rooms room e r new value after =
    let few = (none_is_admitted m rooms room e).few in
    let ok = value ∙ cond-true _ _ _ (lt-ltb (length rooms) most_rooms few) in
    after ∙ cond-true _ _ _ (ap is_ok ok)
