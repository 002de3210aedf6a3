-- What a lawful house keeps to.
use Rattle.std.proofs.Common.{◌≡◌, ℕ, zero, suc, ◌+◌, ◌<◌, ◌≤◌, Bool, true, ltb, List, [], ◌∷◌, length, get_or, arith}
use Rattle.std.specs.List.{AllByRecursion}
use Rattle.std.proofs.lemmas.Bool.{and_parts, ltb-true}
use Rattle.std.proofs.lemmas.Bool.Decides.{nat_tests}
use Rattle.house.specs.declared.method.Method.{Method}
use Rattle.house.specs.declared.method.Method.TheVariants.{Stated}
use Rattle.house.specs.declared.room.Room.{Room}
use Rattle.house.specs.Plan.{most_area, most_percent, most_rooms, common_area, takes, number_fits, method_fits, room_fits, every, ascend_from, area_sum, lawful}

pub record Laws (number : ℕ) (method : Method) (rooms : List Room) : Type 0 where
  pub number_in : number_fits number ≡ true
  pub method_in : method_fits method ≡ true
  pub some : 0 < length rooms
  pub few : length rooms ≤ most_rooms
  pub fit : every room_fits rooms ≡ true
  pub ascend : ascend_from 0 rooms ≡ true
  pub taken : every (λ room. takes method room.kind) rooms ≡ true
  pub areas : area_sum rooms + common_area method ≤ most_area

pub laws_of : (n : ℕ) (m : Method) (rooms : List Room) → lawful n m rooms ≡ true → Laws n m rooms
laws_of n m rooms h = record {
  number_in = grind (arith, nat_tests);
  method_in = grind (arith, nat_tests);
  some = grind (arith, nat_tests);
  few = grind (arith, nat_tests);
  fit = grind (arith, nat_tests);
  ascend = grind (arith, nat_tests);
  taken = grind (arith, nat_tests);
  areas = grind (arith, nat_tests);
}

pub lawful_by : (n : ℕ) (m : Method) (rooms : List Room) → Laws n m rooms → lawful n m rooms ≡ true
lawful_by n m rooms l = grind (arith, nat_tests)

every_all : (test : Room → Bool) (P : Room → Type 0) → ((room : Room) → test room ≡ true → P room) → (rooms : List Room) → every test rooms ≡ true → AllByRecursion P rooms
every_all test P each [] h = tt
every_all test P each (room ∷ rooms) h =
    let p = and_parts (test room) (every test rooms) h in
    (each room p.0, every_all test P each rooms p.1)

ascend_above : (n : ℕ) (rooms : List Room) → ascend_from n rooms ≡ true → (i : ℕ) (d : Room) → i < length rooms → n < (get_or rooms i d).number
ascend_above n [] h i d l = absurd (omega arith)
ascend_above n (room ∷ rooms) h zero d l = ltb-true n room.number (and_parts _ (ascend_from room.number rooms) h).0
ascend_above n (room ∷ rooms) h (suc i) d l =
    let p = and_parts (ltb n room.number) (ascend_from room.number rooms) h in
    omega (arith, ltb-true n room.number p.0, ascend_above room.number rooms p.1 i d (omega arith))

pub ascend_far : (n : ℕ) (rooms : List Room) → ascend_from n rooms ≡ true → (i j : ℕ) (d : Room) → i < j → j < length rooms → (get_or rooms i d).number < (get_or rooms j d).number
ascend_far n [] h i j d lt l = absurd (omega arith)
ascend_far n (room ∷ rooms) h i zero d lt l = absurd (omega arith)
ascend_far n (room ∷ rooms) h zero (suc j) d lt l =
    ascend_above room.number rooms (and_parts (ltb n room.number) (ascend_from room.number rooms) h).1 j d (omega arith)
ascend_far n (room ∷ rooms) h (suc i) (suc j) d lt l =
    ascend_far room.number rooms (and_parts (ltb n room.number) (ascend_from room.number rooms) h).1 i j d (omega arith) (omega arith)

module _ (n : ℕ) (m : Method) (rooms : List Room) (h : lawful n m rooms ≡ true) where
  pub some_room : 0 < length rooms
  some_room = (laws_of n m rooms h).some

  pub few_rooms : length rooms ≤ most_rooms
  few_rooms = (laws_of n m rooms h).few

  pub room_areas : AllByRecursion (λ r. (0 < r.area) × (r.area ≤ most_area)) rooms
  room_areas = every_all room_fits _ (λ r t. (grind (arith, nat_tests), grind (arith, nat_tests))) rooms (laws_of n m rooms h).fit

  pub areas_within : area_sum rooms + common_area m ≤ most_area
  areas_within = (laws_of n m rooms h).areas

pub percent_within : (n percent : ℕ) (rooms : List Room) → lawful n (Stated percent) rooms ≡ true → percent ≤ most_percent
percent_within n percent rooms h = let p = (laws_of n (Stated percent) rooms h).method_in in grind (arith, nat_tests)
