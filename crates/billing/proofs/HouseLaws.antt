-- Every lawful house can be billed, whatever is read.
use Rattle.std.proofs.Common.{◌≡◌, ℕ, suc, ◌+◌, ◌<◌, ◌≤◌, true, List, [], ◌∷◌, length, None, Option, sym, refl, ap, ◌∙◌, subst, arith}
use Rattle.std.specs.List.{AllByRecursion}
use Rattle.std.proofs.lemmas.List.Sums.{sum_by-cons}
use Rattle.std.proofs.lemmas.Bool.Decides.{nat_tests}
use Rattle.house.specs.Plan.{Plan, lawful, area_sum}
use Rattle.house.specs.declared.method.Method.{Method}
use Rattle.house.specs.declared.method.Method.TheVariants.{Remainder, Stated}
use Rattle.house.specs.declared.room.Room.{Room}
use Rattle.house.proofs.Laws.{some_room, few_rooms, room_areas, areas_within, percent_within}
use Rattle.billing.specs.declared.counting.CountedRoom.{CountedRoom}
use Rattle.billing.specs.Counting.{role, counted, all_area}
use Rattle.billing.specs.Period.{given, unworkable, refusal, stated_percent, Lawful, Billable}

pub counted_length : (rooms : List Room) (ms : List (Option ℕ)) → length (counted rooms ms) ≡ length rooms
counted_length [] ms = refl
counted_length (r ∷ rooms) [] = ap suc (counted_length rooms [])
counted_length (r ∷ rooms) (m ∷ ms) = ap suc (counted_length rooms ms)

counted_areas : (rooms : List Room) (ms : List (Option ℕ)) → all_area (counted rooms ms) ≡ area_sum rooms
counted_areas [] ms = refl
counted_areas (r ∷ rooms) [] =
    sum_by-cons (λ (r : CountedRoom). r.area) (record { area = r.area; role = role r.kind None }) (counted rooms []) ∙ ap (λ v. r.area + v) (counted_areas rooms []) ∙ sym (sum_by-cons (λ (r : Room). r.area) r rooms)
counted_areas (r ∷ rooms) (m ∷ ms) =
    sum_by-cons (λ (r : CountedRoom). r.area) (record { area = r.area; role = role r.kind m }) (counted rooms ms) ∙ ap (λ v. r.area + v) (counted_areas rooms ms) ∙ sym (sum_by-cons (λ (r : Room). r.area) r rooms)

some_areas : (rooms : List Room) (ms : List (Option ℕ)) (m : ℕ) → AllByRecursion (λ (r : Room). (0 < r.area) × (r.area ≤ m)) rooms → AllByRecursion (λ (r : CountedRoom). 0 < r.area) (counted rooms ms)
some_areas [] ms m h = tt
some_areas (r ∷ rooms) [] m (h, hs) = (h.0, some_areas rooms [] m hs)
some_areas (r ∷ rooms) (x ∷ ms) m (h, hs) = (h.0, some_areas rooms ms m hs)

percent_fits : (n : ℕ) (method : Method) (rooms : List Room) → lawful n method rooms ≡ true → stated_percent method ≤ 100
percent_fits n (Remainder area) rooms h = omega arith
percent_fits n (Stated percent) rooms h = percent_within n percent rooms h

-- what a refusal that does not apply tells
pub refusal_small : (method : Method) (rooms : List CountedRoom) (total : ℕ) (q : Option ℕ) → refusal method rooms total q ≡ None → (total ≤ 100000000) × (given q ≤ 100000000)
refusal_small method rooms total q e = grind (arith, nat_tests)

pub refusal_workable : (method : Method) (rooms : List CountedRoom) (total : ℕ) (q : Option ℕ) → refusal method rooms total q ≡ None → unworkable method rooms total q ≡ None
refusal_workable method rooms total q e = grind (arith, nat_tests)

module _ (plan : Plan) (law : lawful plan.number plan.method plan.rooms ≡ true) (ms : List (Option ℕ)) where
  pub lawful_counted : Lawful plan.method (counted plan.rooms ms)
  lawful_counted =
      record {
        some = subst (λ (n : ℕ). 0 < n) (sym (counted_length plan.rooms ms)) (some_room plan.number plan.method plan.rooms law);
        areas = some_areas plan.rooms ms _ (room_areas plan.number plan.method plan.rooms law);
        percent = percent_fits plan.number plan.method plan.rooms law;
      }

  -- a period that is not refused can be billed
  pub billable : (total : ℕ) (q : Option ℕ) → refusal plan.method (counted plan.rooms ms) total q ≡ None → Billable plan.method (counted plan.rooms ms) total q
  billable total q none =
      let rooms = counted plan.rooms ms in
      record {
        lawful = lawful_counted;
        few = omega (arith, counted_length plan.rooms ms, few_rooms plan.number plan.method plan.rooms law);
        areas = omega (arith, counted_areas plan.rooms ms, areas_within plan.number plan.method plan.rooms law);
        small = (refusal_small plan.method rooms total q none).0;
        accepted = refusal_workable plan.method rooms total q none;
      }
