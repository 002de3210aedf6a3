-- The sums over the rooms of a house.
use Rattle.std.proofs.Common.{◌≡◌, ℕ, ◌+◌, ◌<◌, ◌≤◌, true, false, cond, List, [], ◌∷◌, length, Some, None, sum_by, sum, Option, refl, arith}
use Rattle.std.specs.List.{AllByRecursion}
use Rattle.std.proofs.lemmas.List.Sums.{sum_by-cons}
use Rattle.sharing.specs.Rule.{Shares, Fair}
use Rattle.billing.specs.declared.counting.CountedRoom.{CountedRoom}
use Rattle.billing.specs.Counting.{if_read, if_plain, all_area, plain_area, plain_count, read_area}
use Rattle.billing.specs.Pots.{weights, pot_shares, by_area, plain_by_area, Both}
use Rattle.billing.proofs.PotLaws.{weights_sum, Portion, Falls, shares_fall, shares_total}

pub sums_le : {X : Type 0} (f g : X → ℕ) → ((x : X) → f x ≤ g x) → (xs : List X) → sum_by f xs ≤ sum_by g xs
sums_le f g each [] = omega arith
sums_le f g each (x ∷ xs) = omega (arith, sum_by-cons f x xs, sum_by-cons g x xs, each x, sums_le f g each xs)

pub sums_add : {X : Type 0} (f g h : X → ℕ) → ((x : X) → f x ≡ g x + h x) → (xs : List X) → sum_by f xs ≡ sum_by g xs + sum_by h xs
sums_add f g h each [] = refl
sums_add f g h each (x ∷ xs) = omega (arith, sum_by-cons f x xs, sum_by-cons g x xs, sum_by-cons h x xs, each x, sums_add f g h each xs)

pub areas_sum : (rooms : List CountedRoom) → sum (weights (by_area rooms)) ≡ all_area rooms
areas_sum rooms = weights_sum (λ (r : CountedRoom). Some r.area) (λ (r : CountedRoom). r.area) (λ r. refl) rooms

pub plain_areas_sum : (rooms : List CountedRoom) → sum (weights (plain_by_area rooms)) ≡ plain_area rooms
plain_areas_sum rooms = weights_sum (λ (r : CountedRoom). if_plain r.role (Some r.area) None) (λ (r : CountedRoom). if_plain r.role r.area 0) (λ r. grind arith) rooms

pub plain_le_all : (rooms : List CountedRoom) → plain_area rooms ≤ all_area rooms
plain_le_all rooms = sums_le (λ (r : CountedRoom). if_plain r.role r.area 0) (λ (r : CountedRoom). r.area) (λ r. grind arith) rooms

pub read_le_all : (rooms : List CountedRoom) → read_area rooms ≤ all_area rooms
read_le_all rooms = sums_le (λ (r : CountedRoom). if_read r.role (λ _. r.area) 0) (λ (r : CountedRoom). r.area) (λ r. grind arith) rooms

-- a house with a room has an area
pub some_area : (rooms : List CountedRoom) → 0 < length rooms → AllByRecursion (λ (r : CountedRoom). 0 < r.area) rooms → 0 < all_area rooms
some_area [] some areas = absurd (omega arith)
some_area (r ∷ rooms) some (a, areas) = omega (arith, sum_by-cons (λ (r : CountedRoom). r.area) r rooms)

-- each room that counts as plain has an area
pub plain_counted : (rooms : List CountedRoom) → AllByRecursion (λ (r : CountedRoom). 0 < r.area) rooms → plain_count rooms ≤ plain_area rooms
plain_counted [] areas = omega arith
plain_counted (r ∷ rooms) (a, areas) =
    let plain : cond {A = ℕ} (if_plain r.role true false) 1 0 ≤ if_plain r.role r.area 0 = grind arith in
    omega (arith, sum_by-cons (λ (r : CountedRoom). cond {A = ℕ} (if_plain r.role true false) 1 0) r rooms, sum_by-cons (λ (r : CountedRoom). if_plain r.role r.area 0) r rooms, plain_counted rooms areas)

-- a pot shared among the rooms by area, and among those that count as plain
module _ (shares : Shares) (fair : Fair shares) (pot : ℕ) (rooms : List CountedRoom) where
  abbrev area_claim : CountedRoom → Option ℕ
  area_claim r = Some r.area

  abbrev plain_claim : CountedRoom → Option ℕ
  plain_claim r = if_plain r.role (Some r.area) None

  module _ (weighed : 0 < pot → 0 < all_area rooms) where
    pub area_shares_fall : Both (λ (r : CountedRoom) s. Portion pot (all_area rooms) r.area s) rooms (pot_shares shares pot (by_area rooms))
    area_shares_fall = shares_fall shares fair pot area_claim rooms (all_area rooms) (areas_sum rooms) weighed

    pub area_shares_total : sum (pot_shares shares pot (by_area rooms)) ≡ pot
    area_shares_total = shares_total shares fair pot area_claim rooms (all_area rooms) (areas_sum rooms) weighed

  module _ (weighed : 0 < pot → 0 < plain_area rooms) where
    pub plain_shares_fall : Both (λ (r : CountedRoom) s. Falls (Portion pot (plain_area rooms)) (plain_claim r) s) rooms (pot_shares shares pot (plain_by_area rooms))
    plain_shares_fall = shares_fall shares fair pot plain_claim rooms (plain_area rooms) (plain_areas_sum rooms) weighed

    pub plain_shares_total : sum (pot_shares shares pot (plain_by_area rooms)) ≡ pot
    plain_shares_total = shares_total shares fair pot plain_claim rooms (plain_area rooms) (plain_areas_sum rooms) weighed
