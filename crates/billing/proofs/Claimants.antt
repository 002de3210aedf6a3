-- Every pot of a period that can be billed is within the limits, and has a claimant if it holds anything.
use Rattle.std.proofs.Common.{◌≡◌, ℕ, ◌+◌, ◌-◌, ◌<◌, ◌≤◌, List, map, length, sum, Some, None, Option, sym, ◌∙◌, arith}
use lib.ListN.{length-map}
use Rattle.std.specs.List.{AllByRecursion}
use Rattle.std.proofs.ByRecursion.{All-from_get_or}
use Rattle.std.proofs.lemmas.List.Sums.{get_or-le-sum_by}
use Rattle.sharing.specs.Rule.{Shares, Fair}
use Rattle.house.specs.declared.method.Method.{Method}
use Rattle.house.specs.declared.method.Method.TheVariants as methods
use Rattle.billing.specs.declared.counting.Role.TheVariants.{Plain}
use Rattle.billing.specs.declared.counting.CountedRoom.{CountedRoom}
use Rattle.billing.specs.declared.remainder.Remainder.{Remainder}
use Rattle.billing.specs.declared.stated.Stated.{Stated}
use Rattle.billing.specs.Counting.{if_read, all_area, plain_area, read_sum, pipe_sum}
use Rattle.billing.specs.Pots.{weights, pot_shares, by_area, plain_by_area, Both, Shareable}
use Rattle.billing.specs.Remainder.{common_pot, plain_pot}
use Rattle.billing.specs.Stated.{common_figure, rest, gross, surcharge, surcharges, excesses, by_excess, gross_heats, deductions}
use Rattle.billing.specs.Remainder as remainder
use Rattle.billing.specs.Stated as stated
use Rattle.billing.specs.Claims.{floors, Floored, Among}
use Rattle.billing.specs.Period.{Billable}
use Rattle.billing.proofs.Beside.{beside_length}
use Rattle.billing.proofs.PotLaws.{shares_length}
use Rattle.billing.proofs.RoomLaws.{areas_sum, plain_areas_sum, plain_le_all, read_le_all, some_area}
use Rattle.billing.proofs.RemainderLaws.{common_pot_le, plain_pot_le, plain_weighed}
use Rattle.billing.proofs.FloorLaws.{surcharges_le, excesses_le, excess_weights}
use Rattle.billing.proofs.StatedLaws.{figures_sum, deductions_covered}
use Rattle.billing.proofs.PeriodLaws.{Rest_claimed, rest_claimed}

module _ {X : Type 0} (pot all : ℕ) (claim : X → Option ℕ) (xs : List X) where
  shareable : length xs ≤ 256 → sum (weights (map claim xs)) ≡ all → pot ≤ 100000000 → all ≤ 100000000 → (0 < pot → 0 < all) → Shareable pot (map claim xs)
  shareable few is small light weighed = record {
    few = omega (arith, length-map xs claim);
    small = small;
    light = omega arith;
    weighed = λ some. omega (arith, weighed some);
  }

module _ (method : Method) (rooms : List CountedRoom) (total : ℕ) (q : Option ℕ) (b : Billable method rooms total q) (pot : ℕ) (small : pot ≤ total) where
  by_area_shareable : Shareable pot (by_area rooms)
  by_area_shareable = shareable pot (all_area rooms) _ rooms b.few (areas_sum rooms) (omega (arith, b.small)) b.areas (λ _. some_area rooms b.lawful.some b.lawful.areas)

  plain_shareable : (0 < pot → 0 < plain_area rooms) → Shareable pot (plain_by_area rooms)
  plain_shareable weighed = shareable pot (plain_area rooms) _ rooms b.few (plain_areas_sum rooms) (omega (arith, b.small)) (omega (arith, b.areas, plain_le_all rooms)) weighed

-- of a period under the method Remainder
module _ (r : Remainder) where
  pub common_pot_shareable : Shareable (common_pot r.common_area r.rooms.now r.total) (by_area r.rooms.now)
  common_pot_shareable = by_area_shareable (methods.Remainder r.common_area) r.rooms.now r.total None r.billable _ (omega (arith, common_pot_le r.common_area r.rooms.now r.total))

  pub plain_pot_shareable : Shareable (plain_pot r.common_area r.rooms.now r.total) (plain_by_area r.rooms.now)
  plain_pot_shareable =
      plain_shareable (methods.Remainder r.common_area) r.rooms.now r.total None r.billable _ (omega (arith, plain_pot_le r.common_area r.rooms.now r.total)) (plain_weighed r.common_area r.rooms.now r.total)

  -- there is one own heat and one common share for each room
  pub remainder_long : (shares : Shares) → length (remainder.common_shares shares r.common_area r.rooms.now r.total) ≡ length (remainder.own_heats shares r.common_area r.rooms.now r.total)
  remainder_long shares =
      shares_length shares (common_pot r.common_area r.rooms.now r.total) (λ (r : CountedRoom). Some r.area) r.rooms.now
      ∙ sym (beside_length remainder.own_heat r.rooms.now (pot_shares shares (plain_pot r.common_area r.rooms.now r.total) (plain_by_area r.rooms.now)))

-- of a period under the method Stated
module _ (s : Stated) where
  abbrev rooms : List CountedRoom
  rooms = s.rooms.now

  claimed : Rest_claimed rooms s.total s.common
  claimed = rest_claimed s.floor_percent rooms s.total s.common s.billable.lawful s.billable.accepted

  whole : read_sum rooms + pipe_sum rooms + rest rooms s.total s.common + common_figure rooms s.total s.common ≡ s.total
  whole = figures_sum rooms s.total s.common claimed.within

  pub common_figure_shareable : Shareable (common_figure rooms s.total s.common) (by_area rooms)
  common_figure_shareable = by_area_shareable (methods.Stated s.floor_percent) rooms s.total s.common s.billable _ (omega (arith, whole))

  pub rest_shareable : Shareable (rest rooms s.total s.common) (plain_by_area rooms)
  rest_shareable = plain_shareable (methods.Stated s.floor_percent) rooms s.total s.common s.billable _ (omega (arith, whole)) claimed.claimed

  pub floored : Floored s.floor_percent rooms
  floored = record {
    few = s.billable.few;
    low = s.billable.lawful.percent;
    read = omega (arith, s.billable.small, whole);
    area = omega (arith, s.billable.areas, read_le_all rooms);
  }

  pub surcharges_shareable : Shareable (surcharges s.floor_percent rooms) (by_excess s.floor_percent rooms)
  surcharges_shareable =
      let covered = surcharges_le s.floor_percent rooms floored.low in
      let within = excesses_le s.floor_percent rooms in
      shareable _ _ _ rooms floored.few (excess_weights s.floor_percent rooms) (omega (arith, floored.read)) (omega (arith, floored.read)) (λ some. omega arith)

  pub all_among : AllByRecursion (Among (floors s.floor_percent rooms)) rooms
  all_among = All-from_get_or (Among (floors s.floor_percent rooms)) rooms (record { area = 0; role = Plain }) (λ i h. record {
    low = floored.low;
    small = floored.read;
    part = get_or-le-sum_by (λ (r : CountedRoom). if_read r.role (λ _. r.area) 0) rooms i _ h;
    read = get_or-le-sum_by (λ (r : CountedRoom). if_read r.role (λ m. m) 0) rooms i _ h;
  })

  -- no deduction passes what its room pays before it
  pub covered : (shares : Shares) → Fair shares → Both (λ (g d : ℕ). d ≤ g) (gross_heats shares s.floor_percent rooms s.total s.common) (deductions shares s.floor_percent rooms)
  covered shares fair = deductions_covered s.floor_percent rooms s.total s.common floored.low shares fair claimed.claimed

  pub gross_long : (shares : Shares) → length (gross_heats shares s.floor_percent rooms s.total s.common) ≡ length rooms
  gross_long shares =
      beside_length (λ (r : CountedRoom) share. gross (surcharge s.floor_percent rooms r) r.role share) rooms (pot_shares shares (rest rooms s.total s.common) (plain_by_area rooms))

  pub stated_long : (shares : Shares) → length (stated.common_shares shares rooms s.total s.common) ≡ length (stated.own_heats shares s.floor_percent rooms s.total s.common)
  stated_long shares =
      shares_length shares (common_figure rooms s.total s.common) (λ (r : CountedRoom). Some r.area) rooms
      ∙ sym (beside_length (λ heat deduction. heat - deduction) (gross_heats shares s.floor_percent rooms s.total s.common) (deductions shares s.floor_percent rooms) ∙ gross_long shares)
