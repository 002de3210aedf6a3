-- The method Stated: the common figure is stated, and no read room pays below its floor.
use Rattle.std.specs.Prelude.{ℕ, ◌+◌, ◌-◌, ◌*◌, ◌/◌, List, map, Some, None, sum, Option}
use Rattle.sharing.specs.Rule.{Shares}
use Rattle.billing.specs.declared.counting.Role.{Role}
use Rattle.billing.specs.declared.counting.Role.TheVariants.{Read, Plain, Detached}
use Rattle.billing.specs.declared.counting.CountedRoom.{CountedRoom}
use Rattle.billing.specs.Counting.{if_read, all_area, plain_area, read_area, read_sum, pipe_sum}
use Rattle.billing.specs.Pots.{pot_shares, beside, by_area, plain_by_area}
use Rattle.billing.specs.Fraction.{Fraction, whole, over, plus, minus}

-- the common figure: as stated, or all that is left
abbrev pub common_figure : List CountedRoom → ℕ → Option ℕ → ℕ
common_figure rooms total (Some q) = q
common_figure rooms total None = total - read_sum rooms - pipe_sum rooms

-- what the rooms that count as plain share
abbrev pub rest : List CountedRoom → ℕ → Option ℕ → ℕ
rest rooms total q = total - read_sum rooms - common_figure rooms total q - pipe_sum rooms

-- the floor of a read room of this area, and what its reading is below or above it
abbrev pub floor : ℕ → List CountedRoom → ℕ → ℕ
floor percent rooms area = percent * read_sum rooms * area / (100 * read_area rooms)

abbrev pub surcharge : ℕ → List CountedRoom → CountedRoom → ℕ
surcharge percent rooms r = if_read r.role (λ m. floor percent rooms r.area - m) 0

abbrev pub excess : ℕ → List CountedRoom → CountedRoom → ℕ
excess percent rooms r = if_read r.role (λ m. m - floor percent rooms r.area) 0

abbrev pub surcharges : ℕ → List CountedRoom → ℕ
surcharges percent rooms = sum (map (surcharge percent rooms) rooms)

abbrev pub excesses : ℕ → List CountedRoom → ℕ
excesses percent rooms = sum (map (excess percent rooms) rooms)

-- the read rooms by their excess
abbrev pub by_excess : ℕ → List CountedRoom → List (Option ℕ)
by_excess percent rooms = map (λ (r : CountedRoom). if_read r.role (λ _. Some (excess percent rooms r)) None) rooms

abbrev pub deductions : Shares → ℕ → List CountedRoom → List ℕ
deductions shares percent rooms = pot_shares shares (surcharges percent rooms) (by_excess percent rooms)

-- before the deduction: the reading with its surcharge, the share of the rest, or the pipe figure
abbrev pub gross : ℕ → Role → ℕ → ℕ
gross surcharge (Read m) share = m + surcharge
gross surcharge Plain share = share
gross surcharge (Detached t) share = t

abbrev pub gross_heats : Shares → ℕ → List CountedRoom → ℕ → Option ℕ → List ℕ
gross_heats shares percent rooms total q =
    beside (λ (r : CountedRoom) s. gross (surcharge percent rooms r) r.role s) rooms (pot_shares shares (rest rooms total q) (plain_by_area rooms))

abbrev pub own_heats : Shares → ℕ → List CountedRoom → ℕ → Option ℕ → List ℕ
own_heats shares percent rooms total q = beside (λ heat deduction. heat - deduction) (gross_heats shares percent rooms total q) (deductions shares percent rooms)

abbrev pub common_shares : Shares → List CountedRoom → ℕ → Option ℕ → List ℕ
common_shares shares rooms total q = pot_shares shares (common_figure rooms total q) (by_area rooms)

-- the same floors and surcharges, and plain fractions in place of the shares
abbrev pub exact_own : ℕ → List CountedRoom → ℕ → Option ℕ → CountedRoom → Fraction
exact_own percent rooms total q r = exact r.role where
  exact : Role → Fraction
  exact (Read m) = minus (whole (m + surcharge percent rooms r)) (over (surcharges percent rooms * excess percent rooms r) (excesses percent rooms))
  exact Plain = over (rest rooms total q * r.area) (plain_area rooms)
  exact (Detached t) = whole t

abbrev pub exact_amounts : ℕ → List CountedRoom → ℕ → Option ℕ → List Fraction
exact_amounts percent rooms total q =
    map (λ (r : CountedRoom). plus (exact_own percent rooms total q r) (over (common_figure rooms total q * r.area) (all_area rooms))) rooms
