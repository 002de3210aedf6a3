-- The method Remainder: what the meters leave of the total, first to the common area and then to the rooms that count as plain.
use Rattle.std.specs.Prelude.{ℕ, ◌+◌, ◌-◌, ◌*◌, ◌/◌, if◌then◌else◌, List, map, ◌==◌}
use Rattle.sharing.specs.Rule.{Shares}
use Rattle.billing.specs.declared.counting.CountedRoom.{CountedRoom}
use Rattle.billing.specs.Counting.{if_read, if_plain, all_area, plain_area, read_sum}
use Rattle.billing.specs.Pots.{pot_shares, beside, by_area, plain_by_area}
use Rattle.billing.specs.Fraction.{Fraction, whole, over, plus}

-- what the meters leave
abbrev pub unread : List CountedRoom → ℕ → ℕ
unread rooms total = total - read_sum rooms

-- the area that claims it: the common area and that of the rooms that count as plain
abbrev pub claiming_area : ℕ → List CountedRoom → ℕ
claiming_area common rooms = common + plain_area rooms

abbrev pub common_pot : ℕ → List CountedRoom → ℕ → ℕ
common_pot common rooms total = unread rooms total * common / claiming_area common rooms

abbrev pub plain_pot : ℕ → List CountedRoom → ℕ → ℕ
plain_pot common rooms total = if claiming_area common rooms == 0 then 0 else unread rooms total - common_pot common rooms total

-- the reading, or the share of the plain pot
abbrev pub own_heat : CountedRoom → ℕ → ℕ
own_heat r share = if_read r.role (λ m. m) share

abbrev pub own_heats : Shares → ℕ → List CountedRoom → ℕ → List ℕ
own_heats shares common rooms total = beside own_heat rooms (pot_shares shares (plain_pot common rooms total) (plain_by_area rooms))

abbrev pub common_shares : Shares → ℕ → List CountedRoom → ℕ → List ℕ
common_shares shares common rooms total = pot_shares shares (common_pot common rooms total) (by_area rooms)

-- without rounding
abbrev pub exact_amounts : ℕ → List CountedRoom → ℕ → List Fraction
exact_amounts common rooms total =
    map (λ (r : CountedRoom). plus
    (if_read r.role whole (if_plain r.role (over (unread rooms total * r.area) (claiming_area common rooms)) (whole 0)))
    (over (unread rooms total * common * r.area) (claiming_area common rooms * all_area rooms))) rooms
