-- The lines that are printed, byte by byte.
use Rattle.std.specs.Prelude.{ℕ, ◌+◌, List, [], ◌∷◌, ◌++◌, length, take, ℤ, codes, decimal, sum_by}
use Rattle.std.specs.Fmt.{signed_decimal}
use Rattle.std.specs.List.{flat_map, zip}
use Rattle.fault.specs.Numbers.{number}
use Rattle.fault.specs.declared.place.Place.{Place}
use Rattle.fault.specs.declared.place.Place.TheVariants as places
use Rattle.fault.specs.declared.refusal.Fault.{Fault}
use Rattle.house.specs.declared.room.Room.{Room}

-- the parts of a form after its first word, each behind a blank, to the end of the line
abbrev pub parts_text : List (List ℕ) → List ℕ
parts_text [] = codes ")\n"
parts_text (part ∷ parts) = codes " " ++ (part ++ parts_text parts)

-- a line is one form
abbrev pub form : List ℕ → List (List ℕ) → List ℕ
form word parts = codes "(" ++ (word ++ parts_text parts)

abbrev pub rule_line : List ℕ → List ℕ
rule_line title = form (codes "rule") (title ∷ [])

abbrev pub done_line : List ℕ
done_line = form (codes "done") []

abbrev pub refused_line : ℕ → List ℕ
refused_line n = form (codes "refused") (decimal n ∷ [])

-- where a paper is refused: 0 and 0 if that is not in its text
abbrev pub line_of : Place → ℕ
line_of places.Nowhere = 0
line_of (places.Room n) = 0
line_of (places.Text line column) = line

abbrev pub column_of : Place → ℕ
column_of places.Nowhere = 0
column_of (places.Room n) = 0
column_of (places.Text line column) = column

abbrev pub refused_paper_line : Fault → List ℕ
refused_paper_line fault =
    form (codes "refused") (decimal (number fault.reason) ∷ decimal (line_of fault.place) ∷ decimal (column_of fault.place) ∷ [])

-- own heat and common share
abbrev pub bill_line : Room → ℕ × ℕ → List ℕ
bill_line room bill = form (codes "bill") (decimal room.number ∷ decimal bill.0 ∷ decimal bill.1 ∷ [])

abbrev pub change_line : Room → ℤ → List ℕ
change_line room change = form (codes "change") (decimal room.number ∷ signed_decimal change ∷ [])

abbrev pub balance_line : Room → ℕ → List ℕ
balance_line room balance = form (codes "balance") (decimal room.number ∷ decimal balance ∷ [])

abbrev pub sum_line : ℕ → List ℕ
sum_line n = form (codes "sum") (decimal n ∷ [])

-- a line for each room, from its entry in a list beside the rooms; the shorter list counts
abbrev pub lines : {X : Type 0} → (Room → X → List ℕ) → List Room → List X → List ℕ
lines line rooms entries = flat_map (λ pair. line pair.0 pair.1) (zip rooms entries)

-- the sum of an amount over the entries that have a room
abbrev pub sum_of : {X : Type 0} → (X → ℕ) → List Room → List X → ℕ
sum_of amount rooms entries = sum_by amount (take (length rooms) entries)

abbrev pub billed : ℕ × ℕ → ℕ
billed bill = bill.0 + bill.1

abbrev pub bills_text : List Room → List (ℕ × ℕ) → List ℕ
bills_text rooms bills = lines bill_line rooms bills ++ sum_line (sum_of billed rooms bills)

abbrev pub changes_text : List Room → List ℤ → List ℕ
changes_text rooms changes = lines change_line rooms changes

abbrev pub balances_text : List Room → List ℕ → List ℕ
balances_text rooms balances = lines balance_line rooms balances ++ sum_line (sum_of (λ balance. balance) rooms balances)
