-- The rule of the largest remainders.
use Rattle.std.specs.Prelude.{ℕ, ◌+◌, ◌-◌, ◌*◌, ◌/◌, ◌%◌, if◌then◌else◌, List, [], ◌∷◌, ◌++◌, map, sum, count_by, nat_le, nat_lt}

-- each claimant's part rounded down, and its remainder
abbrev pub floors : ℕ → ℕ → List ℕ → List ℕ
floors total all weights = map (λ w. total * w / all) weights

abbrev pub rests : ℕ → ℕ → List ℕ → List ℕ
rests total all weights = map (λ w. total * w % all) weights

-- how many go before a claimant: the earlier ones with a remainder as large, and the later ones with a larger one
abbrev pub ahead : List ℕ → ℕ → List ℕ → ℕ
ahead earlier rest later = count_by (λ x. nat_le rest x) earlier + count_by (λ x. nat_lt rest x) later

-- one unit to each claimant that fewer than `left` go before
abbrev pub odd_units : ℕ → List ℕ → List ℕ → List ℕ
odd_units left earlier [] = []
odd_units left earlier (rest ∷ later) =
    (if nat_lt (ahead earlier rest later) left then 1 else 0) ∷ odd_units left (earlier ++ rest ∷ []) later

-- two lists, entry by entry
abbrev pub added : List ℕ → List ℕ → List ℕ
added [] ys = []
added (x ∷ xs) [] = x ∷ xs
added (x ∷ xs) (y ∷ ys) = (x + y) ∷ added xs ys

-- the parts rounded down, and the units that they leave over
abbrev pub shared_by : ℕ → ℕ → List ℕ → List ℕ
shared_by total all weights =
    added (floors total all weights) (odd_units (total - sum (floors total all weights)) [] (rests total all weights))

abbrev pub remainders : ℕ → List ℕ → List ℕ
remainders total weights = shared_by total (sum weights) weights
