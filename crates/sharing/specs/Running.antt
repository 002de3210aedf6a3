-- The rule of the running sum.
use Rattle.std.specs.Prelude.{ℕ, ◌+◌, ◌-◌, ◌*◌, ◌/◌, List, [], ◌∷◌, sum}

-- the shares of the claimants that come after others of weight `passed`: what falls to all up to a claimant, less what falls to all before it
abbrev pub running_from : ℕ → ℕ → ℕ → List ℕ → List ℕ
running_from total all passed [] = []
running_from total all passed (weight ∷ weights) =
    (total * (passed + weight) / all - total * passed / all) ∷ running_from total all (passed + weight) weights

abbrev pub running : ℕ → List ℕ → List ℕ
running total weights = running_from total (sum weights) 0 weights
