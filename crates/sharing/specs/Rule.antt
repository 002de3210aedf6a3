-- What every sharing rule keeps to, whoever writes it.
use Rattle.std.specs.Prelude.{◌≡◌, ℕ, ◌+◌, ◌*◌, ◌<◌, ◌≤◌, List, length, replicate, sum}
use Rattle.std.specs.List.{AllZip, AllByRecursion}

-- the shares of a total by weights, under some rule
abbrev pub Shares : Type 0
Shares = ℕ → List ℕ → List ℕ

-- a share times the sum of the weights differs from the total times the share's weight by less than that sum
abbrev pub Near : ℕ → ℕ → ℕ → ℕ → Type 0
Near total all weight share = (share * all < total * weight + all) × (total * weight < share * all + all)

pub record Fair (shares : Shares) : Type 0 where
  pub long : (total : ℕ) (weights : List ℕ) → length (shares total weights) ≡ length weights
  pub whole : (total : ℕ) (weights : List ℕ) → 0 < sum weights → sum (shares total weights) ≡ total
  pub near : (total : ℕ) (weights : List ℕ) → 0 < sum weights → AllZip (Near total (sum weights)) weights (shares total weights)
  pub none : (weights : List ℕ) → sum weights ≡ 0 → shares 0 weights ≡ replicate (length weights) 0

-- a small letter, by its code
abbrev pub Letter : ℕ → Type 0
Letter c = (97 ≤ c) × (c ≤ 122)

pub record Title (letters : List ℕ) : Type 0 where
  pub some : 0 < length letters
  pub short : length letters ≤ 16
  pub small : AllByRecursion Letter letters

-- what follows for every rule: no share is above the total, and a weight of 0 has no share
pub record Modest (shares : Shares) : Type 0 where
  pub within : (total : ℕ) (weights : List ℕ) → 0 < sum weights → AllByRecursion (λ s. s ≤ total) (shares total weights)
  pub weightless : (total : ℕ) (weights : List ℕ) → 0 < sum weights → AllZip (λ w s. w ≡ 0 → s ≡ 0) weights (shares total weights)
