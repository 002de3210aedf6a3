-- A pot is shared over the list of just those who have a claim to it, and each share goes back to its room.
use Rattle.std.specs.Prelude.{ℕ, ◌<◌, ◌≤◌, List, [], ◌∷◌, map, length, Some, None, sum, Option}
use Rattle.sharing.specs.Rule.{Shares}
use Rattle.billing.specs.declared.counting.CountedRoom.{CountedRoom}
use Rattle.billing.specs.Counting.{if_plain}

-- the weights of those with a claim
abbrev pub weights : List (Option ℕ) → List ℕ
weights [] = []
weights (None ∷ claims) = weights claims
weights (Some w ∷ claims) = w ∷ weights claims

-- the next share to each with a claim, and nothing to the others
abbrev pub put_back : List (Option ℕ) → List ℕ → List ℕ
put_back [] shares = []
put_back (None ∷ claims) shares = 0 ∷ put_back claims shares
put_back (Some w ∷ claims) [] = 0 ∷ put_back claims []
put_back (Some w ∷ claims) (s ∷ shares) = s ∷ put_back claims shares

abbrev pub pot_shares : Shares → ℕ → List (Option ℕ) → List ℕ
pot_shares shares pot claims = put_back claims (shares pot (weights claims))

-- a pot that no rule refuses to share: within the limits, and with a claimant if it holds anything
pub record Shareable (pot : ℕ) (claims : List (Option ℕ)) : Type 0 where
  pub few : length claims ≤ 256
  pub small : pot ≤ 100000000
  pub light : sum (weights claims) ≤ 100000000
  pub weighed : 0 < pot → 0 < sum (weights claims)

-- a function of each entry and of the number beside it, 0 where there is none
abbrev pub beside : {X Y : Type 0} → (X → ℕ → Y) → List X → List ℕ → List Y
beside f [] ns = []
beside f (x ∷ xs) [] = f x 0 ∷ beside f xs []
beside f (x ∷ xs) (n ∷ ns) = f x n ∷ beside f xs ns

-- entry by entry
abbrev pub Both : {X Y : Type 0} → (X → Y → Type 0) → List X → List Y → Type 0
Both R [] [] = Unit {0}
Both R [] (y ∷ ys) = ⊥
Both R (x ∷ xs) [] = ⊥
Both R (x ∷ xs) (y ∷ ys) = R x y × Both R xs ys

-- every room by its area, and the rooms that count as plain by theirs
abbrev pub by_area : List CountedRoom → List (Option ℕ)
by_area rooms = map (λ (r : CountedRoom). Some r.area) rooms

abbrev pub plain_by_area : List CountedRoom → List (Option ℕ)
plain_by_area rooms = map (λ (r : CountedRoom). if_plain r.role (Some r.area) None) rooms
