-- What the sharing of a pot gives those with a claim to it.
use Rattle.std.proofs.Common.{◌≡◌, ℕ, suc, ◌+◌, ◌<◌, ◌≤◌, List, [], ◌∷◌, map, length, replicate, Some, None, sum_by, sum, Option, sym, refl, ap, ◌∙◌, subst, ⊎_elim, mul-le-mul_right, lt_of_mul-lt-mul_right, arith}
use lib.ListN.{length-map}
use Rattle.std.specs.List.{AllZip, AllByRecursion}
use Rattle.std.proofs.ByRecursion.{All-from_get_or}
use Rattle.std.proofs.lemmas.List.Sums.{sum_by-cons}
use Rattle.std.proofs.lemmas.Bool.{cases_lt}
use Rattle.sharing.specs.Rule.{Shares, Fair, Near}
use Rattle.sharing.specs.Totals.{sum_cons, entry_le_sum}
use Rattle.sharing.proofs.RuleLaws.{shares_sum}
use Rattle.billing.specs.Pots.{weights, put_back, pot_shares, Both}
use Rattle.billing.proofs.Beside.{both_unmap}

-- what a claim weighs
abbrev pub weight : Option ℕ → ℕ
weight (Some w) = w
weight None = 0

pub weights_sum : {X : Type 0} (claim : X → Option ℕ) (f : X → ℕ) → ((x : X) → weight (claim x) ≡ f x) → (xs : List X) → sum (weights (map claim xs)) ≡ sum_by f xs
weights_sum claim f each [] = refl
weights_sum claim f each (x ∷ xs) = omega (arith, by (claim x) (map claim xs), each x, sum_by-cons f x xs, weights_sum claim f each xs)
  where
    by : (c : Option ℕ) (claims : List (Option ℕ)) → sum (weights (c ∷ claims)) ≡ weight c + sum (weights claims)
    by (Some w) claims = sum_cons w (weights claims)
    by None claims = omega arith

pub weights_length : (claims : List (Option ℕ)) → length (weights claims) ≤ length claims
weights_length [] = omega arith
weights_length (None ∷ claims) = omega (arith, weights_length claims)
weights_length (Some w ∷ claims) = omega (arith, weights_length claims)

-- what falls to a weight of all weights, of a pot
pub record Portion (pot all weight share : ℕ) : Type 0 where
  pub part : weight ≤ all
  pub near : 0 < all → Near pot all weight share
  pub none : all ≡ 0 → share ≡ 0

-- of a pot below the sum of the weights nobody gets more than its weight
pub portion_le : (pot all weight share : ℕ) → pot ≤ all → Portion pot all weight share → share ≤ weight
portion_le pot all w s le p = grind (arith, mul-le-mul_right, lt_of_mul-lt-mul_right)

-- and to a claim: to none, nothing
abbrev pub Falls : (ℕ → ℕ → Type 0) → Option ℕ → ℕ → Type 0
Falls P (Some w) s = P w s
Falls P None s = s ≡ 0

put_back_falls : (P : ℕ → ℕ → Type 0) (claims : List (Option ℕ)) (ss : List ℕ) → AllZip P (weights claims) ss → Both (Falls P) claims (put_back claims ss)
put_back_falls P [] ss h = tt
put_back_falls P (None ∷ claims) ss h = (refl, put_back_falls P claims ss h)
put_back_falls P (Some w ∷ claims) [] h = absurd h
put_back_falls P (Some w ∷ claims) (s ∷ ss) (p, h) = (p, put_back_falls P claims ss h)

put_back_length : (claims : List (Option ℕ)) (ss : List ℕ) → length (put_back claims ss) ≡ length claims
put_back_length [] ss = refl
put_back_length (None ∷ claims) ss = ap suc (put_back_length claims ss)
put_back_length (Some w ∷ claims) [] = ap suc (put_back_length claims [])
put_back_length (Some w ∷ claims) (s ∷ ss) = ap suc (put_back_length claims ss)

-- a share for each entry of a list
pub shares_length : {X : Type 0} (shares : Shares) (pot : ℕ) (claim : X → Option ℕ) (xs : List X) → length (pot_shares shares pot (map claim xs)) ≡ length xs
shares_length shares pot claim xs = put_back_length (map claim xs) (shares pot (weights (map claim xs))) ∙ length-map xs claim

put_back_sum : (claims : List (Option ℕ)) (ss : List ℕ) → length ss ≡ length (weights claims) → sum (put_back claims ss) ≡ sum ss
put_back_sum [] [] e = refl
put_back_sum [] (s ∷ ss) e = absurd (omega arith)
put_back_sum (None ∷ claims) ss e = omega (arith, sum_cons 0 (put_back claims ss), put_back_sum claims ss e)
put_back_sum (Some w ∷ claims) [] e = absurd (omega arith)
put_back_sum (Some w ∷ claims) (s ∷ ss) e = omega (arith, sum_cons s (put_back claims ss), sum_cons s ss, put_back_sum claims ss (omega arith))

near_portions : (pot all : ℕ) (ws ss : List ℕ) → 0 < all → AllByRecursion (λ w. w ≤ all) ws → AllZip (Near pot all) ws ss → AllZip (Portion pot all) ws ss
near_portions pot all [] [] pos le h = tt
near_portions pot all [] (s ∷ ss) pos le h = absurd h
near_portions pot all (w ∷ ws) [] pos le h = absurd h
near_portions pot all (w ∷ ws) (s ∷ ss) pos (p, le) (n, h) =
    (record { part = p; near = λ _. n; none = λ z. absurd (omega arith) }, near_portions pot all ws ss pos le h)

no_portions : (pot all : ℕ) (ws : List ℕ) → all ≡ 0 → AllByRecursion (λ w. w ≤ all) ws → AllZip (Portion pot all) ws (replicate (length ws) 0)
no_portions pot all [] z le = tt
no_portions pot all (w ∷ ws) z (p, le) =
    (record { part = p; near = λ pos. absurd (omega arith); none = λ _. refl }, no_portions pot all ws z le)

-- a pot with no claimant holds nothing
pub nothing : (pot all : ℕ) → (0 < pot → 0 < all) → all ≤ 0 → pot ≡ 0
nothing pot all weighed none = grind arith

module _ (shares : Shares) (fair : Fair shares) (pot : ℕ) (claims : List (Option ℕ)) (weighed : 0 < pot → 0 < sum (weights claims)) where
  portions : AllZip (Portion pot (sum (weights claims))) (weights claims) (shares pot (weights claims))
  portions =
      let ws = weights claims in
      let le : AllByRecursion (λ w. w ≤ sum ws) ws = All-from_get_or (λ w. w ≤ sum ws) ws 0 (λ i h. entry_le_sum ws i h) in
      ⊎_elim
      (λ pos. near_portions pot (sum ws) ws (shares pot ws) pos le (fair.near pot ws pos))
      (λ none. subst (λ (v : List ℕ). AllZip (Portion pot (sum ws)) ws v)
      (sym (ap (λ v. shares v ws) (nothing pot (sum ws) weighed none) ∙ fair.none ws (omega arith)))
      (no_portions pot (sum ws) ws (omega arith) le))
      (cases_lt 0 (sum ws))

  pub pot_falls : Both (Falls (Portion pot (sum (weights claims)))) claims (pot_shares shares pot claims)
  pot_falls = put_back_falls (Portion pot (sum (weights claims))) claims (shares pot (weights claims)) portions

  pub pot_sum : sum (pot_shares shares pot claims) ≡ pot
  pot_sum = put_back_sum claims (shares pot (weights claims)) (fair.long pot (weights claims)) ∙ shares_sum shares fair pot (weights claims) weighed

-- the same where each entry of a list has its claim, and the claims weigh so much in all
module _ (shares : Shares) (fair : Fair shares) (pot : ℕ) {X : Type 0} (claim : X → Option ℕ) (xs : List X) (all : ℕ) (is : sum (weights (map claim xs)) ≡ all) (weighed : 0 < pot → 0 < all) where
  pub shares_fall : Both (λ x s. Falls (Portion pot all) (claim x) s) xs (pot_shares shares pot (map claim xs))
  shares_fall =
      let given : List ℕ = pot_shares shares pot (map claim xs) in
      subst (λ (v : ℕ). Both (λ x s. Falls (Portion pot v) (claim x) s) xs given) is
      (both_unmap (Falls (Portion pot (sum (weights (map claim xs))))) claim xs given (pot_falls shares fair pot (map claim xs) (λ some. omega (arith, is, weighed some))))

  pub shares_total : sum (pot_shares shares pot (map claim xs)) ≡ pot
  shares_total = pot_sum shares fair pot (map claim xs) (λ some. omega (arith, is, weighed some))
