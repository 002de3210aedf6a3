-- Balances and exact amounts over the closed periods.
use Rattle.std.proofs.Common.{◌≡◌, ℕ, zero, suc, ◌+◌, ◌-◌, ◌*◌, ◌<◌, List, [], ◌∷◌, map, length, replicate, None, sum_by, sum, Option, sym, refl, ap, ◌∙◌, subst, add-zero, add_comm, mul-zero, zero-add, zero-mul, mul-one, arith}
use lib.ListN.{length-replicate}
use Rattle.std.specs.List.{AllByRecursion}
use Rattle.std.proofs.lemmas.List.Sums.{sum_by-cons}
use Rattle.std.proofs.lemmas.List.Folds.{sum_by-replicate}
use Rattle.sharing.specs.Rule.{Shares, Fair}
use Rattle.house.specs.Plan.{Plan}
use Rattle.billing.specs.Counting.{counted}
use Rattle.billing.specs.Pots.{beside, Both}
use Rattle.billing.specs.Fraction.{Fraction, whole, plus, Within}
use Rattle.billing.specs.Period.{figures, unworkable, Lawful, Laws}
use Rattle.billing.proofs.Beside.{beside_length}
use Rattle.billing.proofs.FractionLaws.{Lies, lies_plus, lies_within}
use Rattle.billing.proofs.PeriodLaws.{period_laws}
use Rattle.billing.proofs.HouseLaws.{counted_length}
use Rattle.heat_account.specs.State.{Period, period_bills, billed, unbilled}
use Rattle.heat_account.specs.Ledger.{balances}
use Rattle.heat_account.specs.Promises.{added, period_amounts, amounts, Floored, Promises}

-- the old bill out and the new one in
pub rebilled_billed : (xs : List ℕ) (old new : List (ℕ × ℕ)) → billed (unbilled (billed xs old) old) new ≡ billed xs new
rebilled_billed xs old new = turned xs (map figures old) (map figures new) where
  turned : (xs os ns : List ℕ) → beside ◌+◌ (beside ◌-◌ (beside ◌+◌ xs os) os) ns ≡ beside ◌+◌ xs ns
  turned [] os ns = refl
  turned (x ∷ xs) [] [] = ap (λ (v : ℕ). v ∷ beside ◌+◌ (beside ◌-◌ (beside ◌+◌ xs []) []) []) (omega arith) ∙ ap (λ (v : List ℕ). (x + 0) ∷ v) (turned xs [] [])
  turned (x ∷ xs) [] (n ∷ ns) = ap (λ (v : ℕ). v ∷ beside ◌+◌ (beside ◌-◌ (beside ◌+◌ xs []) []) ns) (omega arith) ∙ ap (λ (v : List ℕ). (x + n) ∷ v) (turned xs [] ns)
  turned (x ∷ xs) (o ∷ os) [] = ap (λ (v : ℕ). v ∷ beside ◌+◌ (beside ◌-◌ (beside ◌+◌ xs os) os) []) (omega arith) ∙ ap (λ (v : List ℕ). (x + 0) ∷ v) (turned xs os [])
  turned (x ∷ xs) (o ∷ os) (n ∷ ns) = ap (λ (v : ℕ). v ∷ beside ◌+◌ (beside ◌-◌ (beside ◌+◌ xs os) os) ns) (omega arith) ∙ ap (λ (v : List ℕ). (x + n) ∷ v) (turned xs os ns)

pub sum_billed : (xs : List ℕ) (bs : List (ℕ × ℕ)) → length bs ≡ length xs → sum (billed xs bs) ≡ sum xs + sum_by figures bs
sum_billed [] [] e = refl
sum_billed [] (b ∷ bs) e = absurd (omega arith)
sum_billed (x ∷ xs) [] e = absurd (omega arith)
sum_billed (x ∷ xs) (b ∷ bs) e =
    let rec = sum_billed xs bs (omega arith) in
    omega (arith, sum_by-cons (λ (y : ℕ). y) (x + figures b) (billed xs bs), sum_by-cons (λ (y : ℕ). y) x xs, sum_by-cons figures b bs)

-- one-sided bounds from two-sided ones
within_lies : (k m : ℕ) (x : Fraction) → Within k m x → Lies k k m x
within_lies k m x (a, b) = record { real = some x.bottom x.top b; above = a; below = b } where
  some : (d n : ℕ) → n < m * d + k * d → 0 < d
  some zero n h = absurd (omega (arith, mul-zero m, mul-zero k))
  some (suc d) n h = omega arith

within_plus : (j k m n : ℕ) (x y : Fraction) → Within j m x → Within k n y → Within (j + k) (n + m) (plus x y)
within_plus j k m n x y a b =
    subst (λ (v : ℕ). Within (j + k) v (plus x y)) (add_comm m n) (lies_within (j + k) (j + k) (j + k) (m + n) (plus x y) (omega arith) (omega arith) (lies_plus j j k k m n x y (within_lies j m x a) (within_lies k n y b)))

within_first : (k m : ℕ) (x : Fraction) → Within k m x → Within k (0 + m) (plus x (whole 0))
within_first k m x h = simp (mul-one, zero-mul, add-zero, zero-add) h

near_first : (k : ℕ) (bs : List (ℕ × ℕ)) (xs : List Fraction) (n : ℕ) → length bs ≡ n → Both (λ (b : ℕ × ℕ) x. Within k (figures b) x) bs xs → Both (λ b x. Within k b x) (billed (replicate n 0) bs) (added xs (replicate n (whole 0)))
near_first k [] [] zero e h = tt
near_first k [] (x ∷ xs) n e h = absurd h
near_first k [] [] (suc n) e h = absurd (omega arith)
near_first k (b ∷ bs) [] n e h = absurd h
near_first k (b ∷ bs) (x ∷ xs) zero e h = absurd (omega arith)
near_first k (b ∷ bs) (x ∷ xs) (suc n) e (h, hs) = (within_first k (figures b) x h, near_first k bs xs n (omega arith) hs)

near_more : (j k : ℕ) (bs : List (ℕ × ℕ)) (xs : List Fraction) (ns : List ℕ) (ys : List Fraction) → length bs ≡ length ns → Both (λ (b : ℕ × ℕ) x. Within j (figures b) x) bs xs → Both (λ b x. Within k b x) ns ys → Both (λ b x. Within (j + k) b x) (billed ns bs) (added xs ys)
near_more j k [] [] [] [] e h g = tt
near_more j k [] [] [] (y ∷ ys) e h g = absurd g
near_more j k [] [] (n ∷ ns) ys e h g = absurd (omega arith)
near_more j k [] (x ∷ xs) ns ys e h g = absurd h
near_more j k (b ∷ bs) [] ns ys e h g = absurd h
near_more j k (b ∷ bs) (x ∷ xs) [] ys e h g = absurd (omega arith)
near_more j k (b ∷ bs) (x ∷ xs) (n ∷ ns) [] e h g = absurd g
near_more j k (b ∷ bs) (x ∷ xs) (n ∷ ns) (y ∷ ys) e (h, hs) (g, gs) = (within_plus j k (figures b) n x y h g, near_more j k bs xs ns ys (omega arith) hs gs)

-- a period that was accepted
abbrev pub Workable : Plan → Period → Type 0
Workable plan p = unworkable plan.method (counted plan.rooms p.readings) p.total p.common ≡ None

module _ (shares : Shares) (fair : Fair shares) (plan : Plan) (lawful : (ms : List (Option ℕ)) → Lawful plan.method (counted plan.rooms ms)) where
  pub laws_of : (p : Period) → Workable plan p → Laws plan.method (counted plan.rooms p.readings) p.total p.common (period_bills shares plan p)
  laws_of p w = period_laws shares fair plan.method (counted plan.rooms p.readings) (lawful p.readings) p.total p.common w

  pub bills_length : (p : Period) → Workable plan p → length (period_bills shares plan p) ≡ length plan.rooms
  bills_length p w = (laws_of p w).long ∙ counted_length plan.rooms p.readings

  pub balances_length : (ps : List Period) → length (balances shares plan ps) ≡ length plan.rooms
  balances_length [] = length-replicate {A = ℕ} (length plan.rooms) 0
  balances_length (p ∷ ps) = beside_length ◌+◌ (balances shares plan ps) (map figures (period_bills shares plan p)) ∙ balances_length ps

  closes : (ps : List Period) → AllByRecursion (Workable plan) ps → sum (balances shares plan ps) ≡ sum_by (λ (p : Period). p.total) ps
  closes [] w = sum_by-replicate (λ (y : ℕ). y) (length plan.rooms) 0 ∙ mul-zero (length plan.rooms)
  closes (p ∷ ps) (w, ws) =
      omega (arith, sum_billed (balances shares plan ps) (period_bills shares plan p) (bills_length p w ∙ sym (balances_length ps)), closes ps ws, (laws_of p w).closes, sum_by-cons (λ (p : Period). p.total) p ps)

  near : (p : Period) (ps : List Period) → Workable plan p → AllByRecursion (Workable plan) ps → Both (λ b x. Within (3 * suc (length ps)) b x) (balances shares plan (p ∷ ps)) (amounts plan (p ∷ ps))
  near p [] w ws = near_first 3 (period_bills shares plan p) (period_amounts plan p) (length plan.rooms) (bills_length p w) (laws_of p w).near
  near p (q ∷ ps) w (v, ws) =
      let k : 3 + 3 * suc (length ps) ≡ 3 * suc (suc (length ps)) = omega arith in
      subst (λ (n : ℕ). Both (λ b x. Within n b x) (balances shares plan (p ∷ q ∷ ps)) (amounts plan (p ∷ q ∷ ps))) k
      (near_more 3 (3 * suc (length ps)) (period_bills shares plan p) (period_amounts plan p) (balances shares plan (q ∷ ps)) (amounts plan (q ∷ ps)) (bills_length p w ∙ sym (balances_length (q ∷ ps))) (laws_of p w).near (near q ps v ws))

  floored : (ps : List Period) → AllByRecursion (Workable plan) ps → AllByRecursion (Floored shares plan) ps
  floored [] w = tt
  floored (p ∷ ps) (w, ws) = (record { floors = (laws_of p w).floors; readings = (laws_of p w).readings }, floored ps ws)

  some_near : (ps : List Period) → AllByRecursion (Workable plan) ps → 0 < length ps → Both (λ b x. Within (3 * length ps) b x) (balances shares plan ps) (amounts plan ps)
  some_near [] w h = absurd (omega arith)
  some_near (p ∷ ps) (w, ws) h = near p ps w ws

  -- what is promised holds of accepted periods
  pub promised : (ps : List Period) → AllByRecursion (Workable plan) ps → Promises shares plan ps (balances shares plan ps)
  promised ps w = record { closes = closes ps w; near = some_near ps w; floors = floored ps w }
