-- Single entries of the balances.
use Rattle.std.proofs.Common.{◌≡◌, ℕ, zero, suc, ◌+◌, ◌-◌, ◌≤◌, List, [], ◌∷◌, length, get_or, replicate, sum_by, refl, arith}
use Rattle.std.proofs.lemmas.List.Sums.{sum_by-cons}
use Rattle.billing.specs.Period.{figures}
use Rattle.heat_account.specs.State.{billed, unbilled}

-- the bill of the room at a place
abbrev pub bill_in : List (ℕ × ℕ) → ℕ → ℕ
bill_in bs k = figures (get_or bs k (0, 0))

pub unbilled_at : (xs : List ℕ) (bs : List (ℕ × ℕ)) (k : ℕ) → get_or (unbilled xs bs) k 0 ≡ get_or xs k 0 - bill_in bs k
unbilled_at [] bs k = omega arith
unbilled_at (x ∷ xs) [] zero = refl
unbilled_at (x ∷ xs) [] (suc k) = unbilled_at xs [] k
unbilled_at (x ∷ xs) (b ∷ bs) zero = refl
unbilled_at (x ∷ xs) (b ∷ bs) (suc k) = unbilled_at xs bs k

pub billed_at : (xs : List ℕ) (bs : List (ℕ × ℕ)) (k : ℕ) → length bs ≡ length xs → get_or (billed xs bs) k 0 ≡ get_or xs k 0 + bill_in bs k
billed_at [] [] k e = refl
billed_at [] (b ∷ bs) k e = absurd (omega arith)
billed_at (x ∷ xs) [] k e = absurd (omega arith)
billed_at (x ∷ xs) (b ∷ bs) zero e = refl
billed_at (x ∷ xs) (b ∷ bs) (suc k) e = billed_at xs bs k (omega arith)

pub bill_le_sum : (bs : List (ℕ × ℕ)) (k : ℕ) → bill_in bs k ≤ sum_by figures bs
bill_le_sum [] k = omega arith
bill_le_sum (b ∷ bs) zero = omega (arith, sum_by-cons figures b bs)
bill_le_sum (b ∷ bs) (suc k) = omega (arith, sum_by-cons figures b bs, bill_le_sum bs k)

pub no_bill : (n k : ℕ) → bill_in (replicate n (0, 0)) k ≡ 0
no_bill zero k = refl
no_bill (suc n) zero = refl
no_bill (suc n) (suc k) = no_bill n k

pub no_balance : (n k : ℕ) → ◌≡◌ {A = ℕ} (get_or (replicate n 0) k 0) 0
no_balance zero k = refl
no_balance (suc n) zero = refl
no_balance (suc n) (suc k) = no_balance n k
