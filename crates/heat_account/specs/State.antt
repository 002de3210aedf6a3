-- What an account holds, and what an accepted call makes of it.
use Rattle.std.specs.Prelude.{ℕ, ◌+◌, ◌-◌, List, map, length, replicate, Some, None, Option, slice_set}
use Rattle.sharing.specs.Rule.{Shares}
use Rattle.house.specs.Plan.{Plan}
use Rattle.billing.specs.Counting.{counted}
use Rattle.billing.specs.Pots.{beside}
use Rattle.billing.specs.Period.{bills, figures}
use Rattle.heat_account.specs.declared.stage.Stage.{Stage}
use Rattle.heat_account.specs.declared.stage.Stage.TheVariants.{Taking, Correcting}
use Rattle.heat_account.specs.declared.call.Call.{Call}
use Rattle.heat_account.specs.declared.call.Call.TheVariants.{Read, Close, Correct, Book, Withdraw, Bill, Balance}

-- a closed period: a reading or none for each room, the building total and the common figure
pub record Period : Type 0 where
  pub readings : List (Option ℕ)
  pub total : ℕ
  pub common : Option ℕ

abbrev pub period_bills : Shares → Plan → Period → List (ℕ × ℕ)
period_bills shares plan p = bills shares plan.method (counted plan.rooms p.readings) p.total p.common

-- the period with the reading of one room replaced
abbrev pub reread : Period → ℕ → ℕ → Period
reread p place reading = record { readings = slice_set p.readings place (Some reading); total = p.total; common = p.common }

-- the readings of the open period, the period last closed with its bills, each room's balance, how many periods are closed
pub record State : Type 0 where
  pub readings : List (Option ℕ)
  pub last : Period
  pub bills : List (ℕ × ℕ)
  pub balances : List ℕ
  pub closed : ℕ
  pub stage : Stage

-- before the first closing: nothing read, billed or owed in any of n rooms
abbrev pub no_state : ℕ → State
no_state n = record {
  readings = replicate n None;
  last = record { readings = replicate n None; total = 0; common = None };
  bills = replicate n (0, 0);
  balances = replicate n 0;
  closed = 0;
  stage = Taking;
}

-- a bill more in each balance
abbrev pub billed : List ℕ → List (ℕ × ℕ) → List ℕ
billed balances bs = beside ◌+◌ balances (map figures bs)

-- a bill less
abbrev pub unbilled : List ℕ → List (ℕ × ℕ) → List ℕ
unbilled balances bs = beside ◌-◌ balances (map figures bs)

abbrev pub with_reading : State → ℕ → ℕ → State
with_reading s place reading = record { readings = slice_set s.readings place (Some reading); last = s.last; bills = s.bills; balances = s.balances; closed = s.closed; stage = s.stage }

abbrev pub with_period : State → Period → List (ℕ × ℕ) → State
with_period s p bs = record { readings = replicate (length s.readings) None; last = p; bills = bs; balances = billed s.balances bs; closed = s.closed + 1; stage = s.stage }

abbrev pub with_stage : State → Stage → State
with_stage s stage = record { readings = s.readings; last = s.last; bills = s.bills; balances = s.balances; closed = s.closed; stage = stage }

abbrev pub with_amended : State → Period → List (ℕ × ℕ) → State
with_amended s p bs = record { readings = s.readings; last = p; bills = bs; balances = billed (unbilled s.balances s.bills) bs; closed = s.closed; stage = Taking }

-- the correction in place
abbrev pub corrected : Shares → Plan → State → Stage → State
corrected shares plan s Taking = s
corrected shares plan s (Correcting place reading) = with_amended s (reread s.last place reading) (period_bills shares plan (reread s.last place reading))

-- after an accepted call, which found its room at `place`
abbrev pub moved_on : Shares → Plan → State → Call → ℕ → State
moved_on shares plan s (Read room reading) place = with_reading s place reading
moved_on shares plan s (Close total common) place =
    with_period s (record { readings = s.readings; total = total; common = common }) (period_bills shares plan (record { readings = s.readings; total = total; common = common }))
moved_on shares plan s (Correct room reading) place = with_stage s (Correcting place reading)
moved_on shares plan s (Book house period) place = corrected shares plan s s.stage
moved_on shares plan s (Withdraw house period) place = with_stage s Taking
moved_on shares plan s (Bill room) place = s
moved_on shares plan s (Balance room) place = s

-- an account as its callers see it
pub record HouseAccount (R : Type 0) : Type 0 where
  pub house : Plan
  pub rule : R
  pub state : State

-- the same account with another state
abbrev pub with_state : {R : Type 0} → HouseAccount R → State → HouseAccount R
with_state a s = record { house = a.house; rule = a.rule; state = s }
