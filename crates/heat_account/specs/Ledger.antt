-- The ledger that the account answers by: fed the house, the rule and each call's arguments alone.
use Rattle.std.specs.Prelude.{◌≡◌, ℕ, suc, cond, List, [], ◌∷◌, length, replicate, Some, None, fold, Option, Result, ◌==◌, slice_set}
use Rattle.fault.specs.declared.refusal.Fault.{Fault}
use Rattle.sharing.specs.Rule.{Shares}
use Rattle.house.specs.Plan.{Plan}
use Rattle.heat_account.specs.declared.stage.Stage.{Stage}
use Rattle.heat_account.specs.declared.stage.Stage.TheVariants.{Taking, Correcting}
use Rattle.heat_account.specs.declared.call.Call.{Call}
use Rattle.heat_account.specs.declared.call.Call.TheVariants.{Read, Close, Correct, Book, Withdraw, Bill, Balance}
use Rattle.heat_account.specs.declared.answer.Answer.{Answer}
use Rattle.heat_account.specs.State.{Period, State, period_bills, reread, billed}
use Rattle.heat_account.specs.Judged.{judged, answer, by}

-- a late reading for a closed period, told by the period's number and the room's place
pub record Correction : Type 0 where
  pub period : ℕ
  pub place : ℕ
  pub reading : ℕ

-- the newest period stands first
pub record Ledger : Type 0 where
  pub readings : List (Option ℕ)
  pub closed : List Period
  pub correction : Option Correction

abbrev pub no_readings : Plan → List (Option ℕ)
no_readings plan = replicate (length plan.rooms) None

abbrev pub empty : Plan → Ledger
empty plan = record { readings = no_readings plan; closed = []; correction = None }

abbrev pub latest : Plan → List Period → Period
latest plan [] = record { readings = no_readings plan; total = 0; common = None }
latest plan (p ∷ ps) = p

-- a reading put into the period of that number
abbrev pub amended : ℕ → ℕ → ℕ → List Period → List Period
amended period place reading [] = []
amended period place reading (p ∷ ps) = cond (period == suc (length ps)) (reread p place reading ∷ ps) (p ∷ amended period place reading ps)

abbrev pub booked : Option Correction → List Period → List Period
booked None ps = ps
booked (Some c) ps = amended c.period c.place c.reading ps

abbrev pub noted : Ledger → Call → ℕ → Ledger
noted l (Read room reading) place = record { readings = slice_set l.readings place (Some reading); closed = l.closed; correction = l.correction }
noted l (Close total common) place = record { readings = replicate (length l.readings) None; closed = record { readings = l.readings; total = total; common = common } ∷ l.closed; correction = l.correction }
noted l (Correct room reading) place = record { readings = l.readings; closed = l.closed; correction = Some (record { period = length l.closed; place = place; reading = reading }) }
noted l (Book house period) place = record { readings = l.readings; closed = booked l.correction l.closed; correction = None }
noted l (Withdraw house period) place = record { readings = l.readings; closed = l.closed; correction = None }
noted l (Bill room) place = l
noted l (Balance room) place = l

-- the figures of the ledger: the bills of its latest period, and for each room the sum of all figures in its bills
abbrev pub no_bills : Plan → List (ℕ × ℕ)
no_bills plan = replicate (length plan.rooms) (0, 0)

abbrev pub latest_bills : Shares → Plan → List Period → List (ℕ × ℕ)
latest_bills shares plan [] = no_bills plan
latest_bills shares plan (p ∷ ps) = period_bills shares plan p

abbrev pub balances : Shares → Plan → List Period → List ℕ
balances shares plan [] = replicate (length plan.rooms) 0
balances shares plan (p ∷ ps) = billed (balances shares plan ps) (period_bills shares plan p)

abbrev pub stage_of : Option Correction → Stage
stage_of None = Taking
stage_of (Some c) = Correcting c.place c.reading

-- what an account holds that goes with the ledger
abbrev pub figured : Shares → Plan → Ledger → State
figured shares plan l = record {
  readings = l.readings;
  last = latest plan l.closed;
  bills = latest_bills shares plan l.closed;
  balances = balances shares plan l.closed;
  closed = length l.closed;
  stage = stage_of l.correction;
}

-- a call that is refused, judged by the ledger, changes nothing
abbrev pub step : Shares → Plan → Ledger → Call → Ledger
step shares plan l call = by (judged plan (figured shares plan l) call) (noted l call) (λ _. l)

abbrev pub ledger_after : Shares → Plan → List Call → Ledger
ledger_after shares plan calls = fold (step shares plan) (empty plan) calls

-- the answers to a list of calls
abbrev pub answers_from : Shares → Plan → Ledger → List Call → List (Result Answer Fault)
answers_from shares plan l [] = []
answers_from shares plan l (call ∷ calls) = answer plan (figured shares plan l) call ∷ answers_from shares plan (step shares plan l call) calls

-- an account that holds this goes with the ledger after these calls
abbrev pub Stands : Shares → Plan → State → List Call → Type 0
Stands shares plan s calls = s ≡ figured shares plan (ledger_after shares plan calls)
