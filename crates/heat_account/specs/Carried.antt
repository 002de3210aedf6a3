-- An account and its ledger, call by call.
use Rattle.std.specs.Prelude.{◌≡◌, List, [], ◌∷◌, ◌++◌, Ok, Err, Result}
use Rattle.fault.specs.declared.refusal.Fault.{Fault}
use Rattle.sharing.specs.Rule.{Shares}
use Rattle.house.specs.Plan.{Plan}
use Rattle.heat_account.specs.declared.answer.Answer.{Answer}
use Rattle.heat_account.specs.declared.answer.Answer.TheVariants.{Done}
use Rattle.heat_account.specs.declared.call.Call.{Call}
use Rattle.heat_account.specs.declared.slip.Slip.{Slip}
use Rattle.heat_account.specs.State.{State}
use Rattle.heat_account.specs.Judged.{answer}
use Rattle.heat_account.specs.Ledger.{figured, ledger_after, Stands}
use Rattle.heat_account.specs.Promises.{Promises}

-- the account goes with the ledger of these calls, and keeps what is promised
pub record Goes (shares : Shares) (plan : Plan) (s : State) (calls : List Call) : Type 0 where
  pub stands : Stands shares plan s calls
  pub promised : Promises shares plan (ledger_after shares plan calls).closed s.balances

-- the answer to a call is the ledger's, and the account goes on with it
pub record Carried (shares : Shares) (plan : Plan) (calls : List Call) (call : Call) (a : Result Answer Fault) (s : State) : Type 0 where
  pub answered : a ≡ answer plan (figured shares plan (ledger_after shares plan calls)) call
  pub goes : Goes shares plan s (calls ++ call ∷ [])

-- whatever calls went before
abbrev pub Carries : Shares → Plan → State → Call → Result Answer Fault → State → Type 0
Carries shares plan s call a s' = (calls : List Call) → Stands shares plan s calls → Carried shares plan calls call a s'

-- a result as an answer
abbrev pub answer_of : {X : Type 0} → (X → Answer) → Result X Fault → Result Answer Fault
answer_of f (Ok x) = Ok (f x)
answer_of f (Err fault) = Err fault

-- a refused slip comes back
abbrev pub with_slip : Result (Unit {0}) Fault → Slip → Result (Unit {0}) (Fault × Slip)
with_slip (Ok u) slip = Ok u
with_slip (Err fault) slip = Err (fault, slip)

abbrev pub slip_answer : Result (Unit {0}) (Fault × Slip) → Result Answer Fault
slip_answer (Ok u) = Ok Done
slip_answer (Err back) = Err back.0

-- a list written over the front of another, as far as that goes
abbrev pub overlaid : {X : Type 0} → List X → List X → List X
overlaid [] ys = ys
overlaid (x ∷ xs) [] = []
overlaid (x ∷ xs) (y ∷ ys) = x ∷ overlaid xs ys
