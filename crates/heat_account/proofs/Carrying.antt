-- A call that does what is defined carries the account and its ledger on together.
use Rattle.std.proofs.Common.{◌≡◌, ℕ, true, List, [], ◌∷◌, ◌++◌, length, Ok, Err, Result, sym, refl, ap, ◌∙◌, subst, arith}
use Rattle.sharing.specs.Rule.{Shares, Fair}
use Rattle.house.specs.Plan.{Plan, lawful}
use Rattle.fault.specs.Numbers.{fault_of}
use Rattle.fault.specs.declared.place.Place.{Place}
use Rattle.fault.specs.declared.refusal.Fault.{Fault}
use Rattle.heat_account.specs.declared.answer.Answer.{Answer}
use Rattle.heat_account.specs.declared.call.Call.{Call}
use Rattle.heat_account.specs.State.{State, no_state}
use Rattle.fault.specs.declared.reason.Reason.{Reason}
use Rattle.heat_account.specs.Judged.{by, and_then, returned, answer, after}
use Rattle.heat_account.specs.Ledger.{ledger_after, Stands}
use Rattle.heat_account.specs.Promises.{Promises}
use Rattle.heat_account.specs.Carried.{Goes, Carries}
use Rattle.heat_account.proofs.Balances.{promised}
use Rattle.heat_account.proofs.LedgerLaws.{sound_after, stands_after}
use Rattle.billing.proofs.HouseLaws.{lawful_counted}

-- what is told of a judgement
pub by_mapped : {X Y : Type 0} (h : X → Y) (r : Result ℕ Reason) (f : ℕ → X) (g : Reason → X) → h (by r f g) ≡ by r (λ i. h (f i)) (λ e. h (g e))
by_mapped h (Ok i) f g = refl
by_mapped h (Err e) f g = refl

pub by_kept : {X : Type 0} (r : Result ℕ Reason) (x : X) → x ≡ by r (λ _. x) (λ _. x)
by_kept (Ok i) x = refl
by_kept (Err e) x = refl

-- a refusal is the same whatever would have been told
pub refused_alike : {X Y : Type 0} (j : Result ℕ Reason) (at : Place) (value : ℕ → X) (other : ℕ → Y) (fault : Fault) → Err fault ≡ returned j at value → Err fault ≡ returned j at other
refused_alike (Ok i) at value other fault e = let z : ◌≡◌ {A = ℕ} 0 1 = cc in absurd (omega arith)
refused_alike (Err reason) at value other fault e = cc

-- a reason told with its place
pub told_at : {X : Type 0} (j : Result ℕ Reason) (at : Place) (value : ℕ → X) (r : Result X Reason) → r ≡ and_then j (λ i. Ok (value i)) → (r' : Result X Fault) → ((x : X) → r ≡ Ok x → r' ≡ Ok x) → ((reason : Reason) → r ≡ Err reason → r' ≡ Err (fault_of reason at)) → r' ≡ returned j at value
told_at (Ok i) at value r e r' ok err = ok (value i) e
told_at (Err reason) at value r e r' ok err = err reason e

module _ (shares : Shares) (fair : Fair shares) (plan : Plan) (law : lawful plan.number plan.method plan.rooms ≡ true) where
  pub goes_along : (s : State) (calls : List Call) → Stands shares plan s calls → Goes shares plan s calls
  goes_along s calls at = record {
    stands = at;
    promised = subst (λ (v : State). Promises shares plan (ledger_after shares plan calls).closed v.balances) (sym at) (promised shares fair plan (lawful_counted plan law) (ledger_after shares plan calls).closed (sound_after shares plan calls).periods);
  }

  pub goes_first : (s : State) → s ≡ no_state (length plan.rooms) → Goes shares plan s []
  goes_first s e = goes_along s [] e

  pub carries : (s s' : State) (call : Call) (a : Result Answer Fault) → a ≡ answer plan s call → s' ≡ after shares plan s call → Carries shares plan s call a s'
  carries s s' call a e f calls at = record {
    answered = e ∙ ap (λ (v : State). answer plan v call) at;
    goes = goes_along s' (calls ++ call ∷ []) (stands_after shares plan s s' calls call at f);
  }
