-- The account that handed a slip out takes it back.
use Rattle.std.proofs.Common.{◌≡◌, ℕ, true, ◌&&◌, eqb, Ok, Err, Result, refl, ap, ◌∙◌, arith}
use Rattle.std.proofs.lemmas.Bool.{eq-eqb}
use Rattle.fault.specs.declared.reason.Reason.{Reason}
use Rattle.fault.specs.declared.place.Place.TheVariants.{Room}
use Rattle.fault.specs.declared.refusal.Fault.{Fault}
use Rattle.fault.specs.Numbers.{fault_of}
use Rattle.sharing.specs.Rule.{Shares}
use Rattle.house.specs.Plan.{Plan}
use Rattle.heat_account.specs.declared.slip.Slip.{Slip}
use Rattle.heat_account.specs.declared.call.Call.TheVariants.{Correct, Book, Withdraw}
use Rattle.heat_account.specs.declared.stage.Stage.TheVariants.{Correcting}
use Rattle.heat_account.specs.State.{State, moved_on, with_stage}
use Rattle.heat_account.specs.Judged.{by, judged, result_of, after, fits}
use Rattle.heat_account.specs.Carried.{with_slip}

-- the numbers of a correction that is open fit it
own_numbers : (plan : Plan) (s : State) (place reading : ℕ) → fits plan (with_stage s (Correcting place reading)) plan.number s.closed ≡ true
own_numbers plan s place reading = ap (λ b. b && eqb s.closed s.closed) (eq-eqb plan.number plan.number refl) ∙ eq-eqb s.closed s.closed refl

module _ (shares : Shares) (plan plan' : Plan) (s s' : State) (room reading : ℕ) (slip : Slip) where
  -- the slip of an accepted correction fits what the account then holds
  pub fitting : Ok slip ≡ result_of plan s (Correct room reading) (λ _. record { house = plan.number; period = s.closed }) → s' ≡ after shares plan s (Correct room reading) → plan' ≡ plan → fits plan' s' slip.house slip.period ≡ true
  fitting e f same = ap (λ (v : Plan). fits v s' slip.house slip.period) same ∙ turned (judged plan s (Correct room reading)) e f where
    turned : (j : Result ℕ Reason) → Ok slip ≡ by j (λ _. Ok (record { house = plan.number; period = s.closed })) (λ reason. Err (fault_of reason (Room room))) → s' ≡ by j (moved_on shares plan s (Correct room reading)) (λ _. s) → fits plan s' slip.house slip.period ≡ true
    turned (Ok place) e f =
        let own : slip ≡ record { house = plan.number; period = s.closed } = cc in
        ap (λ (v : State). fits plan v slip.house slip.period) f
        ∙ (ap (λ (v : Slip). fits plan (with_stage s (Correcting place reading)) v.house v.period) own ∙ own_numbers plan s place reading)
    turned (Err reason) e f = absurd (let z : ◌≡◌ {A = ℕ} 0 1 = cc in omega arith)

-- a slip that fits is not handed back
module _ (plan : Plan) (s : State) (slip : Slip) (fit : fits plan s slip.house slip.period ≡ true) (back : Fault × Slip) where
  pub booked : Err back ≡ with_slip (result_of plan s (Book slip.house slip.period) (λ _. tt)) slip → ⊥
  booked e = let z : ◌≡◌ {A = ℕ} 0 1 = cc in omega arith

  pub withdrawn : Err back ≡ with_slip (result_of plan s (Withdraw slip.house slip.period) (λ _. tt)) slip → ⊥
  withdrawn e = let z : ◌≡◌ {A = ℕ} 0 1 = cc in omega arith
