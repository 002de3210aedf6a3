-- What every account keeps true, through each change of its tables.
use Rattle.std.proofs.Common.{◌≡◌, ℕ, ◌+◌, ◌-◌, ◌<◌, ◌≤◌, true, false, ltb, List, map, length, get_or, is_some, Some, None, Ok, Err, IsOk, Option, Result, sym, refl, ap, ◌∙◌, arith, rules}
use lib.ListN.{length-replicate}
use Rattle.std.proofs.lemmas.Bool.{ltb-true, and_parts, not-true, ne_eqb, lt-leb, cond-false}
use Rattle.fault.specs.declared.reason.Reason.{Reason}
use Rattle.sharing.specs.Rule.{Shares, Fair}
use Rattle.house.specs.Plan.{Plan, lawful}
use Rattle.billing.proofs.Beside.{beside_length}
use Rattle.billing.proofs.HouseLaws.{lawful_counted}
use Rattle.billing.specs.Counting.{counted}
use Rattle.billing.specs.Period.{figures, given, refusal}
use Rattle.billing.specs.Worked.{ruled}
use Rattle.heat_account.specs.declared.stage.Stage.TheVariants.{Taking, Correcting}
use Rattle.heat_account.specs.declared.answer.Answer.{Answer}
use Rattle.heat_account.specs.declared.call.Call.{Call}
use Rattle.heat_account.specs.declared.call.Call.TheVariants.{Close}
use Rattle.heat_account.specs.State.{Period, State, HouseAccount, with_state, moved_on, period_bills, unbilled, no_state, with_period, with_amended}
use Rattle.heat_account.specs.Judged.{unamendable, amend_of, meter_of, and_then, correcting, judged, by, performed}
use Rattle.heat_account.specs.Kept.{Holds, stands}
use Rattle.heat_account.proofs.Balances.{Workable, laws_of, bills_length}
use Rattle.heat_account.proofs.Entries.{bill_in, billed_at, unbilled_at, bill_le_sum, no_bill, no_balance}

-- what working a period out answered
pub ruled_err : {X : Type 0} (o : Option Reason) (x : X) (reason : Reason) → Err reason ≡ ruled o x → o ≡ Some reason
ruled_err None x reason e = let z : ◌≡◌ {A = ℕ} 0 1 = cc in absurd (omega arith)
ruled_err (Some r) x reason e = cc

pub ruled_none : {X : Type 0} (o : Option Reason) (x : X) (r : Result X Reason) → o ≡ None → r ≡ ruled o x → IsOk r
ruled_none None x (Ok y) n e = search rules
ruled_none None x (Err reason) n e = let z : ◌≡◌ {A = ℕ} 0 1 = cc in absurd (omega arith)
ruled_none (Some reason) x r n e = let z : ◌≡◌ {A = ℕ} 0 1 = cc in absurd (omega arith)

-- the bills of an accepted period: one for each room, and none above the limit
module _ (shares : Shares) (fair : Fair shares) (plan : Plan) (law : lawful plan.number plan.method plan.rooms ≡ true) (p : Period) (w : Workable plan p) (bs : List (ℕ × ℕ)) (is : bs ≡ period_bills shares plan p) where
  pub bills_long : length bs ≡ length plan.rooms
  bills_long = ap length is ∙ bills_length shares fair plan (lawful_counted plan law) p w

  pub bills_small : p.total ≤ 100000000 → (k : ℕ) → bill_in bs k ≤ 100000000
  bills_small small k =
      omega (arith, ap (λ v. bill_in v k) is, bill_le_sum (period_bills shares plan p) k, (laws_of shares fair plan (lawful_counted plan law) p w).closes)

none_from : (o : Option Reason) → is_some o ≡ false → o ≡ None
none_from None e = refl
none_from (Some r) e = let z : ◌≡◌ {A = ℕ} 0 1 = cc in absurd (omega arith)

-- a correction that is open
pub clear_facts : (plan : Plan) (last : Period) (closed place reading : ℕ) → stands plan last closed (Correcting place reading) ≡ true → (0 < closed) × (place < length plan.rooms) × (unamendable plan last place reading ≡ None)
clear_facts plan last closed place reading e =
    let a = and_parts (ltb 0 closed) _ e in
    let b = and_parts (ltb place (length plan.rooms)) _ a.1 in
    (ltb-true 0 closed a.0, ltb-true place (length plan.rooms) b.0, none_from (unamendable plan last place reading) (not-true _ b.1))

module _ (plan : Plan) (s : State) (h : Holds plan s) (p : Period) (bs : List (ℕ × ℕ)) (long : length bs ≡ length plan.rooms) (low : (k : ℕ) → bill_in bs k ≤ 100000000) where
  pub holds_close : s.stage ≡ Taking → s.closed < 600 → p.total ≤ 100000000 → given p.common ≤ 100000000 → p.readings ≡ s.readings → Holds plan (with_period s p bs)
  holds_close taking few total common same = record {
    lawful = h.lawful;
    long = (length-replicate {A = Option ℕ} (length s.readings) None ∙ h.long.0, ap length same ∙ h.long.0, long, beside_length ◌+◌ s.balances (map figures bs) ∙ h.long.3);
    few = omega arith;
    small = (total, common);
    bounded = λ k. let b = billed_at s.balances bs k (long ∙ sym h.long.3) in let old = h.bounded k in (omega arith, omega (arith, low k), low k);
    clear = ap (stands plan p (s.closed + 1)) taking;
  }

  pub holds_amend : length p.readings ≡ length s.last.readings → p.total ≡ s.last.total → p.common ≡ s.last.common → Holds plan (with_amended s p bs)
  holds_amend same total common = record {
    lawful = h.lawful;
    long = (h.long.0, same ∙ h.long.1, long, beside_length ◌+◌ (unbilled s.balances s.bills) (map figures bs) ∙ beside_length ◌-◌ s.balances (map figures s.bills) ∙ h.long.3);
    few = h.few;
    small = (omega (arith, h.small.0), omega (arith, h.small.1, ap given common));
    bounded = λ k.
        let u = unbilled_at s.balances s.bills k in
        let b = billed_at (unbilled s.balances s.bills) bs k (long ∙ sym (beside_length ◌-◌ s.balances (map figures s.bills) ∙ h.long.3)) in
        let old = h.bounded k in
        (omega arith, omega arith, low k);
    clear = refl;
  }

pub holds_first : (plan : Plan) → lawful plan.number plan.method plan.rooms ≡ true → Holds plan (no_state (length plan.rooms))
holds_first plan law =
    let n = length plan.rooms in
    record {
      lawful = law;
      long = (length-replicate {A = Option ℕ} n None, length-replicate {A = Option ℕ} n None, length-replicate {A = ℕ × ℕ} n (0, 0), length-replicate {A = ℕ} n 0);
      few = omega arith;
      small = (omega arith, omega arith);
      bounded = λ k. let a = no_bill n k in let b = no_balance n k in (omega arith, omega arith, omega arith);
      clear = refl;
    }

-- how calls are judged

pub amend_refused : (plan : Plan) (s : State) (room reading place : ℕ) (reason : Reason) → (s.closed ≡ 0 → ⊥) → Ok place ≡ meter_of plan room reading → unamendable plan s.last place reading ≡ Some reason → Err reason ≡ amend_of plan s room reading
amend_refused plan s room reading place reason some at o =
    sym (cond-false _ _ _ (ne_eqb s.closed 0 some)
    ∙ ap (λ (r : Result ℕ Reason). and_then r (λ place. ruled (unamendable plan s.last place reading) place)) (sym at)
    ∙ ap (λ (v : Option Reason). ruled v place) o)

pub close_judged : (plan : Plan) (s : State) (v : ℕ) (q : Option ℕ) → s.stage ≡ Taking → s.closed < 600 → judged plan s (Close v q) ≡ ruled (refusal plan.method (counted plan.rooms s.readings) v q) 0
close_judged plan s v q taking few = cond-false _ _ _ (ap correcting taking) ∙ cond-false _ _ _ (lt-leb 600 s.closed few)

-- what a refused call answers and leaves
pub refused_value : (j : Result ℕ Reason) (told : ℕ → Answer) (reason : Reason) → j ≡ Err reason → Err reason ≡ and_then j (λ place. Ok (told place))
refused_value j told reason e = sym (ap (λ (r : Result ℕ Reason). and_then r (λ place. Ok (told place))) e)

pub refused_after : {R : Type 0} (shares : Shares) (a : HouseAccount R) (call : Call) (reason : Reason) → judged a.house a.state call ≡ Err reason → a ≡ performed shares a call
refused_after shares a call reason e =
    sym (ap (λ (r : Result ℕ Reason). with_state a (by r (moved_on shares a.house a.state call) (λ _. a.state))) e)

pub low_balance : (plan : Plan) (s : State) → Holds plan s → (k : ℕ) → get_or s.balances k 0 < 9223372036854775808
low_balance plan s h k = let b = h.bounded k in let f = h.few in omega arith
