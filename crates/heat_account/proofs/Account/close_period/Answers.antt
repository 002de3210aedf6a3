use Rattle.std.proofs.Common.{◌<◌, sym, refl, ap, ◌∙◌, subst, arith}
use Rattle.std.proofs.lemmas.Result.{err_from_is_err_and}
use Rattle.billing.specs.Counting.{counted}
use Rattle.billing.specs.Period.{refusal}
use Rattle.billing.specs.Worked.{ruled}
use Rattle.billing.proofs.HouseLaws.{refusal_small}
use Rattle.heat_account.specs.declared.call.Call.TheVariants.{Close}
use Rattle.heat_account.specs.State.{Period, period_bills}
use Rattle.heat_account.specs.Judged.{judged, told}
use Rattle.heat_account.specs.Kept.{Holds}
use Rattle.heat_account.specs.Tables.{state_of}
use Rattle.heat_account.proofs.LedgerLaws.{ruled_ok, workable_refusal}
use Rattle.heat_account.proofs.KeptLaws.{ruled_err, refused_value, refused_after, bills_long, bills_small, holds_close, close_judged, low_balance}
use Rattle.heat_account.proofs.Account.close_period.Goals as goal

pub returns-in_err-bills-clause-value : goal.returns-in_err-bills-clause-value
returns-in_err-bills-clause-value g c =
    let a = c.args.self.now in
    let s = a.state in
    let reason = c.in_err-bills.field-0.0 in
    let o = ruled_err (refusal a.house.method (counted a.house.rooms s.readings) c.args.total c.args.common) _ reason c.in_err-bills.ensures in
    let few : s.closed < 600 = rw (← c.self.view_is) (omega (arith, c.if-self-ge-MOST_PERIODS.false)) in
    let j = close_judged a.house s c.args.total c.args.common c.requires few ∙ ap (λ v. ruled v 0) o in
    let p = err_from_is_err_and c.from_residual.result c.from_residual.ensures.1 in
    rw (p.1, p.2) (refused_value (judged a.house s (Close c.args.total c.args.common)) (told a.house s (Close c.args.total c.args.common)) reason j)

pub returns-in_err-bills-clause-after : goal.returns-in_err-bills-clause-after
returns-in_err-bills-clause-after g c =
    let a = c.args.self.now in
    let s = a.state in
    let reason = c.in_err-bills.field-0.0 in
    let o = ruled_err (refusal a.house.method (counted a.house.rooms s.readings) c.args.total c.args.common) _ reason c.in_err-bills.ensures in
    let few : s.closed < 600 = rw (← c.self.view_is) (omega (arith, c.if-self-ge-MOST_PERIODS.false)) in
    let j = close_judged a.house s c.args.total c.args.common c.requires few ∙ ap (λ v. ruled v 0) o in
    refused_after (g.R.Sharing.shares a.rule) a (Close c.args.total c.args.common) reason j

pub close-requires : goal.close-requires
close-requires g c =
    let h = c.self.invariant in
    let plan = c.self.inside.house in
    let s = state_of c.self.inside.tables in
    let shares = g.R.Sharing.shares c.self.inside.rule in
    let p : Period = record { readings = s.readings; total = c.args.total; common = c.args.common } in
    let worked = rw (← c.self.view_is) at c.in_ok-bills.ensures in
    let w = ruled_ok (refusal plan.method (counted plan.rooms s.readings) c.args.total c.args.common) (period_bills shares plan p) c.in_ok-bills.bills worked in
    record {
      long = bills_long shares (g.met.R.Sharing.fair c.self.inside.rule) plan h.lawful p (workable_refusal plan p w.0) c.in_ok-bills.bills w.1 ∙ sym h.long.3;
      few = omega arith;
      room = low_balance plan s h;
    }

pub invariant_of-self : goal.invariant_of-self
invariant_of-self g c =
    let h = c.self.invariant in
    let plan = c.self.inside.house in
    let s = state_of c.self.inside.tables in
    let shares = g.R.Sharing.shares c.self.inside.rule in
    let fair = g.met.R.Sharing.fair c.self.inside.rule in
    let p : Period = record { readings = s.readings; total = c.args.total; common = c.args.common } in
    let bs = c.in_ok-bills.bills in
    let worked = rw (← c.self.view_is) at c.in_ok-bills.ensures in
    let w = ruled_ok (refusal plan.method (counted plan.rooms s.readings) c.args.total c.args.common) (period_bills shares plan p) bs worked in
    let ok = workable_refusal plan p w.0 in
    let small = refusal_small plan.method (counted plan.rooms s.readings) c.args.total c.args.common w.0 in
    let taking = rw (← c.self.view_is) at c.requires in
    subst (Holds plan) (sym c.close.ensures) (holds_close plan s h p bs (bills_long shares fair plan h.lawful p ok bs w.1) (bills_small shares fair plan h.lawful p ok bs w.1 small.0) taking (omega arith) small.0 small.1 refl)
