use Rattle.std.proofs.Common.{◌≡◌, List, get_or, take, sym, refl, ap, ◌∙◌, subst}
use Rattle.std.proofs.lemmas.List.{take_more, take_all}
use Rattle.house.specs.Plan.{Plan}
use Rattle.heat_account.specs.declared.call.Call.{Call}
use Rattle.heat_account.specs.State.{State}
use Rattle.heat_account.specs.Judged.{answer, after}
use Rattle.heat_account.specs.Ledger.{Stands}
use Rattle.heat_account.specs.Carried.{overlaid}
use Rattle.heat_account.proofs.LedgerLaws.{stands_after}
use Rattle.heat_account.proofs.Carrying.{goes_along}
use Rattle.heat_account.proofs.RunLaws.{answered, answer_written}
use Rattle.heat_account.proofs.runs.run.Goals as goal

pub loop-i-init : goal.loop-i-init
loop-i-init g c =
    let opened = c.open-account.ensures.value in
    record { house = ap (λ a. a.house) opened; rule = ap (λ a. a.rule) opened; stands = ap (λ a. a.state) opened; answers = refl }

pub loop-i-preserved : goal.loop-i-preserved
loop-i-preserved g c =
    let plan = c.args.house in
    let shares = g.R.Sharing.shares c.args.rule in
    let account = c.loop-i.account in
    let s = account.state in
    let s' = c.perform_into.new.self.state in
    let calls = c.args.calls.now in
    let i = c.loop-i.i in
    let h = c.loop-i-test.true in
    let inv = c.loop-i.invariant in
    let e = c.perform_into.ensures in
    let call = get_or calls i _ in
    let moved : s' ≡ after shares plan s call =
    ap (λ a. a.state) e.after ∙ ap (λ r. after (g.R.Sharing.shares r) account.house s call) inv.rule ∙ ap (λ (v : Plan). after shares v s call) inv.house in
    let told = ap (λ (v : Plan). answer v s call) inv.house ∙ ap (λ (v : State). answer plan v call) inv.stands in
    record {
      house = ap (λ a. a.house) e.after ∙ inv.house;
      rule = ap (λ a. a.rule) e.after ∙ inv.rule;
      stands = subst (λ (v : List Call). Stands shares plan s' v) (sym (take_more calls i _ h)) (stands_after shares plan s s' (take i calls) call inv.stands moved);
      answers = answer_written shares plan calls i _ h c.loop-i.answers c.args.answers.now inv.answers (answer account.house s call) told c.perform_into.new.answers e.answer;
    }

pub returns : goal.returns
returns g c =
    let shares = g.R.Sharing.shares c.args.rule in
    let inv = c.loop-i.invariant in
    let calls = c.args.calls.now in
    let all : take c.loop-i.i calls ≡ calls = take_all c.loop-i.i calls c.loop-i-test.false in
    record {
      house = inv.house;
      rule = inv.rule;
      ledger = goes_along shares (g.met.R.Sharing.fair c.args.rule) c.args.house c.open-account.ensures.lawful c.loop-i.account.state calls (subst (Stands shares c.args.house c.loop-i.account.state) all inv.stands);
      answers = inv.answers ∙ ap (λ (v : List Call). overlaid (answered shares c.args.house v) c.args.answers.now) all;
    }
