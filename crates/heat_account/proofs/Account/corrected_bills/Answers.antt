use Rattle.std.proofs.Common.{◌≡◌, true, sym, ◌∙◌, subst}
use Rattle.heat_account.specs.declared.stage.Stage.{Stage}
use Rattle.heat_account.specs.State.{reread, period_bills}
use Rattle.heat_account.specs.Judged.{unamendable}
use Rattle.heat_account.specs.Kept.{stands}
use Rattle.heat_account.proofs.LedgerLaws.{ruled_ok}
use Rattle.heat_account.proofs.KeptLaws.{ruled_none, bills_long, bills_small, clear_facts}
use Rattle.heat_account.proofs.Account.corrected_bills.Goals as goal

pub unwrap-requires : goal.unwrap-requires
unwrap-requires g c =
    let a = c.args.self.now in
    let s = a.state in
    let open-here = clear_facts a.house s.last s.closed c.args.place c.args.reading (subst (λ (v : Stage). stands a.house s.last s.closed v ≡ true) c.requires c.work_again.ensures.held.clear) in
    ruled_none _ _ _ open-here.2 c.work_again.ensures.value

pub returns : goal.returns
returns g c =
    let a = c.args.self.now in
    let s = a.state in
    let shares = g.R.Sharing.shares a.rule in
    let fair = g.met.R.Sharing.fair a.rule in
    let p = reread s.last c.args.place c.args.reading in
    let bs = c.unwrap.result in
    let w = ruled_ok (unamendable a.house s.last c.args.place c.args.reading) (period_bills shares a.house p) bs (sym c.unwrap.ensures ∙ c.work_again.ensures.value) in
    let held = c.work_again.ensures.held in
    record {
      value = w.1;
      long = bills_long shares fair a.house held.lawful p w.0 bs w.1;
      small = bills_small shares fair a.house held.lawful p w.0 bs w.1 held.small.0;
    }
