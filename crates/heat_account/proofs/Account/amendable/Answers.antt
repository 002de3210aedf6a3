use Rattle.std.proofs.lemmas.Result.{err_from_is_err_and}
use Rattle.heat_account.specs.State.{period_bills, reread}
use Rattle.heat_account.specs.Judged.{unamendable}
use Rattle.heat_account.proofs.KeptLaws.{ruled_err, amend_refused}
use Rattle.heat_account.proofs.Account.amendable.Goals as goal

pub returns-in_err-work_again-clause-value : goal.returns-in_err-work_again-clause-value
returns-in_err-work_again-clause-value g c =
    let a = c.args.self.now in
    let place = c.in_ok-place.place in
    let reason = c.in_err-work_again.field-0.0 in
    let o = ruled_err (unamendable a.house a.state.last place c.args.reading) (period_bills (g.R.Sharing.shares a.rule) a.house (reread a.state.last place c.args.reading)) reason c.in_err-work_again.ensures.value in
    let p = err_from_is_err_and c.from_residual-in_err-work_again.result c.from_residual-in_err-work_again.ensures.1 in
    rw (p.1, p.2) (amend_refused a.house a.state c.args.room c.args.reading place reason (rw (← c.self.view_is) c.if-self-eq0.false) c.in_ok-place.ensures.value o)
