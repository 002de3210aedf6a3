use Rattle.std.proofs.Common.{◌≡◌, ℕ, List, set, Some, Option, ap, ◌∙◌}
use Rattle.billing.specs.Counting.{counted}
use Rattle.billing.specs.Period.{refusal, bills}
use Rattle.billing.specs.Worked.{ruled}
use Rattle.heat_account.specs.Tables.{state_of}
use Rattle.heat_account.proofs.LedgerLaws.{small_refusal}
use Rattle.heat_account.proofs.Account.work_again.Goals as goal

pub returns-clause-value : goal.returns-clause-value
returns-clause-value g c =
    let a = c.self.inside in
    let plan = a.house in
    let last = (state_of a.tables).last in
    let reread = set last.readings c.args.place (Some c.args.reading) in
    let readings : c.as_slice.result.now ≡ reread =
    c.as_slice.ensures.value ∙ c.set.ensures.after ∙ ap (λ (v : List (Option ℕ)). set v c.args.place (Some c.args.reading)) c.copy_from.ensures in
    rw (← c.self.view_is) (
    c.work_out.ensures
    ∙ ap (λ (v : List (Option ℕ)). ruled (refusal plan.method (counted plan.rooms v) last.total last.common) (bills (g.R.Sharing.shares a.rule) plan.method (counted plan.rooms v) last.total last.common)) readings
    ∙ ap (λ o. ruled o (bills (g.R.Sharing.shares a.rule) plan.method (counted plan.rooms reread) last.total last.common)) (small_refusal plan.method (counted plan.rooms reread) last.total last.common c.self.invariant.small.0 c.self.invariant.small.1))
