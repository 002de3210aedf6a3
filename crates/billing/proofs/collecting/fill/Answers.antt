use Rattle.std.proofs.Common.{sym, ◌∙◌}
use Rattle.std.proofs.iter.Next.{said}
use Rattle.std.proofs.iter.runs.Made.{run_of_exit}
use Rattle.billing.proofs.collecting.fill.Goals as goal

pub returns-clause-runs : goal.returns-clause-runs
returns-clause-runs g c =
    let steps = g.I.Iterator.next_gives in
    let r = run_of_exit steps _ c.loop-item.yielded _ c.loop-item.yielded_by _ (said steps c.in-None.is c.next.ensures.steps) in
    (r.0, r.1 ∙ c.into_iter-item-iterator.ensures.into_iter_gives, r.2, c.loop-item.invariant.0 ∙ sym r.3.0)
