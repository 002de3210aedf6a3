use Rattle.sharing.proofs.RuleLaws.{modest, paid_whole}
use Rattle.sharing.proofs.paid.share_by_law.Goals as goal

pub returns-clause-whole : goal.returns-clause-whole
returns-clause-whole g c =
    paid_whole (g.R.Sharing.shares c.args.rule.now) (g.met.R.Sharing.fair c.args.rule.now) c.args.total c.args.weights.now c.args.place.now c.share.result _ c.share.ensures.value c.share.ensures.after

pub returns-clause-modest : goal.returns-clause-modest
returns-clause-modest g c = modest _ (g.met.R.Sharing.fair c.args.rule.now)
