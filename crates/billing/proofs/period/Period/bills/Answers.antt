use Rattle.std.proofs.Common.{sym, ap, ◌∙◌}
use Rattle.billing.specs.Period.{bills}
use Rattle.billing.proofs.PeriodLaws.{bills_lawful}
use Rattle.billing.proofs.period.Period.bills.Goals as goal

pub returns-in-Remainder-clause-laws : goal.returns-in-Remainder-clause-laws
returns-in-Remainder-clause-laws g c =
    let shares = g.R.Sharing.shares c.args.rule.now in
    let s = c.args.self.now in
    bills_lawful shares s.method s.rooms.now s.total s.common _
    (c.bills.ensures ∙ ap (λ m. bills shares m s.rooms.now s.total s.common) (sym c.in-Remainder.is)) (g.met.R.Sharing.fair c.args.rule.now) c.requires

pub returns-in-Stated-clause-laws : goal.returns-in-Stated-clause-laws
returns-in-Stated-clause-laws g c =
    let shares = g.R.Sharing.shares c.args.rule.now in
    let s = c.args.self.now in
    bills_lawful shares s.method s.rooms.now s.total s.common _
    (c.bills-in-Stated.ensures ∙ ap (λ m. bills shares m s.rooms.now s.total s.common) (sym c.in-Stated.is)) (g.met.R.Sharing.fair c.args.rule.now) c.requires
