use Rattle.billing.proofs.Claimants.{covered}
use Rattle.billing.proofs.stated.Stated.own_heats.Goals as goal

pub deduct-requires : goal.deduct-requires
deduct-requires g c =
    rw (c.gross_heats.ensures, c.deductions.ensures) (covered c.args.self.now (g.R.Sharing.shares c.args.rule.now) (g.met.R.Sharing.fair c.args.rule.now))
