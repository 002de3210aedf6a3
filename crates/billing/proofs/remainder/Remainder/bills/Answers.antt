use Rattle.billing.proofs.Claimants.{remainder_long}
use Rattle.billing.proofs.remainder.Remainder.bills.Goals as goal

pub pair_up-requires : goal.pair_up-requires
pair_up-requires g c = rw (c.common_shares.ensures, c.own_heats.ensures) (remainder_long c.args.self.now (g.R.Sharing.shares c.args.rule.now))
