use Rattle.billing.proofs.Claimants.{common_pot_shareable}
use Rattle.billing.proofs.remainder.Remainder.common_shares.Goals as goal

pub share_by-requires : goal.share_by-requires
share_by-requires g c = rw c.common_pot.ensures (common_pot_shareable c.args.self.now)
