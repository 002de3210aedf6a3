use Rattle.billing.proofs.Claimants.{common_figure_shareable}
use Rattle.billing.proofs.stated.Stated.common_shares.Goals as goal

pub share_by-requires : goal.share_by-requires
share_by-requires g c = rw c.common_figure.ensures (common_figure_shareable c.args.self.now)
