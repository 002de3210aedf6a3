use Rattle.std.proofs.Common.{arith}
use Rattle.billing.proofs.Claimants.{all_among, surcharges_shareable}
use Rattle.billing.proofs.stated.Stated.deductions.Goals as goal

pub surcharges-pot-requires : goal.surcharges-pot-requires
surcharges-pot-requires g c = rw c.floors-floors.ensures (all_among c.args.self.now)

pub overflow_cast-pot : goal.overflow_cast-pot
overflow_cast-pot g c =
    let small = (surcharges_shareable c.args.self.now).small in
    rw (c.surcharges-pot.ensures, c.floors-floors.ensures) (omega arith)

pub share_by-requires : goal.share_by-requires
share_by-requires g c =
    rw (c.surcharges-pot.ensures, c.floors-floors.ensures) (surcharges_shareable c.args.self.now)
