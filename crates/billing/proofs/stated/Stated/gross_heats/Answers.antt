use Rattle.billing.specs.Claims.{claim}
use Rattle.billing.specs.declared.claims.Basis.TheVariants.{PlainArea}
use Rattle.billing.proofs.Claimants.{all_among, rest_shareable}
use Rattle.billing.proofs.PotLaws.{shares_length}
use Rattle.billing.proofs.stated.Stated.gross_heats.Goals as goal

pub share_by-shares-requires : goal.share_by-shares-requires
share_by-shares-requires g c = rw c.rest.ensures (rest_shareable c.args.self.now)

pub gross_of-requires-clause-same : goal.gross_of-requires-clause-same
gross_of-requires-clause-same g c =
    rw c.share_by-shares.ensures (shares_length (g.R.Sharing.shares c.args.rule.now) c.rest.result (claim PlainArea) c.args.self.now.rooms.now)

pub gross_of-requires-clause-among : goal.gross_of-requires-clause-among
gross_of-requires-clause-among g c = rw c.floors.ensures (all_among c.args.self.now)
