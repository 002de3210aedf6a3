use Rattle.std.proofs.Common.{rules}
use Rattle.std.proofs.lemmas.Iterator.{YieldsList-from_slice, YieldsList-from_map}
use Rattle.billing.specs.Claims.{claim}
use Rattle.billing.proofs.Collected.{collected}
use Rattle.billing.proofs.claims.Basis.claims.Goals as goal

pub returns : goal.returns
returns c =
    collected _ c.fill.ensures.ran
    (YieldsList-from_map _ (claim c.args.self) (YieldsList-from_slice c.args.rooms.now cc) c.map.ensures.closure (λ x r q k. search rules))
