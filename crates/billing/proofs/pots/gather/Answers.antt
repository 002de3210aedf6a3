use Rattle.std.proofs.Common.{◌∙◌, rules, tests}
use Rattle.std.proofs.lemmas.Iterator.{YieldsList-from_slice}
use Rattle.std.proofs.lemmas.Iterator.Consumers.{YieldsList-from_filter_map}
use Rattle.billing.proofs.Collected.{collected, weights_given}
use Rattle.billing.proofs.pots.gather.Goals as goal

pub returns : goal.returns
returns c =
    collected _ c.fill.ensures.ran
    (YieldsList-from_filter_map _ (λ claim. claim) (YieldsList-from_slice c.args.claims.now cc) c.filter_map.ensures.closure (λ x r q k. search (rules, tests)))
    ∙ weights_given c.args.claims.now
