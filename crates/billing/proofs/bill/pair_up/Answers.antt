use Rattle.std.proofs.Common.{ℕ, rules}
use Rattle.std.proofs.lemmas.Iterator.{YieldsList-from_slice, YieldsList-from_zip, YieldsList-from_map}
use Rattle.billing.specs.Period.{bill}
use Rattle.billing.proofs.Collected.{collected_beside}
use Rattle.billing.proofs.bill.pair_up.Goals as goal

pub returns : goal.returns
returns c =
    let owns = c.args.owns.now in
    let commons = c.args.commons.now in
    collected_beside bill owns commons c.requires _ c.collect.ensures.ran
    (YieldsList-from_map _ (λ (p : ℕ × ℕ). bill p.0 p.1) (YieldsList-from_zip (YieldsList-from_slice owns cc) (YieldsList-from_slice commons cc)) c.map.ensures.closure (λ x r q k. search rules))
