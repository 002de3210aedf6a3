use Rattle.std.proofs.Common.{◌∙◌, rules}
use Rattle.std.proofs.lemmas.Iterator.{YieldsList-from_slice, YieldsList-from_map}
use Rattle.std.proofs.lemmas.Iterator.Consumers.{YieldsList-from_enumerate}
use Rattle.billing.proofs.Collected.{collected}
use Rattle.billing.proofs.Counted.{counted_at, counted_given}
use Rattle.billing.proofs.counting.count_rooms.Goals as goal

pub returns : goal.returns
returns c =
    let rooms = c.args.rooms.now in
    let readings = c.args.readings.now in
    collected _ c.collect.ensures.ran
    (YieldsList-from_map _ (counted_at readings) (YieldsList-from_enumerate (YieldsList-from_slice rooms cc) cc) c.map.ensures.closure (λ x r q k. search rules))
    ∙ counted_given rooms readings
