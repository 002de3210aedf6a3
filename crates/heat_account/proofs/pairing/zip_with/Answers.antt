use Rattle.std.proofs.lemmas.Slice.Zip.{either_empty_from_Zip}
use Rattle.heat_account.proofs.Makings.{made_all}
use Rattle.heat_account.proofs.pairing.zip_with.Goals as goal

pub returns : goal.returns
returns g c =
    made_all _ _ _ _ _ _ (either_empty_from_Zip c.loop-x.x-iterator c.next.new.self c.next.result c.in-None.is c.next.ensures.steps) c.loop-x.invariant.making
