use Rattle.std.proofs.Common.{sym, subst}
use Rattle.std.proofs.ByRecursion.{All-get_or}
use Rattle.std.specs.List.{AllByRecursion}
use Rattle.billing.specs.Claims.{Among}
use Rattle.billing.proofs.floors.Floors.surcharges.Goals as goal

pub surcharge-requires : goal.surcharge-requires
surcharge-requires c =
    let among = Among c.args.self in
    All-get_or among c.as_slice-list.result.now c.loop-room.room-index _ c.loop-room-test.true (subst (AllByRecursion among) (sym c.as_slice-list.ensures.value) c.requires)
