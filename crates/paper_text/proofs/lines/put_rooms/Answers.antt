use Rattle.house.specs.declared.room.Kind.TheVariants.{Metered}
use Rattle.paper_text.proofs.Puts.{rooms_more}
use Rattle.paper_text.proofs.lines.put_rooms.Goals as goal

pub loop-room-preserved : goal.loop-room-preserved
loop-room-preserved c =
    rooms_more c.args.rooms.now c.loop-room.room-index (record { number = 0; area = 0; kind = Metered }) c.loop-room-test.true c.loop-room.invariant c.put_room.ensures
