use Rattle.std.proofs.Common.{arith}
use Rattle.house.proofs.Laws.{areas_within}
use Rattle.house.proofs.House.add.Goals as goal

pub check_room-requires : goal.check_room-requires
check_room-requires c = let h = areas_within c.args.self.now.number c.args.self.now.method c.args.self.now.rooms c.rooms.ensures.lawful in rw c.rooms.ensures.value (omega arith)
