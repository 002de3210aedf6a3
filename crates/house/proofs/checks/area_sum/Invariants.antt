use Rattle.std.proofs.Common.{◌≡◌, take}
use Rattle.house.specs.Plan.{area_sum}
use Rattle.house.proofs.checks.area_sum.Given as goal

abbrev pub invariant-loop-room : goal.invariant-loop-room
invariant-loop-room l = l.sum ≡ area_sum (take l.room-index l.rooms)
