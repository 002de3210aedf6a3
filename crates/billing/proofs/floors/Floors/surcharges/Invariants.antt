use Rattle.std.proofs.Common.{◌≡◌, ◌*◌, ◌^◌, ◌≤◌, take, sum_by}
use Rattle.billing.specs.Claims.{surcharge_by}
use Rattle.billing.proofs.floors.Floors.surcharges.Given as goal

abbrev pub invariant-loop-room : goal.invariant-loop-room
invariant-loop-room l = (l.sum ≡ sum_by (surcharge_by l.self) (take l.room-index l.list)) × (l.sum ≤ l.room-index * 2 ^ 32)
