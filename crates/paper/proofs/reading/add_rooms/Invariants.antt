use Rattle.std.proofs.Common.{◌≡◌, ◌+◌, ◌<◌, ◌≤◌, length}
use Rattle.paper.specs.Reading.{rooms_read}
use Rattle.paper.proofs.reading.add_rooms.Given as goal

abbrev pub invariant-loop-text : goal.invariant-loop-text
invariant-loop-text l = record {
  same : rooms_read l.text-iterator.b.start l.house l.text-iterator.a ≡ rooms_read 3 l.initial.house l.fn.lines;
  some : 0 < length l.house.rooms;
  few : l.text-iterator.b.start + length l.text-iterator.a ≤ 3 + length l.fn.lines;
}
