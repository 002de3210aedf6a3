use Rattle.std.proofs.Common.{◌≡◌, ◌*◌, ◌≤◌, ◌^◌, take}
use Rattle.billing.specs.Counting.{plain_count, plain_area, read_area, read_sum, pipe_sum}
use Rattle.billing.proofs.sums.Sums.of.Given as goal

abbrev pub invariant-loop-room : goal.invariant-loop-room
invariant-loop-room l = record {
  plain_rooms : l.found.plain_rooms ≡ plain_count (take l.room-index l.room-items);
  plain_area : l.found.plain_area ≡ plain_area (take l.room-index l.room-items);
  read_area : l.found.read_area ≡ read_area (take l.room-index l.room-items);
  readings : l.found.readings ≡ read_sum (take l.room-index l.room-items);
  pipes : l.found.pipes ≡ pipe_sum (take l.room-index l.room-items);
  few : l.found.plain_rooms ≤ l.room-index;
  plain : l.found.plain_area ≤ l.room-index * 2 ^ 32;
  read : l.found.read_area ≤ l.room-index * 2 ^ 32;
  metered : l.found.readings ≤ l.room-index * 2 ^ 32;
  piped : l.found.pipes ≤ l.room-index * 2 ^ 32;
}
