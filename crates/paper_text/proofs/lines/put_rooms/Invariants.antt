use Rattle.std.proofs.Common.{take}
use Rattle.paper_text.specs.Text.{room_lines}
use Rattle.paper_text.specs.Page.{Put}
use Rattle.paper_text.proofs.lines.put_rooms.Given as goal

abbrev pub invariant-loop-room : goal.invariant-loop-room
invariant-loop-room l = Put (room_lines (take l.room-index l.rooms)) l.initial.page l.page
