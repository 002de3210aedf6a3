use Rattle.std.proofs.Common.{string_bytes, append-nil}
use Rattle.printing.proofs.LineLaws.{to_come_all}
use Rattle.printing.proofs.entries.print_lines.Goals as goal

pub returns : goal.returns
returns g c =
    let none = to_come_all g.E.Entry.line c.loop-room.room-iterator c.next.new.self c.next.result c.in-None.is c.next.ensures.steps in
    let all = append-nil (string_bytes c.loop-room.out) in
    cc
