use Rattle.std.proofs.Common.{◌≡◌, ◌++◌, string_bytes}
use Rattle.printing.specs.Printed.{lines}
use Rattle.printing.proofs.LineLaws.{to_come}
use Rattle.printing.proofs.entries.print_lines.Given as goal

-- what is printed and what is still to come make up the whole
abbrev pub invariant-loop-room : goal.invariant-loop-room
invariant-loop-room g l =
    string_bytes l.out ++ to_come g.E.Entry.line l.room-iterator
    ≡ string_bytes l.initial.out ++ lines g.E.Entry.line l.rooms l.entries
