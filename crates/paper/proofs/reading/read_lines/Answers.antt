use Rattle.std.proofs.Common.{arith, ap, length}
use Rattle.paper.proofs.Papers.{lines_few, no_more}
use Rattle.paper.proofs.reading.read_lines.Goals as goal

pub add_rooms-requires-clause-few : goal.add_rooms-requires-clause-few
add_rooms-requires-clause-few c =
    let one = no_more (λ line. line.now) c.next.result c.new-lines.result c.next.new.self c.next.ensures.steps in
    let two = no_more (λ line. line.now) c.next-2.result c.next.new.self c.next-2.new.self c.next-2.ensures.steps in
    omega (arith, ap length c.new-lines.ensures, lines_few c.args.paper.now)
