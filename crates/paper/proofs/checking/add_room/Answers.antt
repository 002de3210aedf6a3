use Rattle.std.proofs.Common.{ap, ◌∙◌, sym, rules}
use Rattle.paper.specs.Reading.{joined}
use Rattle.paper.proofs.Judging.{judged, said_line}
use Rattle.paper.proofs.checking.add_room.Goals as goal

pub returns : goal.returns
returns c =
    let plan = c.args.house.now in
    judged _ c.args.line plan c.add.new.self plan c.in_ok-said.said c.map_err.result (λ e f k. search rules) _ c.add.result c.add.ensures.value c.map_err.ensures.cases c.add.ensures.after
    ∙ sym (ap (joined c.args.line plan) (said_line c.args.line c.in_ok-said.said _ c.in_ok-said.ensures))
