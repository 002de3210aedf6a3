use Rattle.std.proofs.Common.{◌≡◌, ◌∷◌, length, sym, ap, ◌∙◌, arith}
use Rattle.forms.specs.Lines.{lines}
use Rattle.forms.proofs.LineLaws.{next_line}
use Rattle.forms.proofs.lines.LinesIterator.next.Goals as goal
use Rattle.forms.proofs.lines.LinesIterator.next.Goals.{After-split_at}

one_line : (c : After-split_at) → c.args.self.now ≡ c.split_at.result.0.now ∷ lines c.split_at.result.1.now
one_line c = sym c.self.view_is ∙ next_line _ _ _ _ c.split_at.ensures.front c.split_at.ensures.back c.line_length.ensures.value (sym c.is_empty.ensures ∙ c.if-is_empty.false)

pub returns-clause-steps : goal.returns-clause-steps
returns-clause-steps c = one_line (goal.at.returns-clause-steps c).After-split_at

pub returns-clause-goes : goal.returns-clause-goes
returns-clause-goes c =
    let fewer = ap length (one_line (goal.at.returns-clause-goes c).After-split_at) in
    record { on = λ _. (tt, tt, omega arith); keeps = tt; rests = λ _. tt }
