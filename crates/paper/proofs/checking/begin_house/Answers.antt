use Rattle.std.proofs.Common.{ap, ◌∙◌, sym, rules}
use Rattle.std.proofs.lemmas.Result.{err_from_is_err_and}
use Rattle.house.specs.Plan.{bare}
use Rattle.forms.proofs.Walks.{exit_is}
use Rattle.paper.specs.Reading.{joined, placed, taken}
use Rattle.paper.proofs.Judging.{judged, begun, said_line}
use Rattle.paper.proofs.checking.begin_house.Goals as goal

pub returns-in_err-map_err : goal.returns-in_err-map_err
returns-in_err-map_err c =
    let h = c.args.heading in
    let plan = bare h.number h.method in
    let said = c.in_ok-said.said in
    exit_is _ _ (err_from_is_err_and _ c.from_residual-in_err-map_err.ensures.1)
    ∙ ap (λ v. placed v c.begin.new.self) (sym c.in_err-map_err.was)
    ∙ judged _ c.args.line plan c.begin.new.self c.new-house.result said c.map_err.result (λ e f k. search rules) _ c.begin.result c.begin.ensures.value c.map_err.ensures.cases c.begin.ensures.after
    ∙ ap (taken c.args.line plan said) (begun h.number h.method said.room c.requires.number c.requires.method)
    ∙ sym (ap (joined c.args.line plan) (said_line c.args.line said _ c.in_ok-said.ensures))
