use Rattle.std.proofs.Common.{Ok, ◌∙◌}
use Rattle.std.proofs.lemmas.Result.{err_from_is_err_and}
use Rattle.forms.proofs.Walks.{exit_is}
use Rattle.paper.proofs.Whole.{heading_off, heading_by}
use Rattle.paper.proofs.heading.read_heading.Goals as goal

pub returns-in_err-number : goal.returns-in_err-number
returns-in_err-number c =
    exit_is _ _ (err_from_is_err_and _ c.from_residual.ensures.1) ∙ heading_off c.args.line c.args.text.now c.new-cursor.result c.new-cursor.result c.new-cursor.ensures _ c.in_err-number.ensures.value

pub returns-in_err-method : goal.returns-in_err-method
returns-in_err-method c =
    let n = c.in_ok-number.ensures in
    exit_is _ _ (err_from_is_err_and _ c.from_residual-in_err-method.ensures.1)
    ∙ heading_by c.args.line c.args.text.now c.new-cursor.result c.open_line.new.cursor c.new-cursor.ensures _ n.value n.after _ c.in_err-method.ensures

pub returns : goal.returns
returns c =
    let n = c.in_ok-number.ensures in
    (λ i. Ok (record { number = c.value.ensures i; method = c.in_ok-method.method; number_at = c.place.ensures i; figure_at = c.place-2.ensures i }))
    ∙ heading_by c.args.line c.args.text.now c.new-cursor.result c.open_line.new.cursor c.new-cursor.ensures _ n.value n.after _ c.in_ok-method.ensures
