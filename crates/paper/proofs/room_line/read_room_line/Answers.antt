use Rattle.std.proofs.Common.{Ok, ◌∙◌}
use Rattle.std.proofs.lemmas.Result.{err_from_is_err_and}
use Rattle.forms.proofs.Walks.{exit_is}
use Rattle.paper.proofs.Whole.{room_off, room_by, stood_in}
use Rattle.paper.proofs.room_line.read_room_line.Goals as goal

pub returns-in_err-number : goal.returns-in_err-number
returns-in_err-number c =
    exit_is _ _ (err_from_is_err_and _ c.from_residual.ensures.1) ∙ room_off c.args.line c.args.text.now c.new-cursor.result c.new-cursor.result c.new-cursor.ensures _ c.in_err-number.ensures.value

pub returns-in_err-said : goal.returns-in_err-said
returns-in_err-said c =
    let n = c.in_ok-number.ensures in
    exit_is _ _ (err_from_is_err_and _ c.from_residual-in_err-said.ensures.1)
    ∙ room_by c.args.line c.args.text.now c.new-cursor.result c.open_line.new.cursor c.new-cursor.ensures _ n.value n.after _ c.in_err-said.ensures

pub returns : goal.returns
returns c =
    let n = c.in_ok-number.ensures in
    (λ i. Ok (record {
      room = record { number = c.value.ensures i; area = c.value-2.ensures i; kind = c.in_ok-said.said.kind };
      number_at = c.place.ensures i;
      kind_at = c.place-kind_at.ensures i;
      area_at = c.place-2.ensures i;
      pipe_at = (c.place_of.ensures ∙ stood_in _) i;
    }))
    ∙ room_by c.args.line c.args.text.now c.new-cursor.result c.open_line.new.cursor c.new-cursor.ensures _ n.value n.after _ c.in_ok-said.ensures
