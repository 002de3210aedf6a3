use Rattle.std.proofs.Common.{◌≡◌, codes, sym, ap, ◌∙◌}
use Rattle.forms.specs.Form.{Figure, Form, word, number, done}
use Rattle.forms.specs.Place.{figure_of, line_says}
use Rattle.forms.proofs.Walks.{off_word, off_number, on_word, on_number}
use Rattle.events.specs.declared.event.Event.{Event}
use Rattle.events.proofs.Steps.{ended, refused}
use Rattle.events.proofs.reading.read_reading.Goals as goal
use Rattle.events.proofs.reading.read_reading.Goals.{In_ok-room, In_ok-word, In_ok-figure}

behind_room : (f : Figure → Form Event) (c : In_ok-room) → line_says (number f) c.args.cursor ≡ line_says (f (figure_of c.in_ok-room.room)) c.number.new.self
behind_room f c = on_number f c.args.cursor c.number.new.self _ c.in_ok-room.ensures.value c.number.ensures.after

behind_word : (f : Form Event) (c : In_ok-word) → line_says (word (codes " ") f) c.number.new.self ≡ line_says f c.word.new.self
behind_word f c = on_word _ f c.number.new.self c.word.new.self _ c.in_ok-word.ensures.value c.word.ensures.after

behind_figure : (f : Figure → Form Event) (c : In_ok-figure) → line_says (number f) c.word.new.self ≡ line_says (f (figure_of c.in_ok-figure.figure)) c.number-2.new.self
behind_figure f c = on_number f c.word.new.self c.number-2.new.self _ c.in_ok-figure.ensures.value c.number-2.ensures.after

pub returns-in_err-room : goal.returns-in_err-room
returns-in_err-room c = refused _ c.from_residual.ensures.1 (off_number _ c.args.cursor _ c.in_err-room.ensures.value)

pub returns-in_err-word : goal.returns-in_err-word
returns-in_err-word c =
    let at = goal.at.returns-in_err-word c in
    refused _ c.from_residual-in_err-word.ensures.1 (behind_room _ at.In_ok-room ∙ off_word _ _ c.number.new.self _ c.in_err-word.ensures.value)

pub returns-in_err-figure : goal.returns-in_err-figure
returns-in_err-figure c =
    let at = goal.at.returns-in_err-figure c in
    refused _ c.from_residual-in_err-figure.ensures.1 (behind_room _ at.In_ok-room ∙ behind_word _ at.In_ok-word ∙ off_number _ c.word.new.self _ c.in_err-figure.ensures.value)

pub returns-in_err-word-2 : goal.returns-in_err-word-2
returns-in_err-word-2 c =
    let at = goal.at.returns-in_err-word-2 c in
    refused _ c.from_residual-in_err-word-2.ensures.1
    (behind_room _ at.In_ok-room ∙ behind_word _ at.In_ok-word ∙ behind_figure _ at.In_ok-figure ∙ off_word _ _ c.number-2.new.self _ c.in_err-word-2.ensures.value)

pub returns : goal.returns
returns c =
    let at = goal.at.returns c in
    c.at_end.ensures
    ∙ ended _ c.word-2.new.self
    ∙ ap (λ (e : Event). line_says (done e) c.word-2.new.self) c.reading.ensures
    ∙ sym (behind_room _ at.In_ok-room ∙ behind_word _ at.In_ok-word ∙ behind_figure _ at.In_ok-figure ∙ on_word _ _ c.number-2.new.self c.word-2.new.self _ c.in_ok-word-2.ensures.value c.word-2.ensures.after)
