use Rattle.std.proofs.Common.{◌≡◌, sym, ap, ◌∙◌}
use Rattle.std.specs.Result.{result_ok}
use Rattle.forms.specs.Place.{Spot}
use Rattle.events.specs.Events.{said, event_form}
use Rattle.events.proofs.Chosen.{ok_said, tried_found, tried_missed, read_apart, close_apart, correct_apart}
use Rattle.events.proofs.reading.read_event.Goals as goal
use Rattle.events.proofs.reading.read_event.Goals.{then-is_ok, else-is_ok+then-is_ok-2, else-is_ok+else-is_ok-2+then-is_ok-3, else-is_ok+else-is_ok-2+else-is_ok-3}

pub returns : goal.returns
returns c =
    let at = c.new-cursor.result in
    let one = c.word.new.self in
    let event : result_ok (said event_form at) ≡ result_ok c.if-is_ok.event = elim c.if-is_ok.branch [
      | then-is_ok w ↦
          tried_found _ _ _ at one c.word.result c.word.ensures.value c.word.ensures.after read_apart (sym c.is_ok.ensures.value ∙ w.if-is_ok.true)
          ∙ ok_said _ _ _ (w.read_reading-event.ensures) ∙ ap result_ok (sym w.event-is)
      | else-is_ok+then-is_ok-2 w ↦
          let two = w.word-else-is_ok.new.self in
          tried_missed _ _ _ at one c.word.result c.word.ensures.value c.word.ensures.after (sym c.is_ok.ensures.value ∙ w.if-is_ok.false)
          ∙ tried_found _ _ _ one two w.word-else-is_ok.result w.word-else-is_ok.ensures.value w.word-else-is_ok.ensures.after close_apart (sym w.is_ok-else-is_ok.ensures.value ∙ w.if-is_ok-2.true)
          ∙ ok_said _ _ _ (w.read_closing.ensures) ∙ ap result_ok (sym w.event-is)
      | else-is_ok+else-is_ok-2+then-is_ok-3 w ↦
          let two = w.word-else-is_ok.new.self in
          let three = w.word-else-is_ok-2.new.self in
          tried_missed _ _ _ at one c.word.result c.word.ensures.value c.word.ensures.after (sym c.is_ok.ensures.value ∙ w.if-is_ok.false)
          ∙ tried_missed _ _ _ one two w.word-else-is_ok.result w.word-else-is_ok.ensures.value w.word-else-is_ok.ensures.after (sym w.is_ok-else-is_ok.ensures.value ∙ w.if-is_ok-2.false)
          ∙ tried_found _ _ _ two three w.word-else-is_ok-2.result w.word-else-is_ok-2.ensures.value w.word-else-is_ok-2.ensures.after correct_apart (sym w.is_ok-else-is_ok-2.ensures.value ∙ w.if-is_ok-3.true)
          ∙ ok_said _ _ _ (w.read_correction.ensures) ∙ ap result_ok (sym w.event-is)
      | else-is_ok+else-is_ok-2+else-is_ok-3 w ↦
          let two = w.word-else-is_ok.new.self in
          let three = w.word-else-is_ok-2.new.self in
          tried_missed _ _ _ at one c.word.result c.word.ensures.value c.word.ensures.after (sym c.is_ok.ensures.value ∙ w.if-is_ok.false)
          ∙ tried_missed _ _ _ one two w.word-else-is_ok.result w.word-else-is_ok.ensures.value w.word-else-is_ok.ensures.after (sym w.is_ok-else-is_ok.ensures.value ∙ w.if-is_ok-2.false)
          ∙ tried_missed _ _ _ two three w.word-else-is_ok-2.result w.word-else-is_ok-2.ensures.value w.word-else-is_ok-2.ensures.after (sym w.is_ok-else-is_ok-2.ensures.value ∙ w.if-is_ok-3.false)
          ∙ ok_said _ _ _ (w.read_balance.ensures) ∙ ap result_ok (sym w.event-is)
    ] in
    c.ok.ensures.value ∙ sym event ∙ ap (λ (s : Spot). result_ok (said event_form s)) c.new-cursor.ensures
