use Rattle.std.proofs.Common.{◌≡◌, codes, sym, ap, ◌∙◌, arith}
use Rattle.forms.specs.Form.{word, done}
use Rattle.forms.specs.Place.{figure_of, line_says}
use Rattle.forms.proofs.Walks.{off_word, off_number, on_word, on_number}
use Rattle.events.specs.declared.event.Event.{Event}
use Rattle.events.specs.declared.event.Event.TheVariants.{Close}
use Rattle.events.specs.Events.{common_of, closing_form}
use Rattle.events.proofs.Steps.{second_found, second_missed, ended, refused}
use Rattle.events.proofs.reading.read_closing.Goals as goal
use Rattle.events.proofs.reading.read_closing.Goals.{Joined-is_ok, then-is_ok+in_ok-number, else-is_ok}

-- with or without the common figure
behind_common : (c : Joined-is_ok) → line_says closing_form c.args.cursor ≡ line_says (word (codes ")") (done (Close (figure_of c.in_ok-total.total).value (common_of c.if-is_ok.common)))) c.if-is_ok.cursor
behind_common c =
    on_number _ c.args.cursor c.number.new.self _ c.in_ok-total.ensures.value c.number.ensures.after
    ∙ elim c.if-is_ok.branch [
      | then-is_ok+in_ok-number w ↦
          second_found 41 32 _ _ c.number.new.self c.word.new.self c.word.result c.word.ensures.value c.word.ensures.after (λ e. omega (arith, e)) (sym c.is_ok.ensures.value ∙ w.if-is_ok.true)
          ∙ on_number _ c.word.new.self w.number-then-is_ok.new.self _ w.in_ok-number.ensures.value w.number-then-is_ok.ensures.after
          ∙ sym (λ i. line_says (word (codes ")") (done (Close (figure_of c.in_ok-total.total).value (common_of (w.common-is i))))) (w.cursor-is i))
      | else-is_ok w ↦
          second_missed 41 32 _ _ c.number.new.self c.word.new.self c.word.result c.word.ensures.value c.word.ensures.after (sym c.is_ok.ensures.value ∙ w.if-is_ok.false)
          ∙ sym (λ i. line_says (word (codes ")") (done (Close (figure_of c.in_ok-total.total).value (common_of (w.common-is i))))) (w.cursor-is i))
    ]

pub returns-in_err-total : goal.returns-in_err-total
returns-in_err-total c = refused _ c.from_residual.ensures.1 (off_number _ c.args.cursor _ c.in_err-total.ensures.value)

pub returns-in_err-number : goal.returns-in_err-number
returns-in_err-number c =
    refused _ c.from_residual-in_err-number.ensures.1
    (on_number _ c.args.cursor c.number.new.self _ c.in_ok-total.ensures.value c.number.ensures.after
    ∙ second_found 41 32 _ _ c.number.new.self c.word.new.self c.word.result c.word.ensures.value c.word.ensures.after (λ e. omega (arith, e)) (sym c.is_ok.ensures.value ∙ c.if-is_ok.true)
    ∙ off_number _ c.word.new.self _ c.in_err-number.ensures.value)

pub returns-in_err-word : goal.returns-in_err-word
returns-in_err-word c =
    refused _ c.from_residual-in_err-word.ensures.1 (behind_common (goal.at.returns-in_err-word c).Joined-is_ok ∙ off_word _ _ c.if-is_ok.cursor _ c.in_err-word.ensures.value)

pub returns : goal.returns
returns c =
    c.at_end.ensures
    ∙ ended _ c.word-2.new.self
    ∙ ap (λ (e : Event). line_says (done e) c.word-2.new.self) c.closing.ensures
    ∙ sym (behind_common (goal.at.returns c).Joined-is_ok ∙ on_word _ _ c.if-is_ok.cursor c.word-2.new.self _ c.in_ok-word.ensures.value c.word-2.ensures.after)
