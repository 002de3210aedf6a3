use Rattle.std.proofs.Common.{◌≡◌, ℕ, List, Ok, sym, ap, ◌∙◌}
use Rattle.forms.specs.Form.{Form, word, number, done}
use Rattle.forms.specs.Place.{Mark, Spot, figure_of, mark, line_says}
use Rattle.forms.proofs.Walks.{on_word, off_word, on_number, off_number, on_end, off_end, mark_behind}
use Rattle.paper_text.specs.Text.{closing}
use Rattle.paper.specs.Lines.{figure_form}
use Rattle.paper.proofs.Tails.{seen_exit}
use Rattle.paper.proofs.figures.read_figure.Goals as goal
use Rattle.paper.proofs.figures.read_figure.Goals.{In_ok-word, In_ok-figure, In_ok-word-2}

abbrev form : List ℕ → Spot → Form Mark
form w s = figure_form w (mark s.line)

behind_word : (c : In_ok-word) → line_says (form c.args.word.now c.args.cursor) c.args.cursor ≡ line_says (number (λ x. word closing (done (mark c.args.cursor.line x)))) c.word.new.self
behind_word c = on_word _ _ c.args.cursor c.word.new.self _ c.in_ok-word.ensures.value c.word.ensures.after

behind_figure : (c : In_ok-figure) → line_says (form c.args.word.now c.args.cursor) c.args.cursor ≡ line_says (word closing (done (mark c.args.cursor.line (figure_of c.in_ok-figure.figure)))) c.number.new.self
behind_figure c =
    behind_word (goal.at.In_ok-figure c).In_ok-word ∙ on_number _ c.word.new.self c.number.new.self _ c.in_ok-figure.ensures.value c.number.ensures.after

behind_closing : (c : In_ok-word-2) → line_says (form c.args.word.now c.args.cursor) c.args.cursor ≡ line_says (done (mark c.args.cursor.line (figure_of c.in_ok-figure.figure))) c.word-2.new.self
behind_closing c =
    behind_figure (goal.at.In_ok-word-2 c).In_ok-figure ∙ on_word _ _ c.number.new.self c.word-2.new.self _ c.in_ok-word-2.ensures.value c.word-2.ensures.after

pub returns-in_err-word : goal.returns-in_err-word
returns-in_err-word c = seen_exit _ _ c.from_residual.ensures.1 ∙ sym (off_word _ _ c.args.cursor _ c.in_err-word.ensures.value)

pub returns-in_err-figure : goal.returns-in_err-figure
returns-in_err-figure c =
    seen_exit _ _ c.from_residual-in_err-figure.ensures.1 ∙ sym (behind_word (goal.at.returns-in_err-figure c).In_ok-word ∙ off_number _ c.word.new.self _ c.in_err-figure.ensures.value)

pub returns-in_err-word-2 : goal.returns-in_err-word-2
returns-in_err-word-2 c =
    seen_exit _ _ c.from_residual-in_err-word-2.ensures.1 ∙ sym (behind_figure (goal.at.returns-in_err-word-2 c).In_ok-figure ∙ off_word _ _ c.number.new.self _ c.in_err-word-2.ensures.value)

pub returns-in_err-end : goal.returns-in_err-end
returns-in_err-end c =
    seen_exit _ _ c.from_residual-in_err-end.ensures.1 ∙ sym (behind_closing (goal.at.returns-in_err-end c).In_ok-word-2 ∙ off_end _ c.word-2.new.self _ c.in_err-end.ensures)

pub returns : goal.returns
returns c =
    ap Ok (mark_behind c.args.word.now c.args.cursor c.word.new.self _ c.word.ensures.after c.in_ok-figure.ensures.value)
    ∙ sym (behind_closing (goal.at.returns c).In_ok-word-2 ∙ on_end _ c.word-2.new.self c.in_ok-end.ensures)
