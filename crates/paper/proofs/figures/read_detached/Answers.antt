use Rattle.std.proofs.Common.{◌≡◌, sym, ap, ◌∙◌}
use Rattle.forms.specs.Form.{Form, number}
use Rattle.forms.specs.Place.{Mark, Spot, mark_of, figure_of, mark, line_says}
use Rattle.forms.proofs.Walks.{on_word, off_word, on_number, off_number, mark_behind, left_line}
use Rattle.paper_text.specs.Text.{detached_word, blank}
use Rattle.paper.specs.Items.{mapped}
use Rattle.paper.specs.Lines.{figure_form, detached_form}
use Rattle.paper.proofs.Tails.{mapped_exit, figure_says}
use Rattle.paper.proofs.figures.read_detached.Goals as goal
use Rattle.paper.proofs.figures.read_detached.Goals.{In_ok-word, In_ok-area}

abbrev form : Spot → Form (Mark × Mark)
form s = detached_form (λ a t. (mark s.line a, mark s.line t))

behind_word : (c : In_ok-word) → line_says (form c.args.cursor) c.args.cursor ≡ line_says (number (λ a. figure_form blank (λ t. (mark c.args.cursor.line a, mark c.args.cursor.line t)))) c.word.new.self
behind_word c = on_word _ _ c.args.cursor c.word.new.self _ c.in_ok-word.ensures.value c.word.ensures.after

behind_area : (c : In_ok-area) → line_says (form c.args.cursor) c.args.cursor ≡ mapped {Y = Mark × Mark} (λ t. (mark_of c.in_ok-area.area, t)) (line_says (figure_form blank (mark c.number.new.self.line)) c.number.new.self)
behind_area c =
    let s = c.args.cursor in
    let there : s.line ≡ c.number.new.self.line = sym (ap (λ (v : Spot). v.line) c.number.ensures.after ∙ ap (λ (v : Spot). v.line) c.word.ensures.after ∙ left_line s detached_word) in
    let area : mark s.line (figure_of c.in_ok-area.area) ≡ mark_of c.in_ok-area.area = sym (mark_behind detached_word s c.word.new.self _ c.word.ensures.after c.in_ok-area.ensures.value) in
    behind_word (goal.at.In_ok-area c).In_ok-word
    ∙ on_number _ c.word.new.self c.number.new.self _ c.in_ok-area.ensures.value c.number.ensures.after
    ∙ (λ i. line_says (figure_form blank (λ t. (area i, mark (there i) t))) c.number.new.self)
    ∙ sym (figure_says _ c.number.new.self (mark c.number.new.self.line) blank)

pub returns-in_err-word : goal.returns-in_err-word
returns-in_err-word c = mapped_exit _ _ _ c.from_residual.ensures.1 ∙ sym (off_word _ _ c.args.cursor _ c.in_err-word.ensures.value)

pub returns-in_err-area : goal.returns-in_err-area
returns-in_err-area c =
    mapped_exit _ _ _ c.from_residual-in_err-area.ensures.1 ∙ sym (behind_word (goal.at.returns-in_err-area c).In_ok-word ∙ off_number _ c.word.new.self _ c.in_err-area.ensures.value)

pub returns-in_err-pipe : goal.returns-in_err-pipe
returns-in_err-pipe c =
    mapped_exit _ _ _ c.from_residual-in_err-pipe.ensures.1 ∙ sym (behind_area (goal.at.returns-in_err-pipe c).In_ok-area ∙ sym (ap (mapped _) c.in_err-pipe.ensures))

pub returns : goal.returns
returns c = sym (behind_area (goal.at.returns c).In_ok-area ∙ sym (ap (mapped _) c.in_ok-pipe.ensures))
