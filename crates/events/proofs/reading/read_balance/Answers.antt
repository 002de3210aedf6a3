use Rattle.std.proofs.Common.{sym, ◌∙◌}
use Rattle.forms.proofs.Walks.{off_word, on_word}
use Rattle.events.proofs.Steps.{ended, refused}
use Rattle.events.proofs.reading.read_balance.Goals as goal

pub returns-in_err-word : goal.returns-in_err-word
returns-in_err-word c = refused _ c.from_residual.ensures.1 (off_word _ _ c.args.cursor _ c.in_err-word.ensures.value)

pub returns : goal.returns
returns c = c.at_end.ensures ∙ ended _ c.word.new.self ∙ sym (on_word _ _ c.args.cursor c.word.new.self _ c.in_ok-word.ensures.value c.word.ensures.after)
