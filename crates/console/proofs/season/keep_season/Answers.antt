use Rattle.console.proofs.Streams.{front_kept, on_ok}
use Rattle.console.proofs.season.keep_season.Goals as goal

pub returns : goal.returns
returns g c =
    on_ok c.keep_input.result _ _
    (front_kept (g.W.Write.contents c.args.writer.now) (g.W.Write.contents c.keep_input.new.writer) c.deref.result.now c.in_ok-input.input.items (g.R.Read.remaining c.args.reader) c.in_ok-input.ensures c.deref.ensures.value)
    c.keep_input.ensures
