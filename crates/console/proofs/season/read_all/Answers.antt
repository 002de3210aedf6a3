use Rattle.console.proofs.Streams.{front_read}
use Rattle.console.proofs.season.read_all.Goals as goal

pub returns : goal.returns
returns g c =
    front_read g.R.Read.remaining c.take.result c.args.reader 65537 c.new-input.result.items c.read_to_end.new.buf.items c.take.ensures.limit c.take.ensures.inner c.new-input.ensures.items c.in_ok-read_to_end.ensures.bytes
