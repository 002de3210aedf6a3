use Rattle.paper_text.proofs.Puts.{then}
use Rattle.paper_text.proofs.lines.put_detached.Goals as goal

pub returns : goal.returns
returns c = then c.put.ensures (then c.put_number.ensures c.put_framed.ensures)
