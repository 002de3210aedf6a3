use Rattle.std.proofs.Common.{append_assoc}
use Rattle.paper_text.proofs.Puts.{then, put_as}
use Rattle.paper_text.proofs.lines.put_room.Goals as goal

pub returns : goal.returns
returns c = put_as (simp append_assoc) (then c.put_framed.ensures c.put_kind.ensures)
