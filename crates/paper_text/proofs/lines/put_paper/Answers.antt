use Rattle.std.proofs.Common.{rules}
use Rattle.paper_text.proofs.Puts.{then, len_all, bytes_all}
use Rattle.paper_text.proofs.Short.{paper_short}
use Rattle.paper_text.proofs.lines.put_paper.Goals as goal

pub returns : goal.returns
returns c =
    let few = paper_short _ _ _ c.requires in
    let p = then c.put_house_line.ensures c.put_rooms.ensures in
    let len = len_all _ c.new-page.ensures.empty few p in
    let bytes = bytes_all _ c.new-page.ensures.empty few p in
    search rules
