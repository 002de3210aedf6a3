use Rattle.std.proofs.lemmas.List.{take-replicate}
use Rattle.tables.proofs.Table.with_count.Goals as goal

pub returns : goal.returns
returns g c = take-replicate c.args.count g.row.N c.args.x c.requires
