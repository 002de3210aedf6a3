use Rattle.std.proofs.Common.{set, ap, ◌∙◌}
use Rattle.tables.proofs.Facts.{front_set}
use Rattle.tables.proofs.Table.set.Goals as goal

pub returns-then-i-self-clause-after : goal.returns-then-i-self-clause-after
returns-then-i-self-clause-after g c =
    front_set c.self.inside.count c.self.inside.items c.args.i c.args.x ∙ ap (λ xs. set xs c.args.i c.args.x) c.self.view_is
