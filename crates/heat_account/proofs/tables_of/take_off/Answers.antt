use Rattle.std.proofs.Common.{◌-◌, rules}
use Rattle.billing.specs.Period.{figures}
use Rattle.heat_account.proofs.Makings.{both_at, made_as, made_beside}
use Rattle.heat_account.proofs.tables_of.take_off.Goals as goal

pub zip_with-requires : goal.zip_with-requires
zip_with-requires c = (search rules, (both_at _ 0 (0, 0) _ _ c.requires.long (λ k h. let within = c.requires.covered k in search rules), c.requires.few))

pub returns : goal.returns
returns c = made_beside ◌-◌ figures _ _ _ c.requires.long (made_as _ _ _ _ _ (λ x y z h. search rules) c.zip_with.ensures)
