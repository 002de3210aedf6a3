use Rattle.std.proofs.Common.{rules}
use Rattle.heat_account.proofs.ChangeLaws.{made_changes}
use Rattle.heat_account.proofs.Makings.{both_at, made_as}
use Rattle.heat_account.proofs.changing.change_each.Goals as goal

pub zip_with-requires : goal.zip_with-requires
zip_with-requires c = (search rules, (both_at _ (0, 0) (0, 0) _ _ c.requires.long (λ k h. search rules), c.requires.few))

pub returns : goal.returns
returns c = made_changes _ _ _ c.requires.long (made_as _ _ _ _ _ (λ x y z h. search rules) c.zip_with.ensures)
