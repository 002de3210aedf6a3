use Rattle.std.proofs.Common.{sym, subst}
use Rattle.heat_account.specs.Kept.{Holds}
use Rattle.heat_account.proofs.KeptLaws.{holds_first}
use Rattle.heat_account.proofs.Carrying.{goes_first}
use Rattle.heat_account.proofs.Account.open.Goals as goal

pub invariant_of-result : goal.invariant_of-result
invariant_of-result g c = let e = c.of-tables.ensures in subst (Holds c.args.house) (sym e.value) (holds_first c.args.house e.lawful)

pub returns-clause-ledger : goal.returns-clause-ledger
returns-clause-ledger g c =
    let e = c.of-tables.ensures in
    goes_first (g.R.Sharing.shares c.args.rule) (g.met.R.Sharing.fair c.args.rule) c.args.house e.lawful _ e.value
