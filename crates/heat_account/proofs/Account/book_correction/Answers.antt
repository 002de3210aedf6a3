use Rattle.std.proofs.Common.{Some, sym, refl, subst, length-set}
use Rattle.heat_account.specs.State.{reread}
use Rattle.heat_account.specs.Kept.{Holds}
use Rattle.heat_account.specs.Tables.{state_of}
use Rattle.heat_account.proofs.KeptLaws.{holds_amend}
use Rattle.heat_account.proofs.Account.book_correction.Goals as goal

pub invariant_of-self : goal.invariant_of-self
invariant_of-self g c =
    let plan = c.self.inside.house in
    let s = state_of c.self.inside.tables in
    let w = c.corrected_bills-bills.ensures in
    let long = rw (← c.self.view_is) at w.long in
    subst (Holds plan) (sym c.amend.ensures) (holds_amend plan s c.self.invariant (reread s.last c.args.place c.args.reading) c.corrected_bills-bills.result long w.small (length-set s.last.readings c.args.place (Some c.args.reading)) refl refl)
