use Rattle.std.proofs.lemmas.Result.{err_from_is_err_and}
use Rattle.fault.specs.declared.place.Place.TheVariants.{Room}
use Rattle.heat_account.specs.declared.call.Call.TheVariants.{Read}
use Rattle.heat_account.specs.Judged.{judged, told}
use Rattle.heat_account.proofs.Carrying.{refused_alike}
use Rattle.heat_account.proofs.Account.read.Goals as goal

pub returns-in_err-perform-clause-value : goal.returns-in_err-perform-clause-value
returns-in_err-perform-clause-value g c =
    let a = c.args.self.now in
    let call = Read c.args.room c.args.reading in
    let p = err_from_is_err_and c.from_residual.result c.from_residual.ensures.1 in
    rw (p.1, p.2) (refused_alike (judged a.house a.state call) (Room c.args.room) (told a.house a.state call) (λ _. tt {0}) c.in_err-perform.field-0.0 c.in_err-perform.ensures.value)
