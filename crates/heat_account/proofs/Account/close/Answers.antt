use Rattle.std.proofs.Common.{◌+◌}
use Rattle.std.proofs.lemmas.Result.{err_from_is_err_and}
use Rattle.fault.specs.declared.place.Place.TheVariants.{Nowhere}
use Rattle.heat_account.specs.declared.call.Call.TheVariants.{Close}
use Rattle.heat_account.specs.Judged.{judged, told}
use Rattle.heat_account.proofs.Carrying.{refused_alike}
use Rattle.heat_account.proofs.Account.close.Goals as goal

pub returns-in_err-periods-clause-value : goal.returns-in_err-periods-clause-value
returns-in_err-periods-clause-value g c =
    let a = c.args.self.now in
    let call = Close c.args.total c.args.common in
    let p = err_from_is_err_and c.from_residual.result c.from_residual.ensures.1 in
    rw (p.1, p.2) (refused_alike (judged a.house a.state call) Nowhere (told a.house a.state call) (λ _. a.state.closed + 1) c.in_err-periods.field-0.0 c.in_err-periods.ensures.value)
