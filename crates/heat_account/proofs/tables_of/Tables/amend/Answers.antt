use Rattle.std.proofs.Common.{◌-◌, map, length, get_or, sym, ap, ◌∙◌, arith}
use Rattle.billing.specs.Period.{figures}
use Rattle.billing.proofs.Beside.{beside_length}
use Rattle.heat_account.proofs.Entries.{unbilled_at}
use Rattle.heat_account.proofs.tables_of.Tables.amend.Goals as goal

pub put_on-self-requires-clause-long : goal.put_on-self-requires-clause-long
put_on-self-requires-clause-long c =
    let before = c.as_slice.result.now in
    let old = c.as_slice-2.result.now in
    ap length c.as_slice-4.ensures.value ∙ c.requires.long ∙ sym (ap length (c.as_slice-3.ensures.value ∙ c.take_off-before.ensures) ∙ beside_length ◌-◌ before (map figures old) ∙ ap length c.as_slice.ensures.value)

pub put_on-self-requires-clause-room : goal.put_on-self-requires-clause-room
put_on-self-requires-clause-room c = λ k.
    let before = c.as_slice.result.now in
    let old = c.as_slice-2.result.now in
    omega (arith, ap (λ v. get_or v k 0) (c.as_slice-3.ensures.value ∙ c.take_off-before.ensures), ap (λ v. get_or v k 0) c.as_slice.ensures.value, unbilled_at before old k, c.requires.room k)
