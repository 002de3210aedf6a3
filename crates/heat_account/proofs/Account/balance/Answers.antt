use Rattle.std.proofs.Common.{◌≡◌, get_or, rules, ap, ◌∙◌}
use Rattle.heat_account.specs.declared.answer.Answer.TheVariants.{Balanced}
use Rattle.heat_account.specs.declared.call.Call.TheVariants.{Balance}
use Rattle.heat_account.specs.Judged.{judged, result_of}
use Rattle.heat_account.specs.Carried.{answer_of}
use Rattle.heat_account.proofs.Carrying.{carries, by_mapped, by_kept}
use Rattle.heat_account.proofs.Account.balance.Goals as goal

pub returns-clause-ledger : goal.returns-clause-ledger
returns-clause-ledger g c =
    let a = c.args.self.now in
    let s = a.state in
    let call = Balance c.args.room in
    let value : c.map_err.result ≡ result_of a.house s call (λ place. get_or s.balances place 0) = search rules in
    carries (g.R.Sharing.shares a.rule) (g.met.R.Sharing.fair a.rule) a.house c.look_up_balance.ensures.held.lawful s s call _ (ap (answer_of Balanced) value ∙ by_mapped (answer_of Balanced) (judged a.house s call) _ _) (by_kept (judged a.house s call) s)
