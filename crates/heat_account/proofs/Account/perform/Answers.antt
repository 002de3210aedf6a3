use Rattle.std.proofs.Common.{◌≡◌, rules, ap}
use Rattle.heat_account.specs.Judged.{answer}
use Rattle.heat_account.proofs.Carrying.{carries}
use Rattle.heat_account.proofs.Account.perform.Goals as goal

pub returns-clause-ledger : goal.returns-clause-ledger
returns-clause-ledger g c =
    let a = c.args.self.now in
    let value : c.map_err.result ≡ answer a.house a.state c.args.call = search rules in
    carries (g.R.Sharing.shares a.rule) (g.met.R.Sharing.fair a.rule) a.house c.act.ensures.held.lawful a.state _ c.args.call _ value (ap (λ v. v.state) c.act.ensures.after)
