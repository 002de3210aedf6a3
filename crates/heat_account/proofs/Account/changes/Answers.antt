use Rattle.heat_account.proofs.ChangeLaws.{moves, evens}
use Rattle.heat_account.proofs.Account.changes.Goals as goal

pub returns-clause-moves : goal.returns-clause-moves
returns-clause-moves g c =
    let a = c.args.self.now in
    moves (g.R.Sharing.shares a.rule) (g.met.R.Sharing.fair a.rule) a.house c.work_changes.ensures.held.lawful a.state c.work_changes.ensures.held

pub returns-clause-evens : goal.returns-clause-evens
returns-clause-evens g c =
    let a = c.args.self.now in
    evens (g.R.Sharing.shares a.rule) (g.met.R.Sharing.fair a.rule) a.house c.work_changes.ensures.held.lawful a.state
