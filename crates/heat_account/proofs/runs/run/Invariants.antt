use Rattle.std.proofs.Common.{◌≡◌, take}
use Rattle.heat_account.specs.Ledger.{Stands}
use Rattle.heat_account.specs.Carried.{overlaid}
use Rattle.heat_account.proofs.RunLaws.{answered}
use Rattle.heat_account.proofs.runs.run.Given as goal

abbrev pub invariant-loop-i : goal.invariant-loop-i
invariant-loop-i g l =
    let shares = g.R.Sharing.shares l.fn.rule in
    record {
      house : l.account.house ≡ l.fn.house;
      rule : l.account.rule ≡ l.fn.rule;
      stands : Stands shares l.fn.house l.account.state (take l.i l.calls);
      answers : l.answers ≡ overlaid (answered shares l.fn.house (take l.i l.calls)) l.initial.answers;
    }
