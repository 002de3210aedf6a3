use Rattle.std.proofs.Common.{◌≡◌, ◌*◌, ◌/◌, ◌++◌, take, drop, sum}
use Rattle.sharing.specs.Running.{running, running_from}
use Rattle.sharing.proofs.running.spread.Given as goal

-- what is written and what is still to come make up the whole
abbrev pub invariant-loop-i : goal.invariant-loop-i
invariant-loop-i l = record {
  passed : l.run.passed ≡ sum (take l.i l.pot.weights.now);
  fallen : l.run.fallen ≡ l.pot.total * l.run.passed / sum l.pot.weights.now;
  written : take l.i l.place ++ running_from l.pot.total (sum l.pot.weights.now) l.run.passed (drop l.i l.pot.weights.now) ≡ running l.pot.total l.pot.weights.now;
}
