use Rattle.std.proofs.Common.{◌≡◌, ◌+◌, take, sum}
use Rattle.sharing.specs.Remainders.{floors, rests}
use Rattle.sharing.proofs.remainders.write_rests.Given as goal

abbrev pub invariant-loop-i : goal.invariant-loop-i
invariant-loop-i l = record {
  left : l.left + sum (floors l.pot.total (sum l.pot.weights.now) (take l.i l.pot.weights.now)) ≡ l.pot.total;
  written : take l.i l.place ≡ rests l.pot.total (sum l.pot.weights.now) (take l.i l.pot.weights.now);
}
