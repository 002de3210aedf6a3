use Rattle.std.proofs.Common.{◌-◌, ◌≤◌}
use Rattle.sharing.specs.Cutoff.{above, at_least}
use Rattle.sharing.proofs.remainders.find_cutoff.Given as goal

abbrev pub invariant-loop-low : goal.invariant-loop-low
invariant-loop-low l = (above l.high l.rests ≤ l.left) × (l.left ≤ at_least l.low l.rests) × (l.low ≤ l.high) × (l.high ≤ l.most)

abbrev pub decreases-loop-low : goal.decreases-loop-low
decreases-loop-low l = l.high - l.low
