use Rattle.std.proofs.Common.{◌≡◌, ◌≤◌, length}
use Rattle.billing.proofs.collecting.fill.Given as goal

abbrev pub invariant-loop-item : goal.invariant-loop-item
invariant-loop-item g l = (l.all ≡ l.yielded) × (length l.yielded ≤ 256)
