use Rattle.std.proofs.Common.{◌≡◌, ◌+◌, true, drop}
use Rattle.input.specs.Parts.{before_blank}
use Rattle.input.proofs.before_blank.Given as goal

abbrev pub invariant-loop-i : goal.invariant-loop-i
invariant-loop-i l = l.i + before_blank l.begins (drop l.i l.input) ≡ before_blank true l.input
