use Rattle.std.proofs.Common.{◌≡◌, ◌++◌, take, drop, sum}
use Rattle.sharing.specs.RemainderLaws.{given}
use Rattle.sharing.proofs.remainders.write_shares.Given as goal

-- what is written and what is still to come make up the whole
abbrev pub invariant-loop-i : goal.invariant-loop-i
invariant-loop-i l =
    (take l.i l.place ++ given l.pot.total (sum l.pot.weights.now) l.odd.cutoff l.odd.spare (drop l.i l.pot.weights.now)
    ≡ given l.pot.total (sum l.pot.weights.now) l.initial.odd.cutoff l.initial.odd.spare l.pot.weights.now)
