use Rattle.std.proofs.Common.{◌≡◌, ◌++◌, length, drop}
use Rattle.std.specs.Slice.Iter.{iter_rest}
use Rattle.billing.specs.Pots.{put_back}
use Rattle.billing.proofs.pots.put_back.Given as goal

-- what is written and what is still to come make up the whole
abbrev pub invariant-loop-claim : goal.invariant-loop-claim
invariant-loop-claim l =
    (l.all ++ put_back (drop l.claim-index l.claims) (iter_rest l.left) ≡ put_back l.claims l.shares)
    × (length l.all ≡ l.claim-index)
