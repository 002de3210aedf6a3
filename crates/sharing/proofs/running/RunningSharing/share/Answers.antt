use Rattle.std.proofs.Common.{sym, arith}
use Rattle.std.proofs.lemmas.Grind.{common_steps}
use Rattle.sharing.specs.RunningLaws.{running_fair}
use Rattle.sharing.proofs.Answered.{placed_of_ok}
use Rattle.sharing.proofs.running.RunningSharing.share.Goals as goal

pub returns-clause-after : goal.returns-clause-after
returns-clause-after c =
    let long = running_fair.long c.args.total c.args.weights.now in
    placed_of_ok _ _ _ _ _ _ (sym c.in_ok-pot.ensures) (grind (arith, common_steps, long))
