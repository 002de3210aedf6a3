use Rattle.std.proofs.Common.{arith}
use Rattle.std.proofs.lemmas.Grind.{common_steps}
use Rattle.sharing.specs.RemainderLaws.{floors_front, floor_fits}
use Rattle.sharing.proofs.remainders.write_rests.Goals as goal

pub overflow_sub-left : goal.overflow_sub-left
overflow_sub-left c = grind (arith, floor_fits)

pub loop-i-preserved : goal.loop-i-preserved
loop-i-preserved c = record {
  left = grind (arith, floors_front, floor_fits);
  written = grind (arith, common_steps);
}
