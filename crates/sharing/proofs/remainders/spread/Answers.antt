use Rattle.std.proofs.Common.{◌<◌, sum, arith}
use Rattle.std.proofs.lemmas.Grind.{common_steps}
use Rattle.sharing.specs.RemainderLaws.{takers, bounded, shared_dealt}
use Rattle.sharing.proofs.remainders.spread.Goals as goal

pub find_cutoff-cutoff-requires : goal.find_cutoff-cutoff-requires
find_cutoff-cutoff-requires c =
    let t = c.args.pot.now.total in
    let ws = c.args.pot.now.weights.now in
    let weighed : 0 < t → 0 < sum ws = λ h. grind arith in
    record {
      few = grind arith;
      takers = grind (arith, takers t ws weighed);
      bound = grind (arith, bounded t ws weighed);
    }

pub returns : goal.returns
returns c = grind (arith, common_steps, shared_dealt)
