use Rattle.std.proofs.Common.{ap, arith}
use Rattle.billing.specs.declared.sums.Sums.{Sums}
use Rattle.billing.proofs.Claimants.{floored}
use Rattle.billing.proofs.stated.Stated.floors.Goals as goal

pub of-requires : goal.of-requires
of-requires c =
    let s = c.args.self.now in
    record {
      readings = omega (arith, ap (λ (v : Sums). v.readings) s.summed, (floored s).read);
      area = omega (arith, ap (λ (v : Sums). v.read_area) s.summed, (floored s).area);
    }
