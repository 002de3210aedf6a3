use Rattle.std.proofs.Common.{◌+◌, ◌≤◌, length}
use Rattle.std.specs.Iterator.Adapters.{zip_first, zip_second}
use Rattle.std.specs.Slice.Iter.{iter_rest}
use Rattle.billing.specs.Pots.{Both}
use Rattle.heat_account.proofs.Makings.{Making}
use Rattle.heat_account.proofs.pairing.zip_with.Given as goal

abbrev pub invariant-loop-x : goal.invariant-loop-x
invariant-loop-x g l =
    let rest-xs = iter_rest (zip_first l.x-iterator) in
    let rest-ys = iter_rest (zip_second l.x-iterator) in
    record {
      callable : Both (λ x y. goal.F-pre g l.f x y) rest-xs rest-ys;
      few : length l.made + length rest-xs ≤ 256;
      making : Making (λ x y z. goal.F-post g l.f x y z) l.xs l.ys l.made rest-xs rest-ys;
    }
