use Rattle.std.proofs.Common.{◌-◌, ◌^◌, ◌≤◌, length, take, rules, arith, length-take}
use Rattle.std.proofs.lemmas.Iterator.{YieldsList-from_slice, YieldsList-from_take}
use Rattle.std.proofs.lemmas.Iterator.Adapters.{fits_from_length, at_most_from_yields_List}
use Rattle.printing.proofs.entries.sum_of.Goals as goal

-- fewer amounts than 2 ^ 64, each below 2 ^ 64
pub sum-requires-clause-fits : goal.sum-requires-clause-fits
sum-requires-clause-fits g c =
    let few : length (take (length c.args.rooms.now) c.args.entries.now) ≤ 2 ^ 64 - 1 = omega (arith, length-take (length c.args.rooms.now) c.args.entries.now) in
    fits_from_length _ _ (2 ^ 64 - 1) (2 ^ 128) (at_most_from_yields_List (YieldsList-from_take _ (YieldsList-from_slice c.args.entries.now cc) cc) few) c.map.ensures.closure (omega arith) (λ x r q k. search rules)
