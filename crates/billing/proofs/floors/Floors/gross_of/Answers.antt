use Rattle.std.proofs.Common.{ℕ, rules}
use Rattle.std.specs.List.{zip}
use Rattle.std.proofs.lemmas.Iterator.{YieldsList-from_slice, YieldsList-from_zip, YieldsList-from_map}
use Rattle.std.proofs.lemmas.Iterator.Adapters.{serves_from_places}
use Rattle.billing.specs.declared.counting.CountedRoom.{CountedRoom}
use Rattle.billing.specs.Claims.{gross_by, Among}
use Rattle.billing.proofs.Collected.{collected_beside, at_place, all_first}
use Rattle.billing.proofs.floors.Floors.gross_of.Goals as goal

pub collect-requires : goal.collect-requires
collect-requires c =
    let rooms = c.args.rooms.now in
    let shares = c.args.shares.now in
    let within = Among c.args.self in (
      search rules,
      (
        (
          (tt, tt),
          serves_from_places (YieldsList-from_zip (YieldsList-from_slice rooms cc) (YieldsList-from_slice shares cc)) (λ x q h. search rules)
              (λ x k h is. let among = at_place (λ (p : CountedRoom × ℕ). within p.0) (zip rooms shares) (all_first within rooms shares c.requires.among) (x.0.now, x.1.now) k h is in search rules),
        ),
        (tt, search rules),
      ),
    )

pub returns : goal.returns
returns c =
    let gross = gross_by c.args.self in
    let rooms = c.args.rooms.now in
    let shares = c.args.shares.now in
    collected_beside gross rooms shares c.requires.same _ c.collect.ensures.ran
    (YieldsList-from_map _ (λ (p : CountedRoom × ℕ). gross p.0 p.1) (YieldsList-from_zip (YieldsList-from_slice rooms cc) (YieldsList-from_slice shares cc)) c.map.ensures.closure (λ x r q k. search rules))
