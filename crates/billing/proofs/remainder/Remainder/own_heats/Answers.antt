use Rattle.std.proofs.Common.{ℕ, ap, ◌∙◌, length, rules}
use Rattle.std.proofs.lemmas.Iterator.{YieldsList-from_slice, YieldsList-from_zip, YieldsList-from_map}
use Rattle.billing.specs.declared.counting.CountedRoom.{CountedRoom}
use Rattle.billing.specs.declared.claims.Basis.TheVariants.{PlainArea}
use Rattle.billing.specs.Claims.{claim}
use Rattle.billing.specs.Remainder.{own_heat}
use Rattle.billing.proofs.Claimants.{plain_pot_shareable}
use Rattle.billing.proofs.PotLaws.{shares_length}
use Rattle.billing.proofs.Collected.{collected_beside}
use Rattle.billing.proofs.remainder.Remainder.own_heats.Goals as goal

pub share_by-shares-requires : goal.share_by-shares-requires
share_by-shares-requires g c = rw c.plain_pot.ensures (plain_pot_shareable c.args.self.now)

pub returns : goal.returns
returns g c =
    let rooms = c.args.self.now.rooms.now in
    let shares = c.share_by-shares.result in
    let long = ap length c.share_by-shares.ensures ∙ shares_length (g.R.Sharing.shares c.args.rule.now) c.plain_pot.result (claim PlainArea) rooms in
    rw (← c.plain_pot.ensures, ← c.share_by-shares.ensures)
    (collected_beside own_heat rooms shares long _ c.collect.ensures.ran
    (YieldsList-from_map _ (λ (p : CountedRoom × ℕ). own_heat p.0 p.1) (YieldsList-from_zip (YieldsList-from_slice rooms cc) (YieldsList-from_slice shares cc)) c.map.ensures.closure (λ x r q k. search rules)))
