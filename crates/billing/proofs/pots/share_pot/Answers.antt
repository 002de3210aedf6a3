use Rattle.std.proofs.Common.{length, replicate, sym, refl, ap, ◌∙◌}
use Rattle.billing.proofs.Shared.{given_back}
use Rattle.billing.proofs.pots.share_pot.Goals as goal

pub returns : goal.returns
returns g c =
    let weighed = c.as_slice.ensures.value ∙ c.gather.ensures in
    let count = c.len.ensures.value ∙ sym (ap length c.as_slice.ensures.value) in
    c.put_back.ensures
    ∙ given_back (g.R.Sharing.shares c.args.rule.now) (g.met.R.Sharing.fair c.args.rule.now) c.args.pot c.args.claims.now c.requires c.as_slice.result.now (replicate 256 0) c.share.new.place c.len.result weighed count refl c.share.ensures.after
