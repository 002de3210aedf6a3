use Rattle.std.proofs.Common.{◌≡◌, ℕ, List, length, sym, ap, ◌∙◌}
use Rattle.heat_account.specs.declared.stage.Stage.{Stage}
use Rattle.heat_account.specs.State.{corrected}
use Rattle.heat_account.specs.Changes.{each_change}
use Rattle.heat_account.proofs.ChangeLaws.{length_each_change}
use Rattle.heat_account.proofs.Account.corrected_changes.Goals as goal

pub returns : goal.returns
returns g c =
    let a = c.args.self.now in
    let s = a.state in
    let shares = g.R.Sharing.shares a.rule in
    let w = c.corrected_bills-corrected.ensures in
    let new = c.corrected_bills-corrected.result in
    let old : c.as_slice.result.now ≡ s.bills = c.as_slice.ensures.value ∙ ap (λ v. v.state.bills) c.self.view_is in
    let is : c.change_each.result ≡ each_change s.bills new =
    c.change_each.ensures ∙ ap (λ (v : List (ℕ × ℕ)). each_change v c.as_slice-2.result.now) old ∙ ap (each_change s.bills) c.as_slice-2.ensures.value in
    let long : length s.bills ≡ length a.house.rooms = rw (← c.self.view_is) c.self.invariant.long.2 in
    record {
      value = is ∙ ap (each_change s.bills) w.value ∙ sym (ap (λ (v : Stage). each_change s.bills (corrected shares a.house s v).bills) c.requires);
      long = ap length is ∙ length_each_change s.bills new (w.long ∙ sym long) ∙ long;
    }
