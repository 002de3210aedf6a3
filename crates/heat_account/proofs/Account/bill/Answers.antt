use Rattle.std.proofs.Common.{ℕ, slice_index_or, rules, ap, ◌∙◌}
use Rattle.fault.specs.declared.place.Place.TheVariants.{Room}
use Rattle.heat_account.specs.declared.answer.Answer.TheVariants.{Billed}
use Rattle.heat_account.specs.declared.call.Call.TheVariants.{Bill}
use Rattle.heat_account.specs.Judged.{judged}
use Rattle.heat_account.specs.Carried.{answer_of}
use Rattle.heat_account.proofs.Carrying.{carries, told_at, by_mapped, by_kept}
use Rattle.heat_account.proofs.Account.bill.Goals as goal

pub returns-clause-ledger : goal.returns-clause-ledger
returns-clause-ledger g c =
    let a = c.args.self.now in
    let s = a.state in
    let call = Bill c.args.room in
    let value = told_at (judged a.house s call) (Room c.args.room) (λ place. slice_index_or s.bills place (0, 0)) c.look_up_bill.result c.look_up_bill.ensures.value c.map_err.result (λ x e. search rules) (λ reason e. search rules) in
    carries (g.R.Sharing.shares a.rule) (g.met.R.Sharing.fair a.rule) a.house c.look_up_bill.ensures.held.lawful s s call _ (ap (answer_of (λ (b : ℕ × ℕ). Billed b.0 b.1)) value ∙ by_mapped (answer_of (λ (b : ℕ × ℕ). Billed b.0 b.1)) (judged a.house s call) _ _) (by_kept (judged a.house s call) s)
