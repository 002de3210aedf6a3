use Rattle.std.proofs.Common.{sym, ap, ◌∙◌}
use Rattle.sharing.specs.Remainders.{remainders}
use Rattle.heat_account.proofs.Slips.{fitting, booked, withdrawn}
use Rattle.season.proofs.corrections.correct_late.Goals as goal
use Rattle.season.proofs.corrections.correct_late.Goals.{in-Book, in-Withdraw}

pub unreachable-requires : goal.unreachable-requires
unreachable-requires c =
    let a = c.args.account.now in
    let held = c.correct.new.self in
    let slip = c.in_ok-slip.slip in
    let corrected = c.in_ok-slip.ensures in
    let fit = fitting remainders a.house held.house a.state held.state c.args.room c.args.reading slip corrected.value (ap (λ v. v.state) corrected.after) (ap (λ v. v.house) corrected.after) in
    let refused = sym c.in-Err.is in
    elim c.match-ending.branch [
      | in-Book w ↦ booked held.house held.state slip fit c.in-Err.field-0 (refused ∙ w.ended-is ∙ w.book-ended.ensures.value)
      | in-Withdraw w ↦ withdrawn held.house held.state slip fit c.in-Err.field-0 (refused ∙ w.ended-is ∙ w.withdraw-ended.ensures.value)
    ]
