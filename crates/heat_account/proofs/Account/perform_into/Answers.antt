use Rattle.std.proofs.Common.{sym}
use Rattle.std.proofs.lemmas.List.{set_past}
use Rattle.heat_account.proofs.Account.perform_into.Goals as goal

pub returns-else-i-answers : goal.returns-else-i-answers
returns-else-i-answers g c =
    let p = c.perform-answer.ensures in
    record {
      answer = sym (set_past c.args.answers.now c.args.i _ c.if-i-answers.false);
      after = p.after;
    }
