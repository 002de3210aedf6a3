use Rattle.std.proofs.Common.{◌≡◌, length, take, ap, ◌∙◌, arith}
use Rattle.forms.proofs.Fronts.{common_full}
use Rattle.forms.proofs.cursor.Cursor.word.Goals as goal

pub returns-clause-bytes : goal.returns-clause-bytes
returns-clause-bytes c =
    let rest = c.rest-rest.result.now in
    let w = c.args.word.now in
    let all : c.front-same.result ≡ length w = omega arith in
    ap (λ n. take n rest) all ∙ common_full w rest (omega arith)
