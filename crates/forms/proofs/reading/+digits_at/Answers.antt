use Rattle.std.proofs.Common.{◌+◌, sym, ap, ◌∙◌, arith}
use Rattle.forms.proofs.Fronts.{digits_on, digits_off, differ}
use Rattle.forms.proofs.reading.+digits_at.Goals as goal

pub returns-in-len1-up-clause-value : goal.returns-in-len1-up-clause-value
returns-in-len1-up-clause-value t c = ap (λ n. 1 + n) c.digits_at.ensures.value ∙ digits_on c.args.most c.args.text.now c.if-most-gt0.true c.in-len1-up.len_at_least (sym c.is_ascii_digit.ensures.value ∙ c.if-is_ascii_digit.true)

pub returns-in_default-clause-value : goal.returns-in_default-clause-value
returns-in_default-clause-value t c = digits_off c.args.most c.args.text.now (λ a b e. absurd (omega arith))

pub returns-in_default-2-clause-value : goal.returns-in_default-2-clause-value
returns-in_default-2-clause-value t c = digits_off c.args.most c.args.text.now (λ a b e. differ _ e (sym c.is_ascii_digit.ensures.value ∙ c.if-is_ascii_digit.false))

pub returns-in_default-3-clause-value : goal.returns-in_default-3-clause-value
returns-in_default-3-clause-value t c = digits_off c.args.most c.args.text.now (λ a b e. absurd (omega arith))
