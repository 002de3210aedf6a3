use Rattle.std.proofs.Common.{◌≡◌, ℕ, take, subst, sym, rules}
use Rattle.std.specs.Str.Parse.{AllDigits}
use Rattle.forms.specs.Form.{numeral_at}
use Rattle.forms.proofs.Fronts.{numeral_digits}
use Rattle.forms.proofs.reading.numeral_at.Goals as goal

pub returns-clause-digits : goal.returns-clause-digits
returns-clause-digits c =
    let text = c.args.text.now in
    let value : c.digits_at.result ≡ numeral_at text = search rules in
    subst (λ (n : ℕ). AllDigits 10 (take n text)) (sym value) (numeral_digits text)
