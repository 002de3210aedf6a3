use Rattle.std.proofs.Common.{◌≡◌, eqb, rules, tests}
use Rattle.std.specs.List.{position}
use Rattle.std.proofs.lemmas.Iterator.{YieldsList-from_slice}
use Rattle.std.proofs.lemmas.Iterator.Search.{position_from_yields_List}
use Rattle.forms.proofs.LineLaws.{line_to, line_all}
use Rattle.forms.proofs.lines.line_length.Goals as goal
use Rattle.forms.proofs.lines.line_length.Goals.{After-position}

found : (c : After-position) → c.position.result ≡ position (λ b. eqb b 10) c.args.text.now
found c = position_from_yields_List (λ b. eqb b 10) _ _ _ c.position.ensures.ran (YieldsList-from_slice c.args.text.now cc) (λ x b q k. search (rules, tests))

pub returns-in-Some-clause-value : goal.returns-in-Some-clause-value
returns-in-Some-clause-value c = line_to c.args.text.now _ (found (goal.at.returns-in-Some-clause-value c).After-position) _ c.in-Some.is

pub returns-in-None-clause-value : goal.returns-in-None-clause-value
returns-in-None-clause-value c = line_all c.args.text.now _ (found (goal.at.returns-in-None-clause-value c).After-position) c.in-None.is
