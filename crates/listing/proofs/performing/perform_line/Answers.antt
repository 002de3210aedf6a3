use Rattle.std.proofs.Common.{◌≡◌, true, ap, ◌∙◌, subst}
use Rattle.house.specs.Plan.{Plan, lawful}
use Rattle.events.specs.Events.{event_of}
use Rattle.listing.specs.Performed.{line_after}
use Rattle.listing.proofs.EventLaws.{line_goes}
use Rattle.listing.proofs.performing.perform_line.Goals as goal

pub returns-clause-ledger : goal.returns-clause-ledger
returns-clause-ledger g c =
    let a = c.args.account.now in
    let shares = g.R.Sharing.shares a.rule in
    let was = c.perform_said-outcome.ensures.after in
    let house = ap (λ v. v.house) was in
    let law = subst (λ (plan : Plan). lawful plan.number plan.method plan.rooms ≡ true) house c.print_outcome.ensures.lawful in
    let after = ap (λ v. v.state) was ∙ ap (line_after shares a.house a.state) c.read_event.ensures in
    line_goes shares (g.met.R.Sharing.fair a.rule) a.house law a.state c.perform_said-outcome.new.account.state (event_of c.args.line.now) after
