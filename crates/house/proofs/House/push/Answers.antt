use Rattle.std.proofs.Common.{◌∙◌, ap}
use Rattle.house.specs.Plan.{lawful}
use Rattle.house.proofs.Adding.{lawful_push, pushed}
use Rattle.house.proofs.House.push.Goals as goal

pub invariant_of-self : goal.invariant_of-self
invariant_of-self c =
    let h = c.self.inside in
    let free = rw (← c.self.view_is) at c.requires in
    let taken = pushed h.method h.rooms c.args.room free c.push.result c.push.new.self c.push.ensures.value c.push.ensures.after in
    ap (lawful h.number h.method) taken ∙ lawful_push h.number h.method h.rooms c.args.room c.self.invariant free
