use Rattle.std.proofs.Common.{sym, rules}
use Rattle.std.proofs.lemmas.List.Sorted.{answers_always}
use Rattle.house.specs.declared.room.Kind.TheVariants.{Metered}
use Rattle.heat_account.proofs.FoundRooms.{halved_ok, halved_err}
use Rattle.heat_account.proofs.finding.find_room.Goals as goal

pub returns-in-Ok-clause-value : goal.returns-in-Ok-clause-value
returns-in-Ok-clause-value c =
    let facts = c.in-Ok.ensures in
    sym (halved_ok c.args.rooms.now c.requires c.args.number (record { number = 0; area = 0; kind = Metered }) c.in-Ok.place facts.bound (facts.position (λ r. r.number) (answers_always _ _ _ (λ f a r g called. search rules))))

pub returns-in-Err-clause-value : goal.returns-in-Err-clause-value
returns-in-Err-clause-value c =
    let facts = c.in-Err.ensures in
    sym (halved_err c.args.rooms.now c.requires c.args.number (record { number = 0; area = 0; kind = Metered }) c.in-Err.field-0 facts.bound (facts.position (λ r. r.number) (answers_always _ _ _ (λ f a r g called. search rules))))
