-- What the program prints before its first event, and the account that it then keeps.
use Rattle.std.specs.Prelude.{ℕ, cond, List, Ok, Err, Result}
use Rattle.fault.specs.Numbers.{fault_of}
use Rattle.fault.specs.declared.place.Place.TheVariants.{Nowhere}
use Rattle.fault.specs.declared.reason.Reason.TheVariants.{InputTooLong}
use Rattle.fault.specs.declared.refusal.Fault.{Fault}
use Rattle.house.specs.Plan.{Plan}
use Rattle.paper.specs.Reading.{reading}
use Rattle.input.specs.Parts.{too_long, paper_part}
use Rattle.printing.specs.Printed.{rule_line, refused_paper_line}

-- the house of an input: one that is too long is refused before anything else
abbrev pub house_in : List ℕ → Result Plan Fault
house_in input = cond (too_long input) (Err (fault_of InputTooLong Nowhere)) (reading (paper_part input))

-- the rule's title once the paper is accepted, or the refusal alone
abbrev pub opening_text : List ℕ → Result Plan Fault → List ℕ
opening_text title (Ok plan) = rule_line title
opening_text title (Err fault) = refused_paper_line fault
