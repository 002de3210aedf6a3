-- What working a period out answers.
use Rattle.std.specs.Prelude.{Some, None, Ok, Err, Option, Result}
use Rattle.fault.specs.declared.reason.Reason.{Reason}

-- the value, unless something speaks against it
abbrev pub ruled : {X : Type 0} → Option Reason → X → Result X Reason
ruled None x = Ok x
ruled (Some reason) x = Err reason
