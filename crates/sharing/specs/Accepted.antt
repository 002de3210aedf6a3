-- A sharing that no rule refuses.
use Rattle.std.specs.Prelude.{ℕ, List, Ok, Err, Result}
use Rattle.fault.specs.declared.refusal.Fault.{Fault}
use Rattle.sharing.specs.declared.claims.Claims.{Claims}

-- its total, its weights, and their sum
pub record Accepted : Type 0 where
  pub total : ℕ
  pub weights : List ℕ
  pub all : ℕ

-- a result with what its claims are
abbrev pub accepted : Result Claims Fault → Result Accepted Fault
accepted (Ok p) = Ok (record { total = p.total; weights = p.weights.now; all = p.all })
accepted (Err fault) = Err fault
