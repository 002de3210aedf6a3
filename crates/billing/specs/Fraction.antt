-- Exact amounts: pairs of whole numbers, a top over a bottom above 0.
use Rattle.std.specs.Prelude.{ℕ, ◌+◌, ◌-◌, ◌*◌, ◌<◌, if◌then◌else◌, ◌==◌}

pub record Fraction : Type 0 where
  pub top : ℕ
  pub bottom : ℕ

-- a whole number, and a quotient: over 0 it is 0
abbrev pub whole : ℕ → Fraction
whole n = record { top = n; bottom = 1 }

abbrev pub over : ℕ → ℕ → Fraction
over n d = if d == 0 then whole 0 else record { top = n; bottom = d }

-- crosswise
abbrev pub plus : Fraction → Fraction → Fraction
plus x y = record { top = x.top * y.bottom + y.top * x.bottom; bottom = x.bottom * y.bottom }

abbrev pub minus : Fraction → Fraction → Fraction
minus x y = record { top = x.top * y.bottom - y.top * x.bottom; bottom = x.bottom * y.bottom }

-- an amount lies less than k units from a fraction
abbrev pub Within : ℕ → ℕ → Fraction → Type 0
Within k amount x = (amount * x.bottom < x.top + k * x.bottom) × (x.top < amount * x.bottom + k * x.bottom)
