-- What a token stands for, where a line is being read, and what reading an item gives.
use Rattle.std.specs.Prelude.{ℕ, ◌+◌, cond, List, length, take, drop, Ok, Err, Result, ◌==◌, nat_lt}
use Rattle.std.specs.Str.Parse.{digits_value}
use Rattle.fault.specs.declared.place.Place.{Place}
use Rattle.fault.specs.declared.place.Place.TheVariants.{Text}
use Rattle.forms.specs.declared.token.Token.{Token}
use Rattle.forms.specs.declared.token.Token.TheVariants.{Word, Number}
use Rattle.forms.specs.declared.misread.Misread.{Misread}
use Rattle.forms.specs.Form.{Figure, Form, common, numeral_at, follow}

abbrev pub figure_of : Token → Figure
figure_of (Word letters line column) = record { value = 0; column = column }
figure_of (Number digits value line column) = record { value = value; column = column }

abbrev pub place_of : Token → Place
place_of (Word letters line column) = Text line column
place_of (Number digits value line column) = Text line column

-- the part of the text that a token is
abbrev pub bytes_of : Token → List ℕ
bytes_of (Word letters line column) = letters.now
bytes_of (Number digits value line column) = digits.now

-- a figure and where it stands
pub record Mark : Type 0 where
  pub figure : Figure
  pub place : Place

abbrev pub mark_of : Token → Mark
mark_of t = record { figure = figure_of t; place = place_of t }

-- a figure of this line
abbrev pub mark : ℕ → Figure → Mark
mark line x = record { figure = x; place = Text line x.column }

-- a result with the figure of its token, and where that stands
abbrev pub seen : Result Token Misread → Result Mark Misread
seen (Ok t) = Ok (mark_of t)
seen (Err misread) = Err misread

-- a result by the line in which it stops at a column
abbrev pub on_line : {X : Type 0} → ℕ → Result X ℕ → Result X Misread
on_line line (Ok x) = Ok x
on_line line (Err column) = Err (record { line = line; column = column })

-- the same of a figure, which stands in that line too
abbrev pub read_on : ℕ → Result Figure ℕ → Result Mark Misread
read_on line (Ok x) = Ok (mark line x)
read_on line (Err column) = Err (record { line = line; column = column })

-- where a line is being read, and what is left of it
pub record Spot : Type 0 where
  pub line : ℕ
  pub column : ℕ
  pub rest : List ℕ

abbrev pub spot_place : Spot → Place
spot_place s = Text s.line s.column

-- so many bytes further on
abbrev pub onward : Spot → ℕ → Spot
onward s n = record { line = s.line; column = s.column + n; rest = drop n s.rest }

-- just these bytes, or the column of the first that is another
abbrev pub word_read : Spot → List ℕ → Result Figure ℕ
word_read s w = cond (nat_lt (common w s.rest) (length w)) (Err (s.column + common w s.rest)) (Ok (record { value = 0; column = s.column }))

abbrev pub word_left : Spot → List ℕ → Spot
word_left s w = cond (nat_lt (common w s.rest) (length w)) s (onward s (length w))

-- the digits of the number at the front
abbrev pub numeral : List ℕ → List ℕ
numeral bs = take (numeral_at bs) bs

abbrev pub number_read : Spot → Result Figure ℕ
number_read s = cond (numeral_at s.rest == 0) (Err s.column) (Ok (record { value = digits_value 10 (numeral s.rest); column = s.column }))

abbrev pub number_left : Spot → Spot
number_left s = onward s (numeral_at s.rest)

abbrev pub end_read : Spot → Result (Unit {0}) ℕ
end_read s = cond (length s.rest == 0) (Ok tt) (Err s.column)

-- what a line says from a spot on, or where it stops being one of the form
abbrev pub line_says : {X : Type 0} → Form X → Spot → Result X Misread
line_says f s = on_line s.line (follow f s.column s.rest)
