-- What a line may look like, and how far a text follows it.
use Rattle.std.specs.Prelude.{ℕ, zero, suc, ◌+◌, max, cond, List, [], ◌∷◌, length, take, drop, Ok, Err, Result, ◌==◌, nat_lt, slice_index}
use Rattle.std.specs.Str.Parse.{digits_value}
use Rattle.std.specs.Char.{is_ascii_digit}

-- a number, and the column of its first byte
pub record Figure : Type 0 where
  pub value : ℕ
  pub column : ℕ

-- the lines that say an X, each with what it says
pub data Form (X : Type 0) : Type 0 where
  done : X → Form X
  word : List ℕ → Form X → Form X
  number : (Figure → Form X) → Form X
  mark : (ℕ → Form X) → Form X
  either : Form X → Form X → Form X

-- how many bytes two texts have in common at the front
abbrev pub common : List ℕ → List ℕ → ℕ
common [] bs = 0
common (w ∷ ws) [] = 0
common (w ∷ ws) (b ∷ bs) = cond (w == b) (suc (common ws bs)) 0

-- how many digits stand at the front, of at most k
abbrev pub digits_at : ℕ → List ℕ → ℕ
digits_at zero bs = 0
digits_at (suc k) [] = 0
digits_at (suc k) (b ∷ bs) = cond (is_ascii_digit b) (suc (digits_at k bs)) 0

-- how many bytes of a number stand at the front: one to nine digits, and a 0 alone
abbrev pub numeral_at : List ℕ → ℕ
numeral_at bs = digits_at (cond (slice_index bs 0 == 48) 1 9) bs

-- of two forms the one that the text has, or the column to which it follows one of them
abbrev pub best : {X : Type 0} → Result X ℕ → Result X ℕ → Result X ℕ
best (Ok x) r = Ok x
best (Err i) (Ok y) = Ok y
best (Err i) (Err j) = Err (max i j)

-- what a line says that stands at this column, or the first column at which it no longer follows the form
unfoldable pub follow : {X : Type 0} → Form X → ℕ → List ℕ → Result X ℕ
follow (done x) column bs = cond (length bs == 0) (Ok x) (Err column)
follow (word w f) column bs = cond (nat_lt (common w bs) (length w)) (Err (column + common w bs)) (follow f (column + length w) (drop (length w) bs))
follow (number f) column bs = cond (numeral_at bs == 0) (Err column) (follow (f (record { value = digits_value 10 (take (numeral_at bs) bs); column = column })) (column + numeral_at bs) (drop (numeral_at bs) bs))
follow (mark f) column bs = follow (f column) column bs
follow (either f g) column bs = best (follow f column bs) (follow g column bs)
