-- What it means that a text is a line of a form, that it is the start of one, and that `follow` tells so.
use Rattle.std.specs.Prelude.{◌≡◌, ℕ, ◌+◌, ◌-◌, ◌<◌, ◌≤◌, Bool, true, false, cond, ◌⊎◌, List, [], ◌∷◌, ◌++◌, length, take, Ok, Err, decimal, Result, ◌==◌, slice_index}
use Rattle.std.specs.Char.{is_ascii_digit}
use Rattle.forms.specs.Form.{Form, done, word, number, mark, either}

-- these bytes are a line of the form that stands at this column, and it says x
abbrev pub Says : {X : Type 0} → Form X → ℕ → List ℕ → X → Type 0
Says (done y) column bs x = (bs ≡ []) × (x ≡ y)
Says (word w f) column bs x = (rest : List ℕ) × (bs ≡ w ++ rest) × Says f (column + length w) rest x
Says (number f) column bs x = (n : ℕ) × (rest : List ℕ) × (n < 1000000000) × (bs ≡ decimal n ++ rest) × Says (f (record { value = n; column = column })) (column + length (decimal n)) rest x
Says (mark f) column bs x = Says (f column) column bs x
Says (either f g) column bs x = Says f column bs x ⊎ Says g column bs x

-- these bytes are the start of a line of the form
abbrev pub Starts : {X : Type 0} → Form X → ℕ → List ℕ → Type 0
Starts {X = X} f column bs = (more : List ℕ) × (x : X) × Says f column (bs ++ more) x

-- two words of which neither begins with the other
abbrev pub unlike : List ℕ → List ℕ → Bool
unlike [] w = false
unlike (a ∷ v) [] = false
unlike (a ∷ v) (b ∷ w) = cond (a == b) (unlike v w) true

-- each line of the form begins with a word of which P holds, be it a digit, and none is empty unless E holds
abbrev pub Opens : {X : Type 0} → Form X → Type 0 → (List ℕ → Type 0) → Type 0
Opens (done y) E P = E
Opens (word [] f) E P = Opens f E P
Opens (word (b ∷ bs) f) E P = P (b ∷ bs)
Opens (number f) E P = (b : ℕ) → is_ascii_digit b ≡ true → P (b ∷ [])
Opens (mark f) E P = (column : ℕ) → Opens (f column) E P
Opens (either f g) E P = Opens f E P × Opens g E P

-- no line goes on with a digit after a number, and the first word tells which part of a choice a line is of
abbrev pub Sound : {X : Type 0} → Form X → Type 0
Sound (done y) = Unit {0}
Sound (word w f) = Sound f
Sound (number f) = (n column : ℕ) → Opens (f (record { value = n; column = column })) (Unit {0}) (λ v. is_ascii_digit (slice_index v 0) ≡ false) × Sound (f (record { value = n; column = column }))
Sound (mark f) = (column : ℕ) → Sound (f column)
Sound (either f g) = Opens f ⊥ (λ v. Opens g (Unit {0}) (λ w. unlike v w ≡ true)) × Sound f × Sound g

-- the result is what the line says and all that it can say, or else the bytes are no line,
-- and the column is the one at which they stop being the start of one, or one past them
abbrev pub Told : {X : Type 0} → Form X → ℕ → List ℕ → Result X ℕ → Type 0
Told {X = X} f column bs (Ok x) = Says f column bs x × ((y : X) → Says f column bs y → y ≡ x)
Told {X = X} f column bs (Err c) =
    (column ≤ c)
    × (c ≤ column + length bs)
    × Starts f column (take (c - column) bs)
    × ((k : ℕ) → c < column + k → k ≤ length bs → Starts f column (take k bs) → ⊥)
    × ((x : X) → Says f column bs x → ⊥)
