-- The lines that say an event.
use Rattle.std.specs.Prelude.{ℕ, cond, List, Some, None, codes, Option, Result, ◌==◌, slice_index}
use Rattle.std.specs.Result.{result_ok}
use Rattle.forms.specs.declared.cursor.Cursor.{Cursor}
use Rattle.forms.specs.declared.token.Token.{Token}
use Rattle.forms.specs.Form.{Form, follow, word, number, done, either}
use Rattle.forms.specs.Place.{figure_of}
use Rattle.events.specs.declared.event.Ending.{Ending}
use Rattle.events.specs.declared.event.Ending.TheVariants.{Book, Withdraw}
use Rattle.events.specs.declared.event.Event.{Event}
use Rattle.events.specs.declared.event.Event.TheVariants.{Read, Close, Correct, Balance}

-- R M)
abbrev pub reading_form : Form Event
reading_form = number (λ r. word (codes " ") (number (λ m. word (codes ")") (done (Read r.value m.value)))))

-- V)
-- V Q)
abbrev pub closing_form : Form Event
closing_form = number (λ v. either
    (word (codes ")") (done (Close v.value None)))
    (word (codes " ") (number (λ q. word (codes ")") (done (Close v.value (Some q.value)))))))

-- R M book)
-- R M withdraw)
abbrev pub correction_form : Form Event
correction_form = number (λ r. word (codes " ") (number (λ m. word (codes " ") (either
    (word (codes "book)") (done (Correct r.value m.value Book)))
    (word (codes "withdraw)") (done (Correct r.value m.value Withdraw)))))))

abbrev pub balance_form : Form Event
balance_form = word (codes "(balance)") (done Balance)

-- (read R M)
-- (close V)
-- (close V Q)
-- (correct R M book)
-- (correct R M withdraw)
-- (balance)
abbrev pub event_form : Form Event
event_form =
    either (word (codes "(read ") reading_form)
    (either (word (codes "(close ") closing_form)
    (either (word (codes "(correct ") correction_form)
    balance_form))

-- the event that a line says, if it has one of the forms
abbrev pub event_of : List ℕ → Option Event
event_of line = result_ok (follow event_form 1 line)

-- what the line says from the cursor on, or the column at which it no longer follows the form
abbrev pub said : {X : Type 0} → Form X → Cursor → Result X ℕ
said f c = follow f c.column c.rest

abbrev pub common_of : Option Token → Option ℕ
common_of (Some t) = Some (figure_of t).value
common_of None = None

-- the ending that a text can say, by its first byte: the b of book, or else the other
abbrev pub next_ending : List ℕ → Ending
next_ending bs = cond (slice_index bs 0 == 98) Book Withdraw

abbrev pub ending_word : Ending → List ℕ
ending_word Book = codes "book)"
ending_word Withdraw = codes "withdraw)"
