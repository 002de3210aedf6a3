-- What the parts of a line give, by the figures of their tokens and where these stand.
use Rattle.std.specs.Prelude.{ℕ, List, Some, None, Ok, Err, Option, Result}
use Rattle.fault.specs.declared.place.Place.{Place}
use Rattle.fault.specs.declared.place.Place.TheVariants.{Nowhere}
use Rattle.house.specs.declared.method.Method.{Method}
use Rattle.house.specs.declared.room.Kind.{Kind}
use Rattle.forms.specs.declared.misread.Misread.{Misread}
use Rattle.forms.specs.declared.token.Token.{Token}
use Rattle.forms.specs.Form.{Figure}
use Rattle.forms.specs.Place.{Mark, Spot, mark_of, place_of, word_read, word_left, number_read, number_left}
use Rattle.paper_text.specs.Text.{opening}
use Rattle.paper.specs.declared.room_line.Described.{Described}

abbrev pub mapped : {X Y E : Type 0} → (X → Y) → Result X E → Result Y E
mapped g (Ok x) = Ok (g x)
mapped g (Err e) = Err e

abbrev pub and_then : {X Y : Type 0} → Result X ℕ → (X → Result Y ℕ) → Result Y ℕ
and_then (Ok x) f = f x
and_then (Err column) f = Err column

abbrev pub pair_seen : Result (Token × Token) Misread → Result (Mark × Mark) Misread
pair_seen r = mapped (λ p. (mark_of p.0, mark_of p.1)) r

-- the first half of a line: a word, a number and the bracket behind it
abbrev pub open_read : Spot → List ℕ → Result Figure ℕ
open_read s w =
    and_then (word_read s w) (λ _.
    and_then (number_read (word_left s w)) (λ n.
    and_then (word_read (number_left (word_left s w)) opening) (λ _. Ok n)))

abbrev pub open_left : Spot → List ℕ → Spot
open_left s w = word_left (number_left (word_left s w)) opening

abbrev pub method_seen : Result (Method × Token) Misread → Result (Method × Mark) Misread
method_seen r = mapped {X = Method × Token} {Y = Method × Mark} (λ p. (p.0, mark_of p.1)) r

abbrev pub figure_in : Option Token → Option Mark
figure_in None = None
figure_in (Some t) = Some (mark_of t)

abbrev pub described_seen : Result Described Misread → Result (Kind × Mark × Option Mark) Misread
described_seen r = mapped (λ d. (d.kind, mark_of d.area, figure_in d.pipe)) r

abbrev pub place_in : Option Token → Place
place_in None = Nowhere
place_in (Some t) = place_of t
