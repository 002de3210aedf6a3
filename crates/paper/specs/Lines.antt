-- The lines of a house paper, and what each says.
use Rattle.std.specs.Prelude.{ℕ, List, Some, None, Option}
use Rattle.fault.specs.declared.place.Place.{Place}
use Rattle.fault.specs.declared.place.Place.TheVariants.{Nowhere, Text}
use Rattle.house.specs.declared.method.Method.{Method}
use Rattle.house.specs.declared.method.Method.TheVariants.{Remainder, Stated}
use Rattle.house.specs.declared.room.Kind.{Kind}
use Rattle.house.specs.declared.room.Kind.TheVariants.{Metered, Plain, Detached}
use Rattle.forms.specs.Form.{Figure, Form, done, word, number, mark, either}
use Rattle.paper_text.specs.Text.{house_word, room_word, opening, remainder_word, stated_word, metered_word, plain_word, detached_word, blank, closing}
use Rattle.paper.specs.declared.heading.Heading.{Heading}
use Rattle.paper.specs.declared.room_line.RoomLine.{RoomLine}

-- a word, a number and the end of the line
abbrev pub figure_form : {X : Type 0} → List ℕ → (Figure → X) → Form X
figure_form w says = word w (number (λ x. word closing (done (says x))))

abbrev pub method_form : {X : Type 0} → (Method → Figure → X) → Form X
method_form says =
    either
    (figure_form remainder_word (λ a. says (Remainder a.value) a))
    (figure_form stated_word (λ k. says (Stated k.value) k))

-- what a first line says, with the places of its numbers
abbrev pub heading_of : ℕ → Figure → Method → Figure → Heading
heading_of line n method x = record { number = n.value; method = method; number_at = Text line n.column; figure_at = Text line x.column }

-- (house N (remainder A)) or (house N (stated K))
abbrev pub house_form : ℕ → Form Heading
house_form line = word house_word (number (λ n. word opening (method_form (heading_of line n))))

abbrev pub detached_form : {X : Type 0} → (Figure → Figure → X) → Form X
detached_form says = word detached_word (number (λ s. figure_form blank (says s)))

-- the kind, the area, and the pipe figure of a detached room
abbrev pub kind_form : {X : Type 0} → (Kind → Figure → Option Figure → X) → Form X
kind_form says =
    either (figure_form metered_word (λ s. says Metered s None))
    (either (figure_form plain_word (λ s. says Plain s None))
    (detached_form (λ s t. says (Detached t.value) s (Some t))))

-- where a figure stands, if there is one
abbrev pub stands : ℕ → Option Figure → Place
stands line None = Nowhere
stands line (Some x) = Text line x.column

-- what a room line says, with the places of its numbers and of its kind
abbrev pub room_of : ℕ → Figure → ℕ → Kind → Figure → Option Figure → RoomLine
room_of line r column kind s pipe = record {
  room = record { number = r.value; area = s.value; kind = kind };
  number_at = Text line r.column;
  kind_at = Text line column;
  area_at = Text line s.column;
  pipe_at = stands line pipe;
}

-- (room R (metered S)), (room R (plain S)) or (room R (detached S T))
abbrev pub room_form : ℕ → Form RoomLine
room_form line = word room_word (number (λ r. word opening (mark (λ column. kind_form (room_of line r column)))))
