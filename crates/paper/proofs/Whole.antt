-- A line from its two halves.
use Rattle.std.proofs.Common.{◌≡◌, ℕ, List, Some, None, Ok, Err, Option, Result, sym, refl, ap, ◌∙◌}
use Rattle.std.specs.Option.{option_map}
use Rattle.fault.specs.declared.place.Place.{Place}
use Rattle.fault.specs.declared.place.Place.TheVariants.{Nowhere, Text}
use Rattle.house.specs.declared.method.Method.{Method}
use Rattle.house.specs.declared.room.Kind.{Kind}
use Rattle.forms.specs.declared.misread.Misread.{Misread}
use Rattle.forms.specs.declared.token.Token.{Token}
use Rattle.forms.specs.Form.{Figure, Form, follow, word, number, mark as at}
use Rattle.forms.specs.Place.{Mark, Spot, mark, on_line, read_on, word_read, word_left, number_read, number_left, line_says}
use Rattle.forms.proofs.Walks.{follows, then_word, no_word, then_number, no_number, left_line, figure_read, stop_figure}
use Rattle.paper_text.specs.Text.{house_word, room_word, opening}
use Rattle.paper.specs.declared.heading.Heading.{Heading}
use Rattle.paper.specs.declared.room_line.RoomLine.{RoomLine}
use Rattle.paper.specs.Items.{mapped, and_then, open_read, open_left, figure_in, place_in}
use Rattle.paper.specs.Lines.{method_form, kind_form, heading_of, room_of, house_form, room_form, stands}
use Rattle.paper.proofs.Tails.{methods, method_says, kinds, kind_says}

-- a line's first half: a word, a number and the bracket behind it
pub opened_line : {X : Type 0} (w : List ℕ) (f : Figure → Form X) (s : Spot) → follows (word w (number (λ n. word opening (f n)))) s ≡ and_then (open_read s w) (λ n. follows (f n) (open_left s w))
opened_line w f s = at_word (word_read s w) refl where
  at_bracket : (n : Figure) (r : Result Figure ℕ) → word_read (number_left (word_left s w)) opening ≡ r → follows (word opening (f n)) (number_left (word_left s w)) ≡ and_then (and_then r (λ _. Ok n)) (λ n. follows (f n) (open_left s w))
  at_bracket n (Ok b) e = then_word opening (f n) (number_left (word_left s w)) (open_left s w) b (sym e) refl
  at_bracket n (Err c) e = no_word opening (f n) (number_left (word_left s w)) c (sym e)

  at_number : (r : Result Figure ℕ) → number_read (word_left s w) ≡ r → follows (number (λ n. word opening (f n))) (word_left s w) ≡ and_then (and_then r (λ n. and_then (word_read (number_left (word_left s w)) opening) (λ _. Ok n))) (λ n. follows (f n) (open_left s w))
  at_number (Ok n) e = then_number _ (word_left s w) (number_left (word_left s w)) n (sym e) refl ∙ at_bracket n (word_read (number_left (word_left s w)) opening) refl
  at_number (Err c) e = no_number _ (word_left s w) c (sym e)

  at_word : (r : Result Figure ℕ) → word_read s w ≡ r → follows (word w (number (λ n. word opening (f n)))) s ≡ and_then (and_then r (λ _. and_then (number_read (word_left s w)) (λ n. and_then (word_read (number_left (word_left s w)) opening) (λ _. Ok n)))) (λ n. follows (f n) (open_left s w))
  at_word (Ok a) e = then_word w _ s (word_left s w) a (sym e) refl ∙ at_number (number_read (word_left s w)) refl
  at_word (Err c) e = no_word w _ s c (sym e)

pub open_line : (s : Spot) (w : List ℕ) → (open_left s w).line ≡ s.line
open_line s w = left_line (number_left (word_left s w)) opening ∙ left_line s w

-- how a line goes on behind its first half
module _ {X : Type 0} (w : List ℕ) (f : Figure → Form X) (s : Spot) where
  abbrev halves : Form X
  halves = word w (number (λ n. word opening (f n)))

  pub open_off : (e : Misread) → Err e ≡ read_on s.line (open_read s w) → line_says halves s ≡ Err e
  open_off e h =
      let p = stop_figure s.line e _ h in
      ap (on_line s.line) (opened_line w f s ∙ ap (λ (r : Result Figure ℕ). and_then r (λ n. follows (f n) (open_left s w))) (sym p.0)) ∙ ap Err p.1

  pub open_on : (s' : Spot) (m : Mark) → Ok m ≡ read_on s.line (open_read s w) → s' ≡ open_left s w → line_says halves s ≡ line_says (f m.figure) s'
  open_on s' m h left =
      let there : s.line ≡ s'.line = sym (ap (λ (v : Spot). v.line) left ∙ open_line s w) in
      let on : follows halves s ≡ follows (f m.figure) s' =
      opened_line w f s ∙ ap (λ (r : Result Figure ℕ). and_then r (λ n. follows (f n) (open_left s w))) (sym (figure_read s.line m _ h).0) ∙ ap (follows (f m.figure)) (sym left) in
      λ i. on_line (there i) (on i)

at_here : {X : Type 0} (f : ℕ → Form X) (s : Spot) → line_says (at f) s ≡ line_says (f s.column) s
unfolding follow
at_here f s = refl

-- where a figure stands, if there is one
abbrev stood : Option Mark → Place
stood None = Nowhere
stood (Some m) = m.place

pub stood_in : (pipe : Option Token) → place_in pipe ≡ stood (figure_in pipe)
stood_in None = refl
stood_in (Some t) = refl

stood_on : (line : ℕ) (pipe : Option Figure) → stood (option_map (mark line) pipe) ≡ stands line pipe
stood_on line None = refl
stood_on line (Some x) = refl

module _ (line : ℕ) (text : List ℕ) (s s' : Spot) (is : s ≡ record { line = line; column = 1; rest = text }) where
  here : s.line ≡ line
  here = ap (λ (v : Spot). v.line) is

  pub heading_off : (e : Misread) → Err e ≡ read_on s.line (open_read s house_word) → Err e ≡ on_line line (follow (house_form line) 1 text)
  heading_off e h = sym (open_off house_word (λ n. method_form (heading_of line n)) s e h) ∙ ap (line_says (house_form line)) is

  pub room_off : (e : Misread) → Err e ≡ read_on s.line (open_read s room_word) → Err e ≡ on_line line (follow (room_form line) 1 text)
  room_off e h = sym (open_off room_word (λ n. at (λ column. kind_form (room_of line n column))) s e h) ∙ ap (line_says (room_form line)) is

  module _ (n : Mark) where
    module _ (read : Ok n ≡ read_on s.line (open_read s house_word)) (left : s' ≡ open_left s house_word) where
      abbrev pub heading_with : Method × Mark → Heading
      heading_with p = record { number = n.figure.value; method = p.0; number_at = n.place; figure_at = p.1.place }

      pub heading_by : (r : Result (Method × Mark) Misread) → r ≡ line_says (methods s'.line) s' → mapped heading_with r ≡ on_line line (follow (house_form line) 1 text)
      heading_by r h =
          let there : s'.line ≡ line = ap (λ (v : Spot). v.line) left ∙ open_line s house_word ∙ here in
          let place : n.place ≡ Text line n.figure.column = ap (λ (v : Mark). v.place) (figure_read s.line n _ read).1 ∙ ap (λ (v : ℕ). Text v n.figure.column) here in
          ap (mapped heading_with) h
          ∙ method_says heading_with s' (λ m x. (m, mark s'.line x))
          ∙ (λ i. line_says (method_form (λ m x. record { number = n.figure.value; method = m; number_at = place i; figure_at = Text (there i) x.column })) s')
          ∙ sym (open_on house_word (λ n. method_form (heading_of line n)) s s' n read left)
          ∙ ap (line_says (house_form line)) is

    module _ (read : Ok n ≡ read_on s.line (open_read s room_word)) (left : s' ≡ open_left s room_word) where
      abbrev pub room_with : Kind × Mark × Option Mark → RoomLine
      room_with p = record {
        room = record { number = n.figure.value; area = p.1.figure.value; kind = p.0 };
        number_at = n.place;
        kind_at = Text s'.line s'.column;
        area_at = p.1.place;
        pipe_at = stood p.2;
      }

      pub room_by : (r : Result (Kind × Mark × Option Mark) Misread) → r ≡ line_says (kinds s'.line) s' → mapped room_with r ≡ on_line line (follow (room_form line) 1 text)
      room_by r h =
          let there : s'.line ≡ line = ap (λ (v : Spot). v.line) left ∙ open_line s room_word ∙ here in
          let place : n.place ≡ Text line n.figure.column = ap (λ (v : Mark). v.place) (figure_read s.line n _ read).1 ∙ ap (λ (v : ℕ). Text v n.figure.column) here in
          let pipe-at : (pipe : Option Figure) → stood (option_map (mark s'.line) pipe) ≡ stands line pipe = λ pipe. stood_on s'.line pipe ∙ ap (λ (v : ℕ). stands v pipe) there in
          ap (mapped room_with) h
          ∙ kind_says room_with s' (λ kind a pipe. (kind, mark s'.line a, option_map (mark s'.line) pipe))
          ∙ (λ i. line_says (kind_form (λ kind a pipe. record {
            room = record { number = n.figure.value; area = a.value; kind = kind };
            number_at = place i;
            kind_at = Text (there i) s'.column;
            area_at = Text (there i) a.column;
            pipe_at = pipe-at pipe i;
          })) s')
          ∙ sym (open_on room_word (λ n. at (λ column. kind_form (room_of line n column))) s s' n read left ∙ at_here (λ column. kind_form (room_of line n.figure column)) s')
          ∙ ap (line_says (room_form line)) is
