use Rattle.std.proofs.Common.{◌≡◌, ℕ, Bool, true, false, eqb, get_or, codes, sym, refl, ap, ◌∙◌, arith}
use Rattle.std.proofs.lemmas.Bool.{cond-true, cond-false, eqb-true, eqb-false}
use Rattle.forms.specs.Form.{Figure, Form, word, number, done, either}
use Rattle.forms.specs.Place.{Spot, figure_of, line_says}
use Rattle.forms.proofs.Walks.{off_word, off_number, on_word, on_number}
use Rattle.events.specs.declared.event.Ending.{Ending}
use Rattle.events.specs.declared.event.Ending.TheVariants.{Book, Withdraw}
use Rattle.events.specs.declared.event.Event.{Event}
use Rattle.events.specs.declared.event.Event.TheVariants.{Correct}
use Rattle.events.specs.Events.{next_ending, ending_word}
use Rattle.events.proofs.Steps.{first_next, second_next, ended, refused}
use Rattle.events.proofs.reading.read_correction.Goals as goal
use Rattle.events.proofs.reading.read_correction.Goals.{In_ok-room, In_ok-word, In_ok-figure, After-word-3}

behind_room : (f : Figure → Form Event) (c : In_ok-room) → line_says (number f) c.args.cursor ≡ line_says (f (figure_of c.in_ok-room.room)) c.number.new.self
behind_room f c = on_number f c.args.cursor c.number.new.self _ c.in_ok-room.ensures.value c.number.ensures.after

behind_word : (f : Form Event) (c : In_ok-word) → line_says (word (codes " ") f) c.number.new.self ≡ line_says f c.word.new.self
behind_word f c = on_word _ f c.number.new.self c.word.new.self _ c.in_ok-word.ensures.value c.word.ensures.after

behind_figure : (f : Figure → Form Event) (c : In_ok-figure) → line_says (number f) c.word.new.self ≡ line_says (f (figure_of c.in_ok-figure.figure)) c.number-2.new.self
behind_figure f c = on_number f c.word.new.self c.number-2.new.self _ c.in_ok-figure.ensures.value c.number-2.ensures.after

-- the next byte leaves one ending
one_ending : (f : Ending → Event) (c : Spot) → line_says (either (word (codes "book)") (done (f Book))) (word (codes "withdraw)") (done (f Withdraw)))) c ≡ line_says (word (ending_word (next_ending c.rest)) (done (f (next_ending c.rest)))) c
one_ending f c = go (eqb (get_or c.rest 0 0) 98) refl where
  go : (t : Bool) → eqb (get_or c.rest 0 0) 98 ≡ t → line_says (either (word (codes "book)") (done (f Book))) (word (codes "withdraw)") (done (f Withdraw)))) c ≡ line_says (word (ending_word (next_ending c.rest)) (done (f (next_ending c.rest)))) c
  go true h = first_next 98 119 _ _ _ _ c (λ e. omega (arith, e)) (eqb-true _ _ h) ∙ ap (λ (e : Ending). line_says (word (ending_word e) (done (f e))) c) (sym (cond-true _ _ _ h))
  go false h = second_next 98 119 _ _ _ _ c (λ _ e. eqb-false _ _ h e) ∙ ap (λ (e : Ending). line_says (word (ending_word e) (done (f e))) c) (sym (cond-false _ _ _ h))

pub returns-in_err-room : goal.returns-in_err-room
returns-in_err-room c = refused _ c.from_residual.ensures.1 (off_number _ c.args.cursor _ c.in_err-room.ensures.value)

pub returns-in_err-word : goal.returns-in_err-word
returns-in_err-word c =
    let at = goal.at.returns-in_err-word c in
    refused _ c.from_residual-in_err-word.ensures.1 (behind_room _ at.In_ok-room ∙ off_word _ _ c.number.new.self _ c.in_err-word.ensures.value)

pub returns-in_err-figure : goal.returns-in_err-figure
returns-in_err-figure c =
    let at = goal.at.returns-in_err-figure c in
    refused _ c.from_residual-in_err-figure.ensures.1 (behind_room _ at.In_ok-room ∙ behind_word _ at.In_ok-word ∙ off_number _ c.word.new.self _ c.in_err-figure.ensures.value)

pub returns-in_err-word-2 : goal.returns-in_err-word-2
returns-in_err-word-2 c =
    let at = goal.at.returns-in_err-word-2 c in
    refused _ c.from_residual-in_err-word-2.ensures.1
    (behind_room _ at.In_ok-room ∙ behind_word _ at.In_ok-word ∙ behind_figure _ at.In_ok-figure ∙ off_word _ _ c.number-2.new.self _ c.in_err-word-2.ensures.value)

-- with the word that the code has for the ending
behind_figures : (c : After-word-3) → (f : ℕ → ℕ → Ending → Event) → line_says (number (λ r. word (codes " ") (number (λ m. word (codes " ") (either (word (codes "book)") (done (f r.value m.value Book))) (word (codes "withdraw)") (done (f r.value m.value Withdraw)))))))) c.args.cursor
    ≡ line_says (word c.word-3.result.now (done (f (figure_of c.in_ok-room.room).value (figure_of c.in_ok-figure.figure).value c.next-ending.result))) c.word-2.new.self
behind_figures c f =
    let g : Ending → Event = f (figure_of c.in_ok-room.room).value (figure_of c.in_ok-figure.figure).value in
    let ending : c.next-ending.result ≡ next_ending c.word-2.new.self.rest = c.next-ending.ensures ∙ ap next_ending c.rest.ensures in
    on_number _ c.args.cursor c.number.new.self _ c.in_ok-room.ensures.value c.number.ensures.after
    ∙ on_word _ _ c.number.new.self c.word.new.self _ c.in_ok-word.ensures.value c.word.ensures.after
    ∙ on_number _ c.word.new.self c.number-2.new.self _ c.in_ok-figure.ensures.value c.number-2.ensures.after
    ∙ on_word _ _ c.number-2.new.self c.word-2.new.self _ c.in_ok-word-2.ensures.value c.word-2.ensures.after
    ∙ one_ending g c.word-2.new.self
    ∙ sym (λ i. line_says (word ((c.word-3.ensures ∙ ap ending_word ending) i) (done (g (ending i)))) c.word-2.new.self)

pub returns-in_err-word-3 : goal.returns-in_err-word-3
returns-in_err-word-3 c =
    refused _ c.from_residual-in_err-word-3.ensures.1
    (behind_figures (goal.at.returns-in_err-word-3 c).After-word-3 (λ r m e. Correct r m e) ∙ off_word _ _ c.word-2.new.self _ c.in_err-word-3.ensures.value)

pub returns : goal.returns
returns c =
    c.at_end.ensures
    ∙ ended _ c.word-4.new.self
    ∙ ap (λ (e : Event). line_says (done e) c.word-4.new.self) c.correction.ensures
    ∙ sym (behind_figures (goal.at.returns c).After-word-3 (λ r m e. Correct r m e)
    ∙ on_word _ _ c.word-2.new.self c.word-4.new.self _ c.in_ok-word-3.ensures.value c.word-4.ensures.after)
