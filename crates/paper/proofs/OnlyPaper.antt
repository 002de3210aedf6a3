-- A paper that is accepted is the one that its house has.
use Rattle.std.proofs.Common.{◌≡◌, ℕ, ◌+◌, Bool, true, false, cond, not, eqb, List, [], ◌∷◌, ◌++◌, length, Some, None, Ok, Err, decimal, Option, Result, sym, refl, ap, ◌∙◌, ⊎_elim, append_assoc, append-nil, arith}
use Rattle.fault.specs.Numbers.{fault_of}
use Rattle.fault.specs.declared.reason.Reason.{Reason}
use Rattle.fault.specs.declared.reason.Reason.TheVariants.{NumberOutOfRange}
use Rattle.fault.specs.declared.refusal.Fault.{Fault}
use Rattle.house.specs.declared.method.Method.{Method}
use Rattle.house.specs.declared.method.Method.TheVariants.{Remainder, Stated}
use Rattle.house.specs.declared.room.Kind.{Kind}
use Rattle.house.specs.declared.room.Kind.TheVariants.{Metered, Plain, Detached}
use Rattle.house.specs.declared.room.Room.{Room}
use Rattle.house.specs.Plan.{Plan, bare, with_room, room_refusal, number_fits, method_fits}
use Rattle.forms.specs.Form.{Figure, follow}
use Rattle.forms.specs.Lawful.{Says}
use Rattle.forms.specs.Lines.{onto, lines}
use Rattle.forms.proofs.FollowLaws.{follow_says}
use Rattle.paper_text.specs.Text.{closing, opening, blank, house_word, room_word, remainder_word, stated_word, metered_word, plain_word, detached_word, method_text, kind_text, house_line, room_line, room_lines, paper_text}
use Rattle.paper.specs.declared.heading.Heading.{Heading}
use Rattle.paper.specs.declared.room_line.RoomLine.{RoomLine}
use Rattle.paper.specs.Lines.{figure_form, method_form, detached_form, kind_form, heading_of, room_of, house_form, room_form}
use Rattle.paper.specs.Reading.{and_on, taken, joined, headed, rooms_read, lines_read, reading}

figure_said : {X : Type 0} (w : List ℕ) (says : Figure → X) (column : ℕ) (bs : List ℕ) (x : X) → Says (figure_form w says) column bs x → (f : Figure) × (bs ≡ w ++ (decimal f.value ++ closing)) × (x ≡ says f)
figure_said w says column bs x s =
    let t = s.2 in
    let u = t.4 in (
      record { value = t.0; column = column + length w },
      s.1 ∙ ap (λ (v : List ℕ). w ++ v) (t.3 ∙ ap (λ (v : List ℕ). decimal t.0 ++ v) (u.1 ∙ ap (λ (v : List ℕ). closing ++ v) u.2.0)),
      u.2.1,
    )

method_said : {X : Type 0} (says : Method → Figure → X) (column : ℕ) (bs : List ℕ) (x : X) → Says (method_form says) column bs x → (m : Method) × (f : Figure) × (bs ≡ method_text m) × (x ≡ says m f)
method_said says column bs x s =
    ⊎_elim
    (λ l. let f = figure_said remainder_word (λ a. says (Remainder a.value) a) column bs x l in (Remainder f.0.value, f.0, f.1, f.2))
    (λ r. let f = figure_said stated_word (λ k. says (Stated k.value) k) column bs x r in (Stated f.0.value, f.0, f.1, f.2))
    s

heading_said : (line column : ℕ) (bs : List ℕ) (h : Heading) → Says (house_form line) column bs h → bs ≡ house_line h.number h.method
heading_said line column bs h s =
    let t = s.2 in
    let u = t.4 in
    let n : Figure = record { value = t.0; column = column + length house_word } in
    let m = method_said (heading_of line n) (column + length house_word + length (decimal t.0) + length opening) u.0 h u.2 in
    s.1 ∙ ap (λ (v : List ℕ). house_word ++ v) (t.3 ∙ ap (λ (v : List ℕ). decimal t.0 ++ v) (u.1 ∙ ap (λ (v : List ℕ). opening ++ v) m.2))
    ∙ sym (ap (λ (v : Heading). house_line v.number v.method) m.3)

detached_said : {X : Type 0} (says : Figure → Figure → X) (column : ℕ) (bs : List ℕ) (x : X) → Says (detached_form says) column bs x → (a : Figure) × (t : Figure) × (bs ≡ kind_text (Detached t.value) a.value) × (x ≡ says a t)
detached_said says column bs x s =
    let t = s.2 in
    let a : Figure = record { value = t.0; column = column + length detached_word } in
    let f = figure_said blank (says a) _ t.1 x t.4 in
    (a, f.0, s.1 ∙ ap (λ (v : List ℕ). detached_word ++ v) (t.3 ∙ ap (λ (v : List ℕ). decimal t.0 ++ v) f.1), f.2)

kind_said : {X : Type 0} (says : Kind → Figure → Option Figure → X) (column : ℕ) (bs : List ℕ) (x : X) → Says (kind_form says) column bs x → (kind : Kind) × (a : Figure) × (pipe : Option Figure) × (bs ≡ kind_text kind a.value) × (x ≡ says kind a pipe)
kind_said says column bs x s =
    ⊎_elim
    (λ l. let f = figure_said metered_word (λ a. says Metered a None) column bs x l in (Metered, f.0, None, f.1, f.2))
    (λ r. ⊎_elim
    (λ l. let f = figure_said plain_word (λ a. says Plain a None) column bs x l in (Plain, f.0, None, f.1, f.2))
    (λ r. let d = detached_said (λ a t. says (Detached t.value) a (Some t)) column bs x r in (Detached d.1.value, d.0, Some d.1, d.2, d.3))
    r)
    s

room_line_said : (line column : ℕ) (bs : List ℕ) (r : RoomLine) → Says (room_form line) column bs r → bs ≡ room_line r.room
room_line_said line column bs r s =
    let t = s.2 in
    let u = t.4 in
    let n : Figure = record { value = t.0; column = column + length room_word } in
    let here = column + length room_word + length (decimal t.0) + length opening in
    let k = kind_said (room_of line n here) here u.0 r u.2 in
    s.1 ∙ ap (λ (v : List ℕ). room_word ++ v) (t.3 ∙ ap (λ (v : List ℕ). decimal t.0 ++ v) (u.1 ∙ ap (λ (v : List ℕ). opening ++ v) k.3))
    ∙ sym (ap (λ (v : RoomLine). room_line v.room) k.4)

-- all lines one after the other
abbrev all_lines : List (List ℕ) → List ℕ
all_lines [] = []
all_lines (l ∷ ls) = l ++ all_lines ls

onto_all : (b : ℕ) (ls : List (List ℕ)) → all_lines (onto b ls) ≡ b ∷ all_lines ls
onto_all b [] = refl
onto_all b (l ∷ ls) = refl

cut_all : (t : Bool) (b : ℕ) (bs : List ℕ) → all_lines (lines bs) ≡ bs → all_lines (cond t ((b ∷ []) ∷ lines bs) (onto b (lines bs))) ≡ b ∷ bs
cut_all true b bs h = ap (λ (v : List ℕ). b ∷ v) h
cut_all false b bs h = onto_all b (lines bs) ∙ ap (λ (v : List ℕ). b ∷ v) h

lines_whole : (bs : List ℕ) → all_lines (lines bs) ≡ bs
lines_whole [] = refl
lines_whole (b ∷ bs) = cut_all (eqb b 10) b bs (lines_whole bs)

room_lines_push : (rooms : List Room) (room : Room) → room_lines (rooms ++ room ∷ []) ≡ room_lines rooms ++ room_line room
room_lines_push [] room = append-nil (room_line room)
room_lines_push (r ∷ rooms) room = ap (λ (v : List ℕ). room_line r ++ v) (room_lines_push rooms room) ∙ sym (append_assoc (room_line r) (room_lines rooms) (room_line room))

paper_push : (plan : Plan) (room : Room) → paper_text (with_room plan room) ≡ paper_text plan ++ room_line room
paper_push plan room = ap (λ (v : List ℕ). house_line plan.number plan.method ++ v) (room_lines_push plan.rooms room) ∙ sym (append_assoc (house_line plan.number plan.method) (room_lines plan.rooms) (room_line room))

ok_err : {X : Type 0} {x : X} {f : Fault} → ◌≡◌ {A = Result X Fault} (Err f) (Ok x) → ⊥
ok_err h = let z : ◌≡◌ {A = ℕ} 0 1 = cc in omega arith

taken_text : (line : ℕ) (plan next : Plan) (r : RoomLine) (o : Option Reason) → taken line plan r o ≡ Ok next → next ≡ with_room plan r.room
taken_text line plan next r None h = sym (let same : with_room plan r.room ≡ next = cc in same)
taken_text line plan next r (Some reason) h = absurd (ok_err h)

-- a room line that is taken is the line of the room that it brings
joined_text : (line : ℕ) (plan next : Plan) (l : List ℕ) (f : Result RoomLine ℕ) → follow (room_form line) 1 l ≡ f → joined line plan f ≡ Ok next → paper_text next ≡ paper_text plan ++ l
joined_text line plan next l (Ok r) is h =
    ap paper_text (taken_text line plan next r (room_refusal plan r.room) h) ∙ paper_push plan r.room ∙ ap (λ (v : List ℕ). paper_text plan ++ v) (sym (room_line_said line 1 l r (follow_says (room_form line) 1 l r is)))
joined_text line plan next l (Err c) is h = absurd (ok_err h)

and_on_ok : (r : Result Plan Fault) (f : Plan → Result Plan Fault) (plan : Plan) → and_on r f ≡ Ok plan → (mid : Plan) × (r ≡ Ok mid) × (f mid ≡ Ok plan)
and_on_ok (Ok mid) f plan h = (mid, refl, h)
and_on_ok (Err fault) f plan h = absurd (ok_err h)

end_text : (t : Bool) (plan last : Plan) (fault : Fault) → cond t (Err fault) (Ok plan) ≡ Ok last → paper_text last ≡ paper_text plan ++ []
end_text true plan last fault h = absurd (ok_err h)
end_text false plan last fault h = let same : plan ≡ last = cc in ap paper_text (sym same) ∙ sym (append-nil (paper_text plan))

rooms_text : (line : ℕ) (plan last : Plan) (ls : List (List ℕ)) → rooms_read line plan ls ≡ Ok last → paper_text last ≡ paper_text plan ++ all_lines ls
rooms_text line plan last [] h = end_text (eqb (length plan.rooms) 0) plan last _ h
rooms_text line plan last (l ∷ ls) h =
    let m = and_on_ok (joined line plan (follow (room_form line) 1 l)) (λ more. rooms_read (line + 1) more ls) last h in
    rooms_text (line + 1) m.0 last ls m.2
    ∙ ap (λ (v : List ℕ). v ++ all_lines ls) (joined_text line plan m.0 l (follow (room_form line) 1 l) refl m.1)
    ∙ append_assoc (paper_text plan) l (all_lines ls)

bare_text : (a b : Bool) (h : Heading) (plan : Plan) (p q : Fault) → cond a (Err p) (cond b (Err q) (Ok (bare h.number h.method))) ≡ Ok plan → paper_text plan ≡ house_line h.number h.method
bare_text true b h plan p q e = absurd (ok_err e)
bare_text false true h plan p q e = absurd (ok_err e)
bare_text false false h plan p q e = let same : bare h.number h.method ≡ plan = cc in ap paper_text (sym same) ∙ append-nil (house_line h.number h.method)

headed_text : (plan : Plan) (l : List ℕ) (f : Result Heading ℕ) → follow (house_form 1) 1 l ≡ f → headed f ≡ Ok plan → paper_text plan ≡ l
headed_text plan l (Ok h) is e = bare_text (not (number_fits h.number)) (not (method_fits h.method)) h plan (fault_of NumberOutOfRange h.number_at) (fault_of NumberOutOfRange h.figure_at) e ∙ sym (heading_said 1 1 l h (follow_says (house_form 1) 1 l h is))
headed_text plan l (Err c) is e = absurd (ok_err e)

lines_text : (plan : Plan) (ls : List (List ℕ)) → lines_read ls ≡ Ok plan → paper_text plan ≡ all_lines ls
lines_text plan [] h = absurd (ok_err h)
lines_text plan (l ∷ ls) h =
    let m = and_on_ok (headed (follow (house_form 1) 1 l)) (λ more. rooms_read 2 more ls) plan h in
    rooms_text 2 m.0 plan ls m.2 ∙ ap (λ (v : List ℕ). v ++ all_lines ls) (headed_text m.0 l (follow (house_form 1) 1 l) refl m.1)

-- writing the house of an accepted paper gives its bytes back
pub only_paper : (bs : List ℕ) (plan : Plan) → reading bs ≡ Ok plan → paper_text plan ≡ bs
only_paper bs plan h = lines_text plan (lines bs) h ∙ lines_whole bs
