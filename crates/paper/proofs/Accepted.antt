-- The paper of a house is read back as that house.
use Rattle.std.proofs.Common.{◌≡◌, ℕ, ◌+◌, ◌<◌, ◌≤◌, Bool, true, ltb, List, [], ◌∷◌, ◌++◌, map, length, None, Ok, fold, Result, sym, refl, ap, ◌∙◌, inl, inr, append_assoc, append-nil, arith, length-append}
use Rattle.std.proofs.lemmas.List.Sums.{sum_by-append, sum_by-cons}
use Rattle.std.proofs.lemmas.Bool.{and_parts, not_from_true, cond-false, ne_eqb, ltb-true}
use Rattle.std.proofs.lemmas.Bool.Decides.{nat_tests}
use Rattle.fault.specs.declared.refusal.Fault.{Fault}
use Rattle.house.specs.declared.method.Method.{Method}
use Rattle.house.specs.declared.method.Method.TheVariants.{Remainder, Stated}
use Rattle.house.specs.declared.room.Kind.{Kind}
use Rattle.house.specs.declared.room.Kind.TheVariants.{Metered, Plain, Detached}
use Rattle.house.specs.declared.room.Room.{Room}
use Rattle.house.specs.Plan.{Plan, bare, with_room, pipe_of, common_area, takes, number_fits, method_fits, room_fits, every, ascend_from, last_number, area_sum, lawful, next_refusal, room_refusal, most_rooms, most_area}
use Rattle.house.proofs.Laws.{laws_of}
use Rattle.forms.specs.Form.{follow}
use Rattle.forms.specs.Lawful.{Says}
use Rattle.forms.specs.Lines.{lines}
use Rattle.forms.proofs.FollowLaws.{says_follow}
use Rattle.paper_text.specs.Text.{house_line, room_line, room_lines, paper_text}
use Rattle.paper.specs.declared.heading.Heading.{Heading}
use Rattle.paper.specs.declared.room_line.RoomLine.{RoomLine}
use Rattle.paper.specs.Lines.{house_form, room_form}
use Rattle.paper.specs.Reading.{and_on, taken, joined, headed, rooms_read, lines_read, reading}
use Rattle.paper.proofs.LinesOf.{method_figure, lined_house, lined_room}
use Rattle.paper.proofs.Sounding.{house_sound, room_sound}

-- what the line of a house says
house_says : (n : ℕ) (m : Method) → n < 1000000000 → method_figure m < 1000000000 → (h : Heading) × (h.number ≡ n) × (h.method ≡ m) × Says (house_form 1) 1 (house_line n m) h
house_says n (Remainder area) small fig =
    (_, refl, refl, (_, refl, (n, _, small, refl, (_, refl, inl (_, refl, (area, _, fig, refl, ([], refl, (refl, refl))))))))
house_says n (Stated percent) small fig =
    (_, refl, refl, (_, refl, (n, _, small, refl, (_, refl, inr (_, refl, (percent, _, fig, refl, ([], refl, (refl, refl))))))))

-- what the line of a room says
module _ (line n area : ℕ) (small : n < 1000000000) (fig : area < 1000000000) where
  abbrev RoomSays : Kind → Type 0
  RoomSays kind = (x : RoomLine) × (x.room ≡ record { number = n; area = area; kind = kind }) × Says (room_form line) 1 (room_line (record { number = n; area = area; kind = kind })) x

  room_says : (kind : Kind) → pipe_of kind < 1000000000 → RoomSays kind
  room_says Metered thin =
      (_, refl, (_, refl, (n, _, small, refl, (_, refl, inl (_, refl, (area, _, fig, refl, ([], refl, (refl, refl))))))))
  room_says Plain thin =
      (_, refl, (_, refl, (n, _, small, refl, (_, refl, inr (inl (_, refl, (area, _, fig, refl, ([], refl, (refl, refl)))))))))
  room_says (Detached pipe) thin =
      (_, refl, (_, refl, (n, _, small, refl, (_, refl, inr (inr (_, refl, (area, _, fig, refl, (_, refl, (pipe, _, thin, refl, ([], refl, (refl, refl)))))))))))

-- a room among others
every_at : (test : Room → Bool) (before : List Room) (room : Room) (behind : List Room) → every test (before ++ room ∷ behind) ≡ true → test room ≡ true
every_at test [] room behind h = (and_parts (test room) (every test behind) h).0
every_at test (r ∷ before) room behind h = every_at test before room behind (and_parts (test r) (every test (before ++ room ∷ behind)) h).1

ascend_at : (n : ℕ) (before : List Room) (room : Room) (behind : List Room) → ascend_from n (before ++ room ∷ behind) ≡ true → fold (λ last r. r.number) n before < room.number
ascend_at n [] room behind h = ltb-true n room.number (and_parts (ltb n room.number) (ascend_from room.number behind) h).0
ascend_at n (r ∷ before) room behind h = ascend_at r.number before room behind (and_parts (ltb n r.number) (ascend_from r.number (before ++ room ∷ behind)) h).1

-- the rooms before one of a lawful house take it
pub next_taken : (n : ℕ) (m : Method) (before : List Room) (room : Room) (behind : List Room) → lawful n m (before ++ room ∷ behind) ≡ true → next_refusal m before room ≡ None
next_taken n m before room behind h =
    let laws = laws_of n m (before ++ room ∷ behind) h in
    let fit : room_fits room ≡ true = every_at room_fits before room behind laws.fit in
    let long = length-append before (room ∷ behind) in
    let few : length before < most_rooms = omega (arith, laws.few) in
    let above : last_number before < room.number = ascend_at 0 before room behind laws.ascend in
    let kind : takes m room.kind ≡ true = every_at (λ r. takes m r.kind) before room behind laws.taken in
    let all = sum_by-append (λ (r : Room). r.area) before (room ∷ behind) in
    let here = sum_by-cons (λ (r : Room). r.area) room behind in
    let areas : area_sum before + room.area + common_area m ≤ most_area = omega (arith, laws.areas) in
    grind (arith, nat_tests)

-- the line of a room that fits is read as that room
record Read (line : ℕ) (room : Room) : Type 0 where
  said : RoomLine
  is : said.room ≡ room
  read : follow (room_form line) 1 (room_line room) ≡ Ok said

room_small : (room : Room) → room_fits room ≡ true → (room.number < 1000000000) × (room.area < 1000000000) × (pipe_of room.kind < 1000000000)
room_small room fit = (grind (arith, nat_tests), grind (arith, nat_tests), grind (arith, nat_tests))

room_read : (line : ℕ) (room : Room) → room_fits room ≡ true → Read line room
room_read line room fit =
    let s = room_small room fit in
    let x : RoomSays line room.number room.area s.0 s.1 room.kind = room_says line room.number room.area s.0 s.1 room.kind s.2 in
    record { said = x.0; is = x.1; read = says_follow (room_form line) (room_sound line) 1 (room_line room) x.0 x.2 }

room_joined : (line : ℕ) (plan : Plan) (room : Room) → room_fits room ≡ true → room_refusal plan room ≡ None → joined line plan (follow (room_form line) 1 (room_line room)) ≡ Ok (with_room plan room)
room_joined line plan room fit none =
    let r = room_read line room fit in
    let x : RoomLine = r.said in
    ap (joined line plan) r.read
    ∙ ap (taken line plan x) (ap (room_refusal plan) r.is ∙ none)
    ∙ ap (λ (v : Room). Ok (with_room plan v)) r.is

abbrev plan_with : ℕ → Method → List Room → Plan
plan_with n m rooms = record { number = n; method = m; rooms = rooms }

rooms_back : (n : ℕ) (m : Method) (line : ℕ) (before behind : List Room) → lawful n m (before ++ behind) ≡ true → rooms_read line (plan_with n m before) (map room_line behind) ≡ Ok (plan_with n m (before ++ behind))
rooms_back n m line before [] h =
    let laws = laws_of n m (before ++ []) h in
    let long = length-append before [] in
    cond-false _ _ _ (ne_eqb (length before) 0 (λ e. omega (arith, laws.some))) ∙ ap (λ (v : List Room). Ok (plan_with n m v)) (sym (append-nil before))
rooms_back n m line before (room ∷ behind) h =
    let laws = laws_of n m (before ++ room ∷ behind) h in
    let fit : room_fits room ≡ true = every_at room_fits before room behind laws.fit in
    let same : (before ++ room ∷ []) ++ behind ≡ before ++ room ∷ behind = append_assoc before (room ∷ []) behind in
    let on = rooms_back n m (line + 1) (before ++ room ∷ []) behind (ap (lawful n m) same ∙ h) in
    ap (λ (r : Result Plan Fault). and_on r (λ more. rooms_read (line + 1) more (map room_line behind))) (room_joined line (plan_with n m before) room fit (next_taken n m before room behind h))
    ∙ on
    ∙ ap (λ (v : List Room). Ok (plan_with n m v)) same

-- the line of a house
method_small : (m : Method) → method_fits m ≡ true → method_figure m < 1000000000
method_small (Remainder area) fit = grind (arith, nat_tests)
method_small (Stated percent) fit = grind (arith, nat_tests)

number_small : (n : ℕ) → number_fits n ≡ true → n < 1000000000
number_small n fit = grind (arith, nat_tests)

headed_fits : (h : Heading) → number_fits h.number ≡ true → method_fits h.method ≡ true → headed (Ok h) ≡ Ok (bare h.number h.method)
headed_fits h p q = cond-false _ _ _ (not_from_true _ p) ∙ cond-false _ _ _ (not_from_true _ q)

house_headed : (n : ℕ) (m : Method) → number_fits n ≡ true → method_fits m ≡ true → headed (follow (house_form 1) 1 (house_line n m)) ≡ Ok (bare n m)
house_headed n m p q =
    let x = house_says n m (number_small n p) (method_small m q) in
    let h : Heading = x.0 in
    ap headed (says_follow (house_form 1) (house_sound 1) 1 (house_line n m) h x.3)
    ∙ headed_fits h (ap number_fits x.1 ∙ p) (ap method_fits x.2 ∙ q)
    ∙ (λ i. Ok (bare (x.1 i) (x.2 i)))

-- the lines of the paper
rooms_lines : (rooms : List Room) → every room_fits rooms ≡ true → lines (room_lines rooms) ≡ map room_line rooms
rooms_lines [] h = refl
rooms_lines (room ∷ rooms) h =
    let p = and_parts (room_fits room) (every room_fits rooms) h in
    let s = room_small room p.0 in
    lined_room room s.0 s.1 s.2 (room_lines rooms) ∙ ap (λ (v : List (List ℕ)). room_line room ∷ v) (rooms_lines rooms p.1)

pub paper_lines : (n : ℕ) (m : Method) (rooms : List Room) → lawful n m rooms ≡ true → lines (paper_text (record { number = n; method = m; rooms = rooms })) ≡ house_line n m ∷ map room_line rooms
paper_lines n m rooms h =
    let laws = laws_of n m rooms h in
    lined_house n m (number_small n laws.number_in) (method_small m laws.method_in) (room_lines rooms)
    ∙ ap (λ (v : List (List ℕ)). house_line n m ∷ v) (rooms_lines rooms laws.fit)

-- the paper of a lawful plan is read as that plan
pub lawful_accepted : (n : ℕ) (m : Method) (rooms : List Room) → lawful n m rooms ≡ true → reading (paper_text (record { number = n; method = m; rooms = rooms })) ≡ Ok (record { number = n; method = m; rooms = rooms })
lawful_accepted n m rooms h =
    let laws = laws_of n m rooms h in
    ap lines_read (paper_lines n m rooms h)
    ∙ ap (λ (r : Result Plan Fault). and_on r (λ plan. rooms_read 2 plan (map room_line rooms))) (house_headed n m laws.number_in laws.method_in)
    ∙ rooms_back n m 2 [] rooms h
