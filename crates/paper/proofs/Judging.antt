-- A room line against the house so far.
use Rattle.std.proofs.Common.{◌≡◌, ℕ, Bool, true, not, ◌&&◌, Some, None, Ok, Err, IsErrAnd, MatchResult, Option, Result, sym, ap, ◌∙◌, ◌<◌, [], ◌∷◌, length, arith, length-append}
use Rattle.std.proofs.lemmas.Result.{err_from_is_err_and}
use Rattle.std.proofs.lemmas.Bool.{cond-false}
use Rattle.fault.specs.Numbers.{fault_of}
use Rattle.fault.specs.declared.reason.Reason.{Reason}
use Rattle.fault.specs.declared.refusal.Fault.{Fault}
use Rattle.forms.specs.declared.misread.Misread.{Misread}
use Rattle.forms.specs.Place.{on_line}
use Rattle.house.specs.declared.method.Method.{Method}
use Rattle.house.specs.declared.room.Room.{Room}
use Rattle.house.specs.Plan.{Plan, answer, settled, with_room, bare, begin_refusal, room_refusal, number_fits, method_fits, house_fault}
use Rattle.paper.specs.declared.room_line.RoomLine.{RoomLine}
use Rattle.paper.specs.Reading.{taken, joined, fault_at, placed}

pub said_line : {X : Type 0} (line : ℕ) (x : X) (r : Result X ℕ) → Ok x ≡ on_line line r → r ≡ Ok x
said_line {X} line x (Ok y) h = ap Ok (sym (same h)) where
  same : ◌≡◌ {A = Result X Misread} (Ok x) (Ok y) → x ≡ y
  same h = cc
said_line {X} line x (Err column) h = absurd (not_ok h) where
  not_ok : {e : Misread} → ◌≡◌ {A = Result X Misread} (Ok x) (Err e) → ⊥
  not_ok h = cc

ok_is_err : {X : Type 0} {x : X} {f : Fault} → ◌≡◌ {A = Result X Fault} (Ok x) (Err f) → ⊥
ok_is_err h = cc

-- what the house answers, with the place in the line
module _ (Placed : Fault → Fault → Type 0) (line : ℕ) (plan new old : Plan) (r : RoomLine) (told : Result (Unit {0}) Fault) (where_at : (e f : Fault) → Placed e f → f ≡ fault_of e.reason (fault_at line r e.reason)) where
  by_case : (o : Option Reason) (given : Result (Unit {0}) Fault) → answer o r.room ≡ given → MatchResult given (λ x. told ≡ Ok x) (λ e. IsErrAnd told (Placed e)) → new ≡ settled o (with_room plan r.room) old → placed told new ≡ taken line plan r o
  by_case None (Ok u) is same after = ap (λ (v : Result (Unit {0}) Fault). placed v new) same ∙ ap Ok after
  by_case None (Err e) is same after = absurd (ok_is_err is)
  by_case (Some reason) (Ok u) is same after = absurd (ok_is_err (sym is))
  by_case (Some reason) (Err e) is same after =
      let given : house_fault reason r.room ≡ e = cc in
      let why : e.reason ≡ reason = sym (ap (λ (f : Fault). f.reason) given) in
      let p = err_from_is_err_and told same in
      ap (λ (v : Result (Unit {0}) Fault). placed v new) p.1 ∙ ap Err (where_at e p.0 p.2 ∙ ap (λ (v : Reason). fault_of v (fault_at line r v)) why)

  pub judged : (o : Option Reason) (given : Result (Unit {0}) Fault) → given ≡ answer o r.room → MatchResult given (λ x. told ≡ Ok x) (λ e. IsErrAnd told (Placed e)) → new ≡ settled o (with_room plan r.room) old → placed told new ≡ taken line plan r o
  judged o given is same after = by_case o given (sym is) same after

both_true : (a b : Bool) → a ≡ true → b ≡ true → (a && b) ≡ true
both_true a b p q = ap (λ (v : Bool). v && b) p ∙ q

-- with its own numbers in their ranges, a house is begun as one with no room takes its first
pub begun : (n : ℕ) (m : Method) (room : Room) → number_fits n ≡ true → method_fits m ≡ true → begin_refusal n m room ≡ room_refusal (bare n m) room
begun n m room p q = cond-false _ _ _ (ap not (both_true _ _ p q))

-- a house that has taken a line has a room
taken_some : (line : ℕ) (plan next : Plan) (r : RoomLine) (o : Option Reason) → Ok next ≡ taken line plan r o → 0 < length next.rooms
taken_some line plan next r None is =
    let same : next ≡ with_room plan r.room = cc in
    omega (arith, ap (λ (p : Plan). length p.rooms) same, length-append plan.rooms (r.room ∷ []))
taken_some line plan next r (Some reason) is = absurd (ok_is_err is)

pub joined_some : (line : ℕ) (plan next : Plan) (said : Result RoomLine ℕ) → Ok next ≡ joined line plan said → 0 < length next.rooms
joined_some line plan next (Ok r) is = taken_some line plan next r (room_refusal plan r.room) is
joined_some line plan next (Err column) is = absurd (ok_is_err is)
