-- The ledger: what every call keeps, and that an account goes with it.
use Rattle.std.proofs.Common.{◌≡◌, ℕ, suc, ◌<◌, ◌≤◌, Bool, true, false, cond, not, eqb, List, [], ◌∷◌, ◌++◌, length, replicate, Some, None, Ok, Err, fold, Option, Result, sym, refl, ap, ◌∙◌, subst, add-one, arith}
use Rattle.std.specs.List.{AllByRecursion}
use Rattle.std.proofs.lemmas.List.Sums.{fold_push}
use Rattle.std.proofs.lemmas.Bool.{eq-eqb, and_parts, not-false, cond-false, or_from, le-ltb, eqb-false}
use Rattle.fault.specs.declared.reason.Reason.{Reason}
use Rattle.sharing.specs.Rule.{Shares}
use Rattle.house.specs.Plan.{Plan}
use Rattle.house.specs.declared.method.Method.{Method}
use Rattle.billing.specs.declared.counting.CountedRoom.{CountedRoom}
use Rattle.billing.specs.Counting.{counted}
use Rattle.billing.specs.Period.{refusal, unworkable, given}
use Rattle.billing.specs.Worked.{ruled}
use Rattle.heat_account.specs.declared.stage.Stage.TheVariants.{Taking}
use Rattle.heat_account.specs.declared.call.Call.{Call}
use Rattle.heat_account.specs.declared.call.Call.TheVariants.{Read, Close, Correct, Book, Withdraw, Bill, Balance}
use Rattle.heat_account.specs.State.{Period, State, period_bills, reread, moved_on, corrected, with_amended}
use Rattle.heat_account.specs.Judged.{unless, and_then, correcting, unamendable, fits, meter_of, judged, by, after}
use Rattle.heat_account.specs.Ledger.{Correction, Ledger, empty, latest, amended, booked, noted, balances, stage_of, figured, step, ledger_after, Stands}
use Rattle.billing.proofs.HouseLaws.{refusal_workable}
use Rattle.heat_account.proofs.Balances.{Workable, rebilled_billed}

-- a correction is of the period last closed, which can be worked out again with it
abbrev pub Correctable : Plan → List Period → Option Correction → Type 0
Correctable plan ps None = Unit {0}
Correctable plan ps (Some c) = (c.period ≡ length ps) × (0 < length ps) × (unamendable plan (latest plan ps) c.place c.reading ≡ None)

pub record Sound (plan : Plan) (l : Ledger) : Type 0 where
  pub periods : AllByRecursion (Workable plan) l.closed
  pub correction : Correctable plan l.closed l.correction

pub sound_empty : (plan : Plan) → Sound plan (empty plan)
sound_empty plan = record { periods = tt; correction = tt }

-- what an accepted call was judged by
pub unless_ok : {X : Type 0} (b : Bool) (reason : Reason) (r : Result X Reason) (x : X) → unless b reason r ≡ Ok x → (b ≡ false) × (r ≡ Ok x)
unless_ok true reason r x e = let z : ◌≡◌ {A = ℕ} 0 1 = cc in absurd (omega arith)
unless_ok false reason r x e = (refl, e)

pub ruled_ok : {X : Type 0} (o : Option Reason) (x y : X) → Ok y ≡ ruled o x → (o ≡ None) × (y ≡ x)
ruled_ok None x y e = (refl, cc)
ruled_ok (Some reason) x y e = let z : ◌≡◌ {A = ℕ} 0 1 = cc in absurd (omega arith)

some_closed : (n : ℕ) → eqb n 0 ≡ false → 0 < n
some_closed n e = omega (arith, eqb-false n 0 e)

not_correcting : (o : Option Correction) → correcting (stage_of o) ≡ false → o ≡ None
not_correcting None e = refl
not_correcting (Some c) e = let z : ◌≡◌ {A = ℕ} 0 1 = cc in absurd (omega arith)

pub workable_refusal : (plan : Plan) (p : Period) → refusal plan.method (counted plan.rooms p.readings) p.total p.common ≡ None → Workable plan p
workable_refusal plan p e = refusal_workable plan.method (counted plan.rooms p.readings) p.total p.common e

-- figures within their limit: what is left of the refusals
pub small_refusal : (method : Method) (rooms : List CountedRoom) (total : ℕ) (q : Option ℕ) → total ≤ 100000000 → given q ≤ 100000000 → refusal method rooms total q ≡ unworkable method rooms total q
small_refusal method rooms total q a b = cond-false _ _ _ (or_from _ _ (le-ltb 100000000 total a) (le-ltb 100000000 (given q) b))

pub and_then_ok : (r : Result ℕ Reason) (f : ℕ → Result ℕ Reason) (x : ℕ) → and_then r f ≡ Ok x → (y : ℕ) × (f y ≡ Ok x)
and_then_ok (Ok y) f x e = (y, e)
and_then_ok (Err reason) f x e = let z : ◌≡◌ {A = ℕ} 0 1 = cc in absurd (omega arith)

by_is : {X : Type 0} (P : X → Type 0) (r : Result ℕ Reason) (f : ℕ → X) (old : X) → ((i : ℕ) → r ≡ Ok i → P (f i)) → P old → P (by r f (λ _. old))
by_is P (Ok i) f old h k = h i refl
by_is P (Err reason) f old h k = k

amended_latest : (plan : Plan) (ps : List Period) (n i m : ℕ) → n ≡ length ps → AllByRecursion (Workable plan) ps → unamendable plan (latest plan ps) i m ≡ None → AllByRecursion (Workable plan) (amended n i m ps)
amended_latest plan [] n i m e w u = tt
amended_latest plan (p ∷ ps) n i m e (w, ws) u =
    subst (λ (b : Bool). AllByRecursion (Workable plan) (cond b (reread p i m ∷ ps) (p ∷ amended n i m ps))) (sym (eq-eqb n (suc (length ps)) e)) (u, ws)

booked_workable : (plan : Plan) (ps : List Period) (o : Option Correction) → AllByRecursion (Workable plan) ps → Correctable plan ps o → AllByRecursion (Workable plan) (booked o ps)
booked_workable plan ps None w c = w
booked_workable plan ps (Some c) w (n, some, u) = amended_latest plan ps c.period c.place c.reading n w u

module _ (shares : Shares) (plan : Plan) where
  noted_sound : (l : Ledger) (call : Call) (i : ℕ) → judged plan (figured shares plan l) call ≡ Ok i → Sound plan l → Sound plan (noted l call i)
  noted_sound l (Read room m) i e s = record { periods = s.periods; correction = s.correction }
  noted_sound l (Close v q) i e s =
      let a = unless_ok _ _ _ i e in
      let b = unless_ok _ _ _ i a.1 in
      let p : Period = record { readings = l.readings; total = v; common = q } in
      let none = not_correcting l.correction a.0 in
      record { periods = (workable_refusal plan p (ruled_ok _ 0 i (sym b.1)).0, s.periods); correction = subst (Correctable plan (p ∷ l.closed)) (sym none) tt }
  noted_sound l (Correct room m) i e s =
      let a = unless_ok _ _ _ i e in
      let b = unless_ok (eqb (length l.closed) 0) _ _ i a.1 in
      let c = and_then_ok (meter_of plan room m) _ i b.1 in
      let d = ruled_ok (unamendable plan (latest plan l.closed) c.0 m) c.0 i (sym c.1) in
      let some = some_closed (length l.closed) b.0 in
      record { periods = s.periods; correction = (refl, some, subst (λ (v : ℕ). unamendable plan (latest plan l.closed) v m ≡ None) (sym d.1) d.0) }
  noted_sound l (Book h p) i e s = record { periods = booked_workable plan l.closed l.correction s.periods s.correction; correction = tt }
  noted_sound l (Withdraw h p) i e s = record { periods = s.periods; correction = tt }
  noted_sound l (Bill room) i e s = s
  noted_sound l (Balance room) i e s = s

  pub sound_step : (l : Ledger) (call : Call) → Sound plan l → Sound plan (step shares plan l call)
  sound_step l call s = by_is (Sound plan) (judged plan (figured shares plan l) call) (noted l call) l (λ i e. noted_sound l call i e s) s

  sound_from : (l : Ledger) (calls : List Call) → Sound plan l → Sound plan (fold (step shares plan) l calls)
  sound_from l [] s = s
  sound_from l (call ∷ calls) s = sound_from (step shares plan l call) calls (sound_step l call s)

  pub sound_after : (calls : List Call) → Sound plan (ledger_after shares plan calls)
  sound_after calls = sound_from (empty plan) calls (sound_empty plan)

  -- what the account makes of an accepted call goes with what the ledger makes of it
  booked_figures : (readings : List (Option ℕ)) (ps : List Period) (c : Correction) → c.period ≡ length ps → 0 < length ps → figured shares plan (record { readings = readings; closed = amended c.period c.place c.reading ps; correction = None }) ≡ with_amended (figured shares plan (record { readings = readings; closed = ps; correction = Some c })) (reread (latest plan ps) c.place c.reading) (period_bills shares plan (reread (latest plan ps) c.place c.reading))
  booked_figures readings [] c e some = absurd (omega arith)
  booked_figures readings (p ∷ ps) c e some =
      let new = reread p c.place c.reading in
      let state : List ℕ → State = λ v. record { readings = readings; last = new; bills = period_bills shares plan new; balances = v; closed = suc (length ps); stage = Taking } in
      ap (λ (b : Bool). figured shares plan (record { readings = readings; closed = cond b (new ∷ ps) (p ∷ amended c.period c.place c.reading ps); correction = None })) (eq-eqb c.period (suc (length ps)) e)
      ∙ ap state (sym (rebilled_billed (balances shares plan ps) (period_bills shares plan p) (period_bills shares plan new)))

  book_figures : (readings : List (Option ℕ)) (ps : List Period) (o : Option Correction) → correcting (stage_of o) ≡ true → Correctable plan ps o → figured shares plan (record { readings = readings; closed = booked o ps; correction = None }) ≡ corrected shares plan (figured shares plan (record { readings = readings; closed = ps; correction = o })) (stage_of o)
  book_figures readings ps None e c = let z : ◌≡◌ {A = ℕ} 0 1 = cc in absurd (omega arith)
  book_figures readings ps (Some c) e (n, some, u) = booked_figures readings ps c n some

  noted_figures : (l : Ledger) (call : Call) (i : ℕ) → judged plan (figured shares plan l) call ≡ Ok i → Sound plan l → figured shares plan (noted l call i) ≡ moved_on shares plan (figured shares plan l) call i
  noted_figures l (Read room m) i e s = refl
  noted_figures l (Close v q) i e s =
      let p : Period = record { readings = l.readings; total = v; common = q } in
      let state : ℕ → State = λ n. record { readings = replicate (length l.readings) None; last = p; bills = period_bills shares plan p; balances = balances shares plan (p ∷ l.closed); closed = n; stage = stage_of l.correction } in
      ap state (sym (add-one (length l.closed)))
  noted_figures l (Correct room m) i e s = refl
  noted_figures l (Book h p) i e s =
      let open-here = (unless_ok (not (fits plan (figured shares plan l) h p)) _ _ i e).0 in
      book_figures l.readings l.closed l.correction (and_parts (correcting (stage_of l.correction)) _ (not-false _ open-here)).0 s.correction
  noted_figures l (Withdraw h p) i e s = refl
  noted_figures l (Bill room) i e s = refl
  noted_figures l (Balance room) i e s = refl

  by_same : {X Y : Type 0} (f : X → Y) (r : Result ℕ Reason) (g : ℕ → X) (h : ℕ → Y) (old : X) → ((i : ℕ) → r ≡ Ok i → f (g i) ≡ h i) → f (by r g (λ _. old)) ≡ by r h (λ _. f old)
  by_same f (Ok i) g h old e = e i refl
  by_same f (Err reason) g h old e = refl

  -- an account that goes with the ledger goes with it after each call
  pub figured_step : (l : Ledger) (call : Call) → Sound plan l → figured shares plan (step shares plan l call) ≡ after shares plan (figured shares plan l) call
  figured_step l call s = by_same (figured shares plan) (judged plan (figured shares plan l) call) (noted l call) (moved_on shares plan (figured shares plan l) call) l (λ i e. noted_figures l call i e s)

  -- one call more at the end of a list
  pub stands_after : (s s' : State) (calls : List Call) (call : Call) → Stands shares plan s calls → s' ≡ after shares plan s call → Stands shares plan s' (calls ++ call ∷ [])
  stands_after s s' calls call at e =
      e ∙ ap (λ (v : State). after shares plan v call) at ∙ sym (figured_step (ledger_after shares plan calls) call (sound_after calls)) ∙ ap (figured shares plan) (sym (fold_push (step shares plan) (empty plan) calls call))
