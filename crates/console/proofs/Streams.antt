-- What is written so far and what is still to come, and that the front of an input that is too long tells all.
use Rattle.std.proofs.Common.{◌≡◌, ℕ, ◌<◌, ◌≤◌, List, [], ◌++◌, length, take, codes, Some, None, Ok, Err, IfSome, OnOk, ◌⊎◌, inl, inr, Option, Result, sym, ap, ◌∙◌, subst, append_assoc, arith, length-take}
use Rattle.std.proofs.lemmas.List.{take_all}
use Rattle.std.proofs.lemmas.Bool.{cases_lt, cond-true, lt-ltb}
use Rattle.std.specs.Io.KnownBytes.{Appends}
use Rattle.std.specs.Io.Take.{take_limit, take_inner, take_remaining}
use Rattle.std.specs.declared.io.traits.Take.{Take}
use Rattle.std.specs.Option.{option_map}
use Rattle.fault.specs.Numbers.{fault_of}
use Rattle.fault.specs.declared.place.Place.TheVariants.{Nowhere}
use Rattle.fault.specs.declared.reason.Reason.TheVariants.{InputTooLong}
use Rattle.fault.specs.declared.refusal.Fault.{Fault}
use Rattle.sharing.specs.Remainders.{remainders}
use Rattle.house.specs.Plan.{Plan}
use Rattle.input.specs.Parts.{event_part, too_long}
use Rattle.heat_account.specs.State.{State, no_state}
use Rattle.console.specs.Opened.{house_in, opening_text}
use Rattle.console.specs.Season.{event_lines, events_text, kept_text, season_text}

pub appends_more : (a b c : Option (List ℕ)) (xs ys : List ℕ) → Appends a b xs → Appends b c ys → Appends a c (xs ++ ys)
appends_more None b c xs ys first second = tt
appends_more (Some old) None c xs ys first second = absurd first
appends_more (Some old) (Some mid) None xs ys first second = absurd second
appends_more (Some old) (Some mid) (Some new) xs ys first second = let regroup = append_assoc old xs ys in cc

-- the bytes that a limited reader gave
front_by : (limit : ℕ) (old new : List ℕ) → old ≡ [] → (known : Option (List ℕ)) → IfSome (option_map (take limit) known) (λ xs. new ≡ old ++ xs) → IfSome known (λ bytes. new ≡ take limit bytes)
front_by limit old new none None read = read
front_by limit old new none (Some bytes) read = read ∙ ap (λ v. v ++ take limit bytes) none

pub front_read : {R : Type 0} (remaining : R → Option (List ℕ)) (limited : Take R) (reader : R) (limit : ℕ) (old new : List ℕ) → take_limit limited ≡ limit → take_inner limited ≡ reader → old ≡ [] → IfSome (take_remaining remaining limited) (λ xs. new ≡ old ++ xs) → IfSome (remaining reader) (λ bytes. new ≡ take limit bytes)
front_read {R} remaining limited reader limit old new small inner none read =
    subst (λ (r : R). IfSome (remaining r) (λ bytes. new ≡ take limit bytes)) inner
    (front_by limit old new none (remaining limited.inner) (subst (λ (n : ℕ). IfSome (option_map (take n) (remaining limited.inner)) (λ xs. new ≡ old ++ xs)) small read))

-- what stands before the first event, and what the events bring
pub season_kept : (a b c : Option (List ℕ)) (house : Result Plan Fault) (input : List ℕ) → house ≡ house_in input → Appends a b (opening_text (codes "remainders") house) → Appends b c (kept_text house (event_lines (event_part input))) → Appends a c (season_text input)
season_kept a b c house input is opened kept =
    subst (λ (h : Result Plan Fault). Appends a c (opening_text (codes "remainders") h ++ kept_text h (event_lines (event_part input)))) is (appends_more a b c _ _ opened kept)

-- the same, as the account tells it that is opened with the house
pub house_kept : (a b c : Option (List ℕ)) (plan plan' : Plan) (s : State) (input title opening events : List ℕ) → Ok plan ≡ house_in input → opening ≡ opening_text title (Ok plan) → title ≡ codes "remainders" → plan' ≡ plan → s ≡ no_state (length plan.rooms) → events ≡ event_part input → Appends a b opening → Appends b c (events_text remainders plan' s (event_lines events)) → Appends a c (season_text input)
house_kept a b c plan plan' s input title opening events house told named same first part opened kept =
    season_kept a b c (Ok plan) input house
    (subst (Appends a b) (told ∙ ap (λ v. opening_text v (Ok plan)) named) opened)
    (subst (Appends b c) (λ i. events_text remainders (same i) (first i) (event_lines (part i))) kept)

refused_text : (input : List ℕ) (fault : Fault) → house_in input ≡ Err fault → season_text input ≡ opening_text (codes "remainders") (Err fault) ++ []
refused_text input fault is = ap (λ (h : Result Plan Fault). opening_text (codes "remainders") h ++ kept_text h (event_lines (event_part input))) is

long_refused : (input : List ℕ) → 65536 < length input → house_in input ≡ Err (fault_of InputTooLong Nowhere)
long_refused input long = cond-true (too_long input) _ _ (lt-ltb 65536 (length input) long)

-- an input that is too long is told from its front
pub season_front : (input : List ℕ) → season_text (take 65537 input) ≡ season_text input
season_front input = by_length (cases_lt 65536 (length input)) where
  by_length : (65536 < length input) ⊎ (length input ≤ 65536) → season_text (take 65537 input) ≡ season_text input
  by_length (inl long) =
      refused_text (take 65537 input) _ (long_refused (take 65537 input) (omega (arith, length-take 65537 input)))
      ∙ sym (refused_text input _ (long_refused input long))
  by_length (inr short) = ap season_text (take_all 65537 input (omega arith))

-- the text of a whole input, where its front was read
pub front_kept : (a b : Option (List ℕ)) (front items : List ℕ) (known : Option (List ℕ)) → IfSome known (λ bytes. items ≡ take 65537 bytes) → front ≡ items → Appends a b (season_text front) → IfSome known (λ bytes. Appends a b (season_text bytes))
front_kept a b front items None read same kept = tt
front_kept a b front items (Some bytes) read same kept = subst (Appends a b) (ap season_text (same ∙ read) ∙ season_front bytes) kept

pub on_ok : {T E : Type 0} (r : Result T E) (P Q : Type 0) → (P → Q) → OnOk r P → OnOk r Q
on_ok (Ok x) P Q then h = then h
on_ok (Err e) P Q then h = h
