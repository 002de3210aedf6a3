-- The changes of a correction: place by place, and what they do to the balances.
use Rattle.std.proofs.Common.{◌≡◌, ℕ, zero, suc, ◌-◌, true, List, [], ◌∷◌, map, length, get_or, ℤ, pos, ◌+ℤ◌, ◌-ℤ◌, Some, None, fold, sum_by, Option, sym, refl, ap, ◌∙◌, arith}
use Rattle.std.specs.List.{AllByRecursion}
use Rattle.std.proofs.lemmas.Int.{ints}
use Rattle.std.proofs.lemmas.List.Sums.{sum_by-cons}
use Rattle.sharing.specs.Rule.{Shares, Fair}
use Rattle.house.specs.Plan.{Plan, lawful}
use Rattle.billing.specs.Period.{figures}
use Rattle.billing.proofs.Beside.{beside_length}
use Rattle.billing.proofs.HouseLaws.{lawful_counted}
use Rattle.heat_account.specs.declared.stage.Stage.{Stage}
use Rattle.heat_account.specs.declared.stage.Stage.TheVariants.{Taking, Correcting}
use Rattle.heat_account.specs.State.{Period, State, period_bills, reread, unbilled, corrected}
use Rattle.heat_account.specs.Pairs.{Made}
use Rattle.heat_account.specs.Kept.{stands}
use Rattle.heat_account.specs.Ledger.{Correction, latest_bills, figured, ledger_after}
use Rattle.heat_account.specs.Changes.{change, each_change, changes, Moves, Evens}
use Rattle.heat_account.proofs.Balances.{Workable, laws_of, bills_length}
use Rattle.heat_account.proofs.Entries.{billed_at, unbilled_at}
use Rattle.heat_account.specs.Kept.{Holds}
use Rattle.heat_account.proofs.KeptLaws.{bills_long, clear_facts}
use Rattle.heat_account.proofs.LedgerLaws.{Correctable, sound_after}

pub length_each_change : (olds news : List (ℕ × ℕ)) → length news ≡ length olds → length (each_change olds news) ≡ length olds
length_each_change [] news e = refl
length_each_change (old ∷ olds) [] e = absurd (omega arith)
length_each_change (old ∷ olds) (new ∷ news) e = ap suc (length_each_change olds news (omega arith))

pub each_change_at : (olds news : List (ℕ × ℕ)) (k : ℕ) → length news ≡ length olds → get_or (each_change olds news) k (pos 0) ≡ change (get_or olds k (0, 0)) (get_or news k (0, 0))
each_change_at [] [] k e = refl
each_change_at [] (new ∷ news) k e = absurd (omega arith)
each_change_at (old ∷ olds) [] k e = absurd (omega arith)
each_change_at (old ∷ olds) (new ∷ news) zero e = refl
each_change_at (old ∷ olds) (new ∷ news) (suc k) e = each_change_at olds news k (omega arith)

pub made_changes : (olds news : List (ℕ × ℕ)) (zs : List ℤ) → length news ≡ length olds → Made (λ old new z. z ≡ change old new) olds news zs → zs ≡ each_change olds news
made_changes [] news [] e m = refl
made_changes [] news (z ∷ zs) e m = absurd m
made_changes (old ∷ olds) [] zs e m = absurd (omega arith)
made_changes (old ∷ olds) (new ∷ news) [] e m = absurd m
made_changes (old ∷ olds) (new ∷ news) (z ∷ zs) e (h, m) = let r = made_changes olds news zs (omega arith) m in cc

all_changes : (z : ℤ) (olds news : List (ℕ × ℕ)) → length news ≡ length olds → fold ◌+ℤ◌ z (each_change olds news) ≡ z +ℤ (pos (sum_by figures news) -ℤ pos (sum_by figures olds))
all_changes z [] [] e = omega (arith, ints)
all_changes z [] (new ∷ news) e = absurd (omega arith)
all_changes z (old ∷ olds) [] e = absurd (omega arith)
all_changes z (old ∷ olds) (new ∷ news) e =
    let rest = all_changes (z +ℤ change old new) olds news (omega arith) in
    let a = sum_by-cons figures old olds in
    let b = sum_by-cons figures new news in
    rest ∙ omega (arith, ints)

-- bills of the same total: the changes add up to nothing
even_changes : (olds news : List (ℕ × ℕ)) → length news ≡ length olds → sum_by figures news ≡ sum_by figures olds → fold ◌+ℤ◌ (pos 0) (each_change olds news) ≡ pos 0
even_changes olds news long same = all_changes (pos 0) olds news long ∙ omega (arith, ints)

module _ (shares : Shares) (fair : Fair shares) (plan : Plan) (law : lawful plan.number plan.method plan.rooms ≡ true) where
  -- booking moves each balance by its room's change
  pub moves : (s : State) → Holds plan s → Moves shares plan s
  moves s h = at_stage s.stage h.clear where
    at_stage : (stage : Stage) → stands plan s.last s.closed stage ≡ true → (k : ℕ) → pos (get_or (corrected shares plan s stage).balances k 0) ≡ pos (get_or s.balances k 0) +ℤ get_or (each_change s.bills (corrected shares plan s stage).bills) k (pos 0)
    at_stage Taking e k = let here = each_change_at s.bills s.bills k refl in omega (arith, ints)
    at_stage (Correcting place reading) e k =
        let p = reread s.last place reading in
        let new = period_bills shares plan p in
        let long = bills_long shares fair plan law p (clear_facts plan s.last s.closed place reading e).2 new refl in
        let here = each_change_at s.bills new k (long ∙ sym h.long.2) in
        let out = unbilled_at s.balances s.bills k in
        let in_place = billed_at (unbilled s.balances s.bills) new k (long ∙ sym (beside_length ◌-◌ s.balances (map figures s.bills) ∙ h.long.3)) in
        let covered = (h.bounded k).0 in
        omega (arith, ints)

  -- the changes of what a ledger holds add up to nothing
  even_ledger : (readings : List (Option ℕ)) (ps : List Period) (o : Option Correction) → AllByRecursion (Workable plan) ps → Correctable plan ps o → fold ◌+ℤ◌ (pos 0) (changes shares plan (figured shares plan (record { readings = readings; closed = ps; correction = o }))) ≡ pos 0
  even_ledger readings ps None w c = let bs = latest_bills shares plan ps in even_changes bs bs refl refl
  even_ledger readings [] (Some c) w (n, some, u) = absurd (omega arith)
  even_ledger readings (p ∷ ps) (Some c) (w, ws) (n, some, u) =
      let lawful = lawful_counted plan law in
      let new = reread p c.place c.reading in
      even_changes (period_bills shares plan p) (period_bills shares plan new) (bills_length shares fair plan lawful new u ∙ sym (bills_length shares fair plan lawful p w)) ((laws_of shares fair plan lawful new u).closes ∙ sym (laws_of shares fair plan lawful p w).closes)

  pub evens : (s : State) → Evens shares plan s
  evens s calls at =
      let l = ledger_after shares plan calls in
      let sound = sound_after shares plan calls in
      ap (λ (v : State). fold ◌+ℤ◌ (pos 0) (changes shares plan v)) at ∙ even_ledger l.readings l.closed l.correction sound.periods sound.correction
