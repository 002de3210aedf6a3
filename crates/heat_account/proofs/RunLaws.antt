-- A list of calls, one after the other.
use Rattle.std.proofs.Common.{◌≡◌, ℕ, suc, ◌+◌, ◌<◌, List, [], ◌∷◌, ◌++◌, length, get_or, take, set, fold, Result, sym, refl, ap, ◌∙◌, arith}
use Rattle.std.proofs.lemmas.List.{take_more, length-take-le}
use Rattle.fault.specs.declared.refusal.Fault.{Fault}
use Rattle.sharing.specs.Rule.{Shares}
use Rattle.house.specs.Plan.{Plan}
use Rattle.heat_account.specs.declared.answer.Answer.{Answer}
use Rattle.heat_account.specs.declared.call.Call.{Call}
use Rattle.heat_account.specs.Judged.{answer}
use Rattle.heat_account.specs.Ledger.{Ledger, empty, figured, step, ledger_after, answers_from}
use Rattle.heat_account.specs.Carried.{overlaid}

-- one entry more over the front
overlaid_push : {X : Type 0} (xs ys : List X) (x : X) → overlaid (xs ++ x ∷ []) ys ≡ set (overlaid xs ys) (length xs) x
overlaid_push [] [] x = refl
overlaid_push [] (y ∷ ys) x = refl
overlaid_push (a ∷ xs) [] x = refl
overlaid_push (a ∷ xs) (y ∷ ys) x = ap (λ v. a ∷ v) (overlaid_push xs ys x)

pub overlaid_length : {X : Type 0} (xs ys : List X) → length (overlaid xs ys) ≡ length ys
overlaid_length [] ys = refl
overlaid_length (x ∷ xs) [] = refl
overlaid_length (x ∷ xs) (y ∷ ys) = ap suc (overlaid_length xs ys)

module _ (shares : Shares) (plan : Plan) where
  answers_length : (l : Ledger) (calls : List Call) → length (answers_from shares plan l calls) ≡ length calls
  answers_length l [] = refl
  answers_length l (call ∷ calls) = ap suc (answers_length (step shares plan l call) calls)

  answers_push : (l : Ledger) (calls : List Call) (call : Call) → answers_from shares plan l (calls ++ call ∷ []) ≡ answers_from shares plan l calls ++ answer plan (figured shares plan (fold (step shares plan) l calls)) call ∷ []
  answers_push l [] call = refl
  answers_push l (c ∷ calls) call = ap (λ v. answer plan (figured shares plan l) c ∷ v) (answers_push (step shares plan l c) calls call)

  -- the answers of the calls so far
  abbrev pub answered : List Call → List (Result Answer Fault)
  answered calls = answers_from shares plan (empty plan) calls

  module _ (calls : List Call) (i : ℕ) (d : Call) (h : i < length calls) (now old : List (Result Answer Fault)) (inv : now ≡ overlaid (answered (take i calls)) old) (a : Result Answer Fault) (is : a ≡ answer plan (figured shares plan (ledger_after shares plan (take i calls))) (get_or calls i d)) where
    pub answer_written : (next : List (Result Answer Fault)) → next ≡ set now i a → next ≡ overlaid (answered (take (i + 1) calls)) old
    answer_written next e = e ∙ sym written where
      written : overlaid (answered (take (i + 1) calls)) old ≡ set now i a
      written =
          ap (λ v. overlaid (answered v) old) (take_more calls i d h)
          ∙ ap (λ v. overlaid v old) (answers_push (empty plan) (take i calls) (get_or calls i d))
          ∙ overlaid_push (answered (take i calls)) old _
          ∙ ap (λ v. set v (length (answered (take i calls))) (answer plan (figured shares plan (ledger_after shares plan (take i calls))) (get_or calls i d))) (sym inv)
          ∙ ap (λ v. set now v (answer plan (figured shares plan (ledger_after shares plan (take i calls))) (get_or calls i d))) (answers_length (empty plan) (take i calls) ∙ length-take-le i calls (omega arith))
          ∙ ap (set now i) (sym is)
