-- An account and its ledger over the calls of an event.
use Rattle.std.proofs.Common.{◌≡◌, true, List, [], ◌∷◌, ◌++◌, Some, None, fold, Option, sym, refl, ◌∙◌, subst, append_assoc, append-nil}
use Rattle.sharing.specs.Rule.{Shares, Fair}
use Rattle.house.specs.Plan.{Plan, lawful}
use Rattle.heat_account.specs.declared.call.Call.{Call}
use Rattle.heat_account.specs.State.{State}
use Rattle.heat_account.specs.Judged.{after}
use Rattle.heat_account.specs.Ledger.{Stands}
use Rattle.heat_account.specs.Carried.{Goes}
use Rattle.heat_account.proofs.LedgerLaws.{stands_after}
use Rattle.heat_account.proofs.Carrying.{goes_along}
use Rattle.events.specs.declared.event.Event.{Event}
use Rattle.listing.specs.Performed.{line_calls, line_after}

-- several calls more at the end of a list
pub stands_through : (shares : Shares) (plan : Plan) (s s' : State) (calls more : List Call) → Stands shares plan s calls → s' ≡ fold (after shares plan) s more → Stands shares plan s' (calls ++ more)
stands_through shares plan s s' calls [] at e = subst (Stands shares plan s') (sym (append-nil calls)) (e ∙ at)
stands_through shares plan s s' calls (call ∷ more) at e =
    subst (Stands shares plan s') (append_assoc calls (call ∷ []) more)
    (stands_through shares plan (after shares plan s call) s' (calls ++ call ∷ []) more (stands_after shares plan s (after shares plan s call) calls call at refl) e)

line_folded : (shares : Shares) (plan : Plan) (s : State) (event : Option Event) → line_after shares plan s event ≡ fold (after shares plan) s (line_calls plan s event)
line_folded shares plan s None = refl
line_folded shares plan s (Some event) = refl

pub line_goes : (shares : Shares) (fair : Fair shares) (plan : Plan) (law : lawful plan.number plan.method plan.rooms ≡ true) (s s' : State) (event : Option Event) → s' ≡ line_after shares plan s event → (calls : List Call) → Stands shares plan s calls → Goes shares plan s' (calls ++ line_calls plan s event)
line_goes shares fair plan law s s' event e calls at =
    goes_along shares fair plan law s' (calls ++ line_calls plan s event)
    (stands_through shares plan s s' calls (line_calls plan s event) at (e ∙ line_folded shares plan s event))
