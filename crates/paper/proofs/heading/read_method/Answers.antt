use Rattle.std.proofs.Common.{◌≡◌, ◌<◌, length, get_or, Ok, Err, sym, ap, ◌∙◌, arith, ltb-false, ltb-true}
use Rattle.house.specs.declared.method.Method.TheVariants.{Remainder, Stated}
use Rattle.forms.specs.Place.{mark_of}
use Rattle.paper.specs.Items.{mapped}
use Rattle.paper.proofs.Tails.{mapped_exit, leads_by, leads_not, remainder_says, stated_says, no_method}
use Rattle.paper.proofs.heading.read_method.Goals as goal
use Rattle.paper.proofs.heading.read_method.Goals.{in_default-via-then-rest-lt1, in_default-via-else-rest-lt1+in_default-1}

pub returns-in_err-area-in-114 : goal.returns-in_err-area-in-114
returns-in_err-area-in-114 c =
    let leads = leads_by c.args.cursor c.rest.result.now 114 c.rest.ensures (omega arith) (omega arith) in
    mapped_exit _ _ _ c.from_residual.ensures.1 ∙ sym (remainder_says c.args.cursor leads ∙ sym (ap (mapped _) c.in_err-area-in-114.ensures))

pub returns-in_err-percent-in-115 : goal.returns-in_err-percent-in-115
returns-in_err-percent-in-115 c =
    let leads = leads_by c.args.cursor c.rest.result.now 115 c.rest.ensures (omega arith) (omega arith) in
    mapped_exit _ _ _ c.from_residual-in_err-percent-in-115.ensures.1 ∙ sym (stated_says c.args.cursor leads ∙ sym (ap (mapped _) c.in_err-percent-in-115.ensures))

pub returns-in_ok-area-in-114 : goal.returns-in_ok-area-in-114
returns-in_ok-area-in-114 c =
    let leads = leads_by c.args.cursor c.rest.result.now 114 c.rest.ensures (omega arith) (omega arith) in
    ap (λ n. Ok (Remainder n, mark_of c.in_ok-area-in-114.area)) c.value-common_area.ensures ∙ sym (remainder_says c.args.cursor leads ∙ sym (ap (mapped _) c.in_ok-area-in-114.ensures))

pub returns-in_ok-percent-in-115 : goal.returns-in_ok-percent-in-115
returns-in_ok-percent-in-115 c =
    let leads = leads_by c.args.cursor c.rest.result.now 115 c.rest.ensures (omega arith) (omega arith) in
    ap (λ n. Ok (Stated n, mark_of c.in_ok-percent-in-115.percent)) c.value-floor_percent.ensures ∙ sym (stated_says c.args.cursor leads ∙ sym (ap (mapped _) c.in_ok-percent-in-115.ensures))

pub returns-in_default : goal.returns-in_default
returns-in_default c =
    let s = c.args.cursor in
    let rest = c.rest.result.now in
    let off : (0 < length rest → get_or rest 0 0 ≡ 114 → ⊥) × (0 < length rest → get_or rest 0 0 ≡ 115 → ⊥) = elim c.in_default.branch [
      | in_default-via-then-rest-lt1 w ↦ (λ l e. absurd (omega (arith, ltb-true, ltb-false)), λ l e. absurd (omega (arith, ltb-true, ltb-false)))
      | in_default-via-else-rest-lt1+in_default-1 w ↦ (λ l e. absurd (omega arith), λ l e. absurd (omega arith))
    ] in
    ap Err c.misread.ensures ∙ sym (no_method s (leads_not s rest 114 c.rest.ensures off.0) (leads_not s rest 115 c.rest.ensures off.1))
