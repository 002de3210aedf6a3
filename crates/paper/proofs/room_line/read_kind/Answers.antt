use Rattle.std.proofs.Common.{◌≡◌, ◌<◌, length, get_or, Some, Ok, Err, sym, ap, ◌∙◌, arith, ltb-false, ltb-true}
use Rattle.house.specs.declared.room.Kind.TheVariants.{Detached}
use Rattle.forms.specs.Place.{mark_of}
use Rattle.paper.specs.Items.{mapped}
use Rattle.paper.proofs.Tails.{mapped_exit, leads_by, leads_not, metered_says, plain_says, detached_kind, no_kind}
use Rattle.paper.proofs.room_line.read_kind.Goals as goal
use Rattle.paper.proofs.room_line.read_kind.Goals.{in_default-via-then-rest-lt1, in_default-via-else-rest-lt1+in_default-1}

pub returns-in_err-area-in-109 : goal.returns-in_err-area-in-109
returns-in_err-area-in-109 c =
    let leads = leads_by c.args.cursor c.rest.result.now 109 c.rest.ensures (omega arith) (omega arith) in
    mapped_exit _ _ _ c.from_residual.ensures.1 ∙ sym (metered_says c.args.cursor leads ∙ sym (ap (mapped _) c.in_err-area-in-109.ensures))

pub returns-in_err-area-in-112 : goal.returns-in_err-area-in-112
returns-in_err-area-in-112 c =
    let leads = leads_by c.args.cursor c.rest.result.now 112 c.rest.ensures (omega arith) (omega arith) in
    mapped_exit _ _ _ c.from_residual-in_err-area-in-112.ensures.1 ∙ sym (plain_says c.args.cursor leads ∙ sym (ap (mapped _) c.in_err-area-in-112.ensures))

pub returns-in_err-area-in-100 : goal.returns-in_err-area-in-100
returns-in_err-area-in-100 c =
    let leads = leads_by c.args.cursor c.rest.result.now 100 c.rest.ensures (omega arith) (omega arith) in
    mapped_exit _ _ _ c.from_residual-in_err-area-in-100.ensures.1 ∙ sym (detached_kind c.args.cursor leads ∙ sym (ap (mapped _) c.in_err-area-in-100.ensures))

pub returns-in_ok-area-in-109 : goal.returns-in_ok-area-in-109
returns-in_ok-area-in-109 c =
    let leads = leads_by c.args.cursor c.rest.result.now 109 c.rest.ensures (omega arith) (omega arith) in
    sym (metered_says c.args.cursor leads ∙ sym (ap (mapped _) c.in_ok-area-in-109.ensures))

pub returns-in_ok-area-in-112 : goal.returns-in_ok-area-in-112
returns-in_ok-area-in-112 c =
    let leads = leads_by c.args.cursor c.rest.result.now 112 c.rest.ensures (omega arith) (omega arith) in
    sym (plain_says c.args.cursor leads ∙ sym (ap (mapped _) c.in_ok-area-in-112.ensures))

pub returns-in_ok-area-in-100 : goal.returns-in_ok-area-in-100
returns-in_ok-area-in-100 c =
    let leads = leads_by c.args.cursor c.rest.result.now 100 c.rest.ensures (omega arith) (omega arith) in
    ap (λ n. Ok (Detached n, mark_of c.in_ok-area-in-100.area, Some (mark_of c.in_ok-area-in-100.pipe))) c.value.ensures ∙ sym (detached_kind c.args.cursor leads ∙ sym (ap (mapped _) c.in_ok-area-in-100.ensures))

pub returns-in_default : goal.returns-in_default
returns-in_default c =
    let s = c.args.cursor in
    let rest = c.rest.result.now in
    let off : (0 < length rest → get_or rest 0 0 ≡ 109 → ⊥) × (0 < length rest → get_or rest 0 0 ≡ 112 → ⊥) × (0 < length rest → get_or rest 0 0 ≡ 100 → ⊥) = elim c.in_default.branch [
      | in_default-via-then-rest-lt1 w ↦ (λ l e. absurd (omega (arith, ltb-true, ltb-false)), λ l e. absurd (omega (arith, ltb-true, ltb-false)), λ l e. absurd (omega (arith, ltb-true, ltb-false)))
      | in_default-via-else-rest-lt1+in_default-1 w ↦ (λ l e. absurd (omega arith), λ l e. absurd (omega arith), λ l e. absurd (omega arith))
    ] in
    ap Err c.misread.ensures ∙ sym (no_kind s (leads_not s rest 109 c.rest.ensures off.0) (leads_not s rest 112 c.rest.ensures off.1) (leads_not s rest 100 c.rest.ensures off.2))
