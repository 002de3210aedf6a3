use Rattle.std.proofs.Common.{ℕ, ◌-◌, ◌≤◌, rules}
use Rattle.std.specs.List.{zip}
use Rattle.std.proofs.lemmas.Iterator.{YieldsList-from_slice, YieldsList-from_zip, YieldsList-from_map}
use Rattle.std.proofs.lemmas.Iterator.Adapters.{serves_from_places}
use Rattle.billing.proofs.Beside.{both_length}
use Rattle.billing.proofs.Collected.{collected_beside, at_place, all_pairs}
use Rattle.billing.proofs.stated.deduct.Goals as goal

abbrev Covered : ℕ → ℕ → Type 0
Covered heat deduction = deduction ≤ heat

pub collect-requires : goal.collect-requires
collect-requires c =
    let heats = c.args.heats.now in
    let deductions = c.args.deductions.now in (
      search rules,
      (
        (
          (tt, tt),
          serves_from_places (YieldsList-from_zip (YieldsList-from_slice heats cc) (YieldsList-from_slice deductions cc)) (λ x q h. search rules)
              (λ x k h is. let covered = at_place (λ (p : ℕ × ℕ). p.1 ≤ p.0) (zip heats deductions) (all_pairs Covered heats deductions c.requires) (x.0.now, x.1.now) k h is in search rules),
        ),
        (tt, search rules),
      ),
    )

pub returns : goal.returns
returns c =
    let heats = c.args.heats.now in
    let deductions = c.args.deductions.now in
    collected_beside (λ heat deduction. heat - deduction) heats deductions (both_length Covered heats deductions c.requires) _ c.collect.ensures.ran
    (YieldsList-from_map _ (λ (p : ℕ × ℕ). p.0 - p.1) (YieldsList-from_zip (YieldsList-from_slice heats cc) (YieldsList-from_slice deductions cc)) c.map.ensures.closure (λ x r q k. search rules))
