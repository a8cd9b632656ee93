use Rattle.std.proofs.Common.{◌≡◌, ◌-◌, length, Some, sym, ap, ◌∙◌}
use Rattle.std.specs.Prelude.{slice_get}
use Rattle.std.proofs.lemmas.Option.{same_Some}
use Rattle.prop_logic.proofs.SearchLaws.{none_inside}
use Rattle.proof_log.proofs.Steps.{all_inside}
use Rattle.proof_log.proofs.checker.ends_empty.Goals as goal

pub returns-in-Some : goal.returns-in-Some
returns-in-Some c =
    let steps = c.args.steps.now in
    let last : slice_get steps (length steps - 1) ≡ Some c.in-Some.step.now = sym c.in-Some.ensures.value in (
      λ e. let empty = c.is_empty.ensures.0 e in (c.in-Some.step.now, last, (all_inside c.in-Some.step.now.clause empty).0, (all_inside c.in-Some.step.now.clause empty).1),
      λ h. c.is_empty.ensures.1 (ap (λ s. s.clause) (same_Some c.in-Some.step.now h.0 (sym last ∙ h.1)) ∙ none_inside h.0.clause h.2),
    )
