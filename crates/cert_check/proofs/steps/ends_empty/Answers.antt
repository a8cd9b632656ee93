use Rattle.std.proofs.Common.{◌≡◌, ◌-◌, length, sym, ap, ◌∙◌, Some}
use Rattle.std.specs.Prelude.{slice_get, option_copied}
use Rattle.cert_check.proofs.Refutations.{ends_at}
use Rattle.cert_check.proofs.steps.ends_empty.Goals as goal

pub returns-in-Some : goal.returns-in-Some
returns-in-Some c f =
    let ss = c.args.steps.now in
    let at : slice_get ss (length ss - 1) ≡ Some c.in-Some.step.now = sym (ap (λ xs. slice_get xs (length xs - 1)) c.as_slice.ensures) ∙ sym c.last.ensures.value ∙ ap option_copied c.in-Some.is in
    let k = ends_at f ss c.in-Some.step.now at in
    (λ t. k.0 (c.is_empty.ensures.0 t), λ e. c.is_empty.ensures.1 (k.1 e))
