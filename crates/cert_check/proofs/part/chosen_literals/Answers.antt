use Rattle.std.proofs.Common.{ℕ, ◌++◌, ◌<◌, List, [], ◌∷◌, arith, ap, sym, refl, ◌∙◌, Some, get_or, length}
use Rattle.std.specs.Prelude.{option_copied}
use Rattle.inst_logic.specs.declared.signed.Signed.{Signed}
use Rattle.inst_logic.specs.Derivations.{at_number}
use Rattle.cert_check.proofs.PartLaws.{one_more_chosen, none_more_chosen}
use Rattle.cert_check.proofs.part.chosen_literals.Goals.{in-Some+in_ok-push, in_default}
use Rattle.cert_check.proofs.part.chosen_literals.Goals as goal

pub loop-place-preserved : goal.loop-place-preserved
loop-place-preserved c =
    let whole = c.args.whole.now in
    let keep = c.args.keep.now in
    let i = c.loop-place.place-index in
    let within : i < length keep = omega arith in
    let named = c.numbered_item.ensures ∙ ap (λ (xs : List (Signed ℕ)). at_number xs (get_or keep i 0)) c.as_slice.ensures in
    elim c.match-numbered_item.branch [
      | in-Some+in_ok-push w ↦
          w.literals-is ∙ w.in_ok-push.ensures.ok ∙ ap (λ (xs : List (Signed ℕ)). xs ++ w.in-Some.l.now ∷ []) c.loop-place.invariant
          ∙ sym (one_more_chosen whole keep i (get_or keep i 0) within refl (Some w.in-Some.l.now) (sym named ∙ ap option_copied w.in-Some.is))
      | in_default w ↦
          w.literals-is ∙ c.loop-place.invariant
          ∙ sym (none_more_chosen whole keep i (get_or keep i 0) within refl (sym named ∙ ap option_copied w.in_default.is))
    ]
