use Rattle.std.proofs.Common.{◌≡◌, ◌+◌, ◌++◌, ◌∷◌, [], List, ap, sym, ◌∙◌, take, get_or}
use Rattle.std.proofs.lemmas.List.{take_more}
use Rattle.inst_logic.specs.declared.signed.Signed.{Signed}
use Rattle.inst_calculus.specs.Parts.{chosen}
use Rattle.instgen_run.proofs.Parted.{chosen_push}
use Rattle.instgen_run.proofs.infer.kept_literals.Goals as goal

pub loop-place-preserved : goal.loop-place-preserved
loop-place-preserved c =
    let ns = c.as_slice-place-items.result.now in
    let i = c.loop-place.place-index in
    let more : take (i + 1) ns ≡ take i ns ++ get_or ns i 0 ∷ [] = take_more ns i 0 c.loop-place-test.true in
    c.in_ok-push.ensures.ok ∙ ap (λ (ls : List (Signed _)). ls ++ c.literal_at.result ∷ []) c.loop-place.invariant
    ∙ sym (chosen_push c.args.literals.now (take i ns) (get_or ns i 0) c.literal_at.result c.literal_at.ensures) ∙ sym (ap (chosen c.args.literals.now) more)
