use Rattle.std.proofs.Common.{ℕ, ◌+◌, ◌<◌, Some, get_or, set, inl, inr, ap, ◌∙◌, arith, length-set}
use Rattle.std.specs.Prelude.{slice_get}
use Rattle.std.proofs.lemmas.Bool.{cases_eq}
use Rattle.std.proofs.lemmas.List.Elements.{All-get_or}
use Rattle.prop_logic.proofs.ListLaws.{slice_get_set, slice_get_set_other}
use Rattle.cdcl_core.proofs.CutLaws.{rises_at}
use Rattle.cdcl_core.proofs.cut.numbers_of.Goals as goal

pub loop-i-preserved : goal.loop-i-preserved
loop-i-preserved c =
    let places = c.args.places.now in
    let old = c.loop-i.numbers.items in
    let i = c.loop-i.i in
    let p : ℕ = get_or places i 0 in
    let low : p < c.args.count = All-get_or (λ k. k < c.args.count) places i 0 c.loop-i-test.true c.requires.within in
    record {
      size = length-set old p (i + 1) ∙ c.loop-i.invariant.size;
      numbered = λ j less. elim (cases_eq j i) [
        | inl same ↦ ap (λ k. slice_get (set old p (i + 1)) (get_or places k 0)) same ∙ slice_get_set old p (i + 1) (omega (arith, low, c.loop-i.invariant.size)) ∙ ap Some (omega (arith, same))
        | inr other ↦
            let before : j < i = omega (arith, other) in
            let rises = rises_at places j i c.requires.rising before c.loop-i-test.true in
            slice_get_set_other old p (get_or places j 0) (i + 1) (λ e. absurd (omega (arith, rises, e))) ∙ c.loop-i.invariant.numbered j before
      ];
    }
