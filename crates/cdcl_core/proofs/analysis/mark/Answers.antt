use Rattle.std.proofs.Common.{◌<◌, ◌∷◌, [], length, sym, ◌∙◌, subst, arith}
use Rattle.cdcl_core.specs.declared.analysis.Waiting.{Waiting}
use Rattle.cdcl_core.specs.Analysis.{MarksToo}
use Rattle.cdcl_core.proofs.AnalysisLaws.{marks_one}
use Rattle.cdcl_core.proofs.analysis.mark.Goals as goal

pub returns-clause-marked : goal.returns-clause-marked
returns-clause-marked c =
    let t = c.args.trail.now.trail in
    let l = c.args.lit in
    let marks = c.args.seen.now in
    let is : Waiting = record { present = c.count_marked.new.present; places = c.push_place.new.places } in
    let inside : l.atom < length marks = omega (arith, c.requires.atom, c.requires.size) in
    subst (λ m. MarksToo t (l ∷ []) marks m c.args.waiting.now is) (sym (c.see_level.ensures ∙ c.insert.ensures))
    (marks_one t l marks c.args.waiting.now is inside (λ i k. c.count_marked.ensures i marks k) (λ i w. c.in_ok-push_place.ensures i marks inside w))
