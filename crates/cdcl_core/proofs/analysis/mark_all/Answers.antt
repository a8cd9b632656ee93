use Rattle.std.proofs.Common.{◌++◌, ◌∷◌, [], take, sym, ap, ◌∙◌, subst}
use Rattle.std.proofs.lemmas.List.{take_more}
use Rattle.cdcl_core.specs.Analysis.{MarksToo}
use Rattle.cdcl_core.proofs.AnalysisLaws.{marks_more}
use Rattle.cdcl_core.proofs.analysis.mark_all.Goals as goal

pub mark-requires-clause-size : goal.mark-requires-clause-size
mark-requires-clause-size c = c.loop-packed.invariant.size

pub loop-packed-preserved : goal.loop-packed-preserved
loop-packed-preserved c =
    let t = c.args.trail.now.trail in
    let clause = c.args.clause.now in
    let i = c.loop-packed.packed-index in
    let l = c.lit.result in
    let part = take_more clause i c.packed-item.result c.loop-packed-test.true ∙ ap (λ x. take i clause ++ x ∷ []) (sym (c.lit.ensures ∙ c.packed-item.is)) in
    record {
      size = c.in_ok-mark.ensures.size ∙ c.loop-packed.invariant.size;
      marked = subst (λ xs. MarksToo t xs c.args.seen.now c.mark.new.seen c.args.waiting.now c.mark.new.waiting) (sym part)
          (marks_more t (take i clause) l c.args.seen.now c.loop-packed.seen c.mark.new.seen c.args.waiting.now c.loop-packed.waiting c.mark.new.waiting c.loop-packed.invariant.marked c.in_ok-mark.ensures.marked);
    }
