use Rattle.std.proofs.Common.{sym, subst, ◌∙◌, arith}
use Rattle.prop_logic.specs.Literal.{AtomsBelow}
use Rattle.prop_logic.specs.Solving.{IsSubList}
use Rattle.cdcl_core.specs.declared.search.Search.{Search}
use Rattle.cdcl_core.proofs.SearchLaws.{ready_of}
use Rattle.cdcl_core.proofs.StepLaws.{learned_below}
use Rattle.cdcl_core.proofs.BackLaws.{back_seen, back_ends}
use Rattle.cdcl_core.proofs.GoLaws.{seen_search, seen_ends}
use Rattle.cdcl_core.proofs.search.Search.resolve.Goals as goal

pub analyze-requires-clause-ready : goal.analyze-requires-clause-ready
analyze-requires-clause-ready c = ready_of c.back_to_conflict-count.new.self c.back_to_conflict-count.ensures.kept c.back_to_conflict-count.ensures.trail (omega (arith, c.back_to_conflict-count.ensures.count))

pub mark_reasons-requires-clause-ready : goal.mark_reasons-requires-clause-ready
mark_reasons-requires-clause-ready c = ready_of c.back_to_conflict-count.new.self c.back_to_conflict-count.ensures.kept c.back_to_conflict-count.ensures.trail (omega (arith, c.back_to_conflict-count.ensures.count))

pub mark_reasons-requires-clause-atoms : goal.mark_reasons-requires-clause-atoms
mark_reasons-requires-clause-atoms c =
    let t = c.back_to_conflict-count.new.self.trail.trail in
    subst (AtomsBelow t.atoms) (sym c.deref.ensures.value) (learned_below t c.in_ok-analysis.analysis.clause.items c.back_to_conflict-count.ensures.trail c.in_ok-analysis.ensures.analysis.learned)

pub returns-then-is_empty-clause-goes : goal.returns-then-is_empty-clause-goes
returns-then-is_empty-clause-goes c = λ assumptions s.
    let mid = c.back_to_conflict-count.new.self in
    let new : Search = record mid { seen = c.analyze.new.seen } in
    back_ends assumptions c.args.self.now mid new c.in_ok-refutation_answer.field-0 c.back_to_conflict-count.ensures.back
    (seen_ends assumptions mid new c.analyze.new.seen c.in_ok-refutation_answer.field-0 (c.in_ok-refutation_answer.ensures assumptions (subst (λ x. IsSubList x assumptions) (sym c.new-core.ensures) tt)))

pub returns-clause-goes : goal.returns-clause-goes
returns-clause-goes c = λ assumptions s.
    let old = c.args.self.now in
    let mid = c.back_to_conflict-count.new.self in
    let back = c.back_to_conflict-count.ensures.back in
    let m = c.mark_reasons.new.seen in
    let same = c.mark_reasons.ensures ∙ c.in_ok-analysis.ensures.size in
    let a = c.see_conflict.new.self in
    c.in_ok-learn.ensures.learned old assumptions (back_seen old mid m a same back) (seen_search assumptions mid m a same (back.search assumptions s))
