use Rattle.std.proofs.Common.{◌+◌, length, take, sym, ap, ◌∙◌, subst, arith, length-set}
use Rattle.std.proofs.lemmas.List.{take_all, length-map}
use Rattle.std.specs.Prelude.{All}
use Rattle.cdcl_core.specs.Phases.{IsSaved}
use Rattle.cdcl_core.proofs.PhaseLaws.{saved_more, saved_all}
use Rattle.cdcl_core.proofs.phases.Phases.save.Goals as goal

pub loop-place-preserved : goal.loop-place-preserved
loop-place-preserved c =
    let t = c.args.trail.now.trail in
    let lit = c.literal_at-lit.result in
    let values = c.loop-place.self.values in
    record {
      size = ap length c.set.ensures ∙ length-set values lit.atom lit.positive ∙ c.loop-place.invariant.size;
      saved = subst (λ xs. All (IsSaved xs) (take (c.loop-place.place + 1) t.entries)) (sym c.set.ensures)
          (saved_more t values c.loop-place.place lit c.assigned-count.ensures.trail (omega (arith, c.loop-place-test.true, ap length c.assigned-count.ensures.literals, length-map t.entries (λ e. e.lit))) c.literal_at-lit.ensures.literal c.literal_at-lit.ensures.atom c.loop-place.invariant.size c.loop-place.invariant.saved);
    }

pub returns-clause-whole : goal.returns-clause-whole
returns-clause-whole c =
    let t = c.args.trail.now.trail in
    saved_all t c.loop-place.self.values c.loop-place.place (omega (arith, c.loop-place-test.false, ap length c.assigned-count.ensures.literals, length-map t.entries (λ e. e.lit))) c.loop-place.invariant.saved

pub returns-clause-phases : goal.returns-clause-phases
returns-clause-phases c =
    let t = c.args.trail.now.trail in
    let n = length c.assigned-count.result.now in
    let values = c.loop-place.self.values in
    record {
      size = c.loop-place.invariant.size;
      within = omega (arith, ap length c.assigned-count.ensures.literals, length-map t.entries (λ e. e.lit));
      saved = subst (All (IsSaved values)) (sym (take_all n t.entries (omega (arith, ap length c.assigned-count.ensures.literals, length-map t.entries (λ e. e.lit)))))
          (saved_all t values c.loop-place.place (omega (arith, c.loop-place-test.false, ap length c.assigned-count.ensures.literals, length-map t.entries (λ e. e.lit))) c.loop-place.invariant.saved);
    }
