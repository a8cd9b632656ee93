use Rattle.std.proofs.Common.{refl, ap, sym, ◌∙◌, length, subst}
use Rattle.std.specs.Prelude.{All}
use Rattle.cdcl_core.specs.Phases.{IsSaved}
use Rattle.cdcl_core.specs.declared.search.Search.{Search}
use Rattle.cdcl_core.proofs.PhaseLaws.{phases_back}
use Rattle.cdcl_core.proofs.KeptLaws.{back_kept}
use Rattle.cdcl_core.proofs.search.Search.back_to.Goals as goal

pub returns-clause-kept : goal.returns-clause-kept
returns-clause-kept c =
    let old = c.args.self.now in
    let saved = c.save.ensures in
    let new : Search = record old { trail = c.back_to.new.self; phases = c.cut.new.self; activity = c.put_back-self.new.activity; next = c.put_back-self.result; assumed = c.min-self.result; checked = 0 } in
    back_kept old new c.args.level saved.right c.back_to.ensures.trail c.back_to.ensures.attached refl refl refl
    (phases_back old.trail.trail new.trail.trail new.phases c.args.level (ap (λ t. t.atoms) c.back_to.ensures.trail) (ap (λ t. t.entries) c.back_to.ensures.trail) (ap length c.cut.ensures.values ∙ saved.phases.size)
    (subst (λ xs. All (IsSaved xs) old.trail.trail.entries) (sym c.cut.ensures.values) saved.whole) c.cut.ensures.within)
    c.requires.kept
