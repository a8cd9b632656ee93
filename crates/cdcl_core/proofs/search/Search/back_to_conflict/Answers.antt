use Rattle.std.proofs.Common.{min, ap, sym, ◌∙◌, subst, arith}
use Rattle.prop_logic.specs.Literal.{cited}
use Rattle.cdcl_trail.specs.Propagation.{IsConflict}
use Rattle.cdcl_core.proofs.BackLaws.{back_from, conflict_back}
use Rattle.cdcl_core.proofs.search.Search.back_to_conflict.Goals as goal

pub returns-clause-back : goal.returns-clause-back
returns-clause-back c =
    let b = c.back_to.ensures in
    back_from c.args.self.now c.back_to.new.self c.min-level.result c.requires.trail (omega (arith, c.min-level.ensures, c.level.ensures)) b.trail b.kept b.assumed b.checked b.log

pub returns-clause-conflict : goal.returns-clause-conflict
returns-clause-conflict c =
    let s = c.args.self.now in
    let f = c.requires.conflict in
    let named = c.requires.kept.log.named c.args.number f.0 f.1 in
    let is = c.of_packed.ensures ∙ c.cited_clause.ensures.clause f.0 (ap (cited s.log.added s.log.steps) (c.hint_of.ensures named.0 named.1) ∙ named.2) in
    let back = conflict_back s.trail.trail s.clauses c.args.number c.highest_level-highest.result c.min-level.result c.of_packed.result c.requires.trail f is c.highest_level-highest.ensures.reached
    (c.min-level.ensures ∙ ap (min c.highest_level-highest.result) c.level.ensures) in
    subst (λ x. IsConflict x c.back_to.new.self.trail.trail.entries c.args.number) (sym c.back_to.ensures.clauses)
    (subst (λ es. IsConflict s.clauses es c.args.number) (sym (ap (λ t. t.entries) c.back_to.ensures.trail)) back)
