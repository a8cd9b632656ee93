use Rattle.std.proofs.Common.{◌≡◌, min, Some, sym, ap, ◌∙◌, subst, arith}
use Rattle.prop_logic.specs.declared.literal.Step.{Step}
use Rattle.prop_logic.specs.Literal.{AtomsBelow}
use Rattle.cdcl_trail.specs.Clauses.{clause_number}
use Rattle.cdcl_trail.specs.Trail.{IsUnset, with_implied, back_at}
use Rattle.cdcl_core.specs.declared.search.Search.{Search}
use Rattle.cdcl_core.specs.Log.{IsLog}
use Rattle.cdcl_core.specs.Search.{AreGiven}
use Rattle.cdcl_core.proofs.StepLaws.{learned_below, rest_below, rest_is, learned_unit_of, learned_search}
use Rattle.cdcl_core.proofs.BackLaws.{advances_from}
use Rattle.cdcl_core.proofs.UnitLaws.{more_kept}
use Rattle.cdcl_core.proofs.PhaseLaws.{phases_push}
use Rattle.cdcl_core.proofs.search.Search.learn.Goals as goal

pub highest_level-level-requires : goal.highest_level-level-requires
highest_level-level-requires c =
    let t = c.args.self.now.trail.trail in
    let clause = c.args.analysis.clause.items in
    let xs = c.deref.result.now in
    rest_below t.atoms clause c.plain.result (c.plain.ensures ∙ rest_is clause xs c.deref.ensures.value) (learned_below t clause c.requires.trail c.requires.analysis.learned)

pub push_step-requires-clause-atoms : goal.push_step-requires-clause-atoms
push_step-requires-clause-atoms c =
    let t = c.args.self.now.trail.trail in
    subst (AtomsBelow t.atoms) (sym c.deref-2.ensures.value) (learned_below t c.args.analysis.clause.items c.requires.trail c.requires.analysis.learned)

pub unite_all-requires : goal.unite_all-requires
unite_all-requires c =
    let s = c.use_last_step.new.self in
    let last : Step = record { clause = c.deref-2.result.now; hints = c.deref-3.result.now } in
    let same = c.deref-2.ensures.value ∙ sym c.deref-4.ensures.value in
    let k = c.in_ok-key.ensures.kept c.args.self.now.log.steps last c.in_ok-push_step.ensures.steps same in
    (s.clauses, k.0.log, k.0.given)

pub back_to-requires-clause-kept : goal.back_to-requires-clause-kept
back_to-requires-clause-kept c =
    let s = c.use_last_step.new.self in
    let last : Step = record { clause = c.deref-2.result.now; hints = c.deref-3.result.now } in
    let same = c.deref-2.ensures.value ∙ sym c.deref-4.ensures.value in
    let k = c.in_ok-key.ensures.kept c.args.self.now.log.steps last c.in_ok-push_step.ensures.steps same in
    more_kept s c.unite_all.new.log c.in_ok-unite_all.ensures.more k.0

pub back_to-requires-clause-level : goal.back_to-requires-clause-level
back_to-requires-clause-level c =
    let t = c.args.self.now.trail.trail in
    let clause = c.args.analysis.clause.items in
    let xs = c.deref.result.now in
    let l = c.index-lit.result.now in
    let level = c.highest_level-level.result in
    let u = learned_unit_of t clause c.plain.result l l level c.requires.trail c.requires.analysis.learned c.requires.some c.index-lit.ensures (c.plain.ensures ∙ rest_is clause xs c.deref.ensures.value) c.highest_level-level.ensures.reached c.highest_level-level.ensures.least in
    omega (arith, u.within, ap (λ x. x.level) c.in_ok-key.ensures.trail, ap (λ x. x.trail.level) c.in_ok-push_step.ensures.trail)

pub imply-requires-clause-unset : goal.imply-requires-clause-unset
imply-requires-clause-unset c =
    let t = c.args.self.now.trail.trail in
    let clause = c.args.analysis.clause.items in
    let xs = c.deref.result.now in
    let l = c.index-lit.result.now in
    let level = c.highest_level-level.result in
    let u = learned_unit_of t clause c.plain.result l l level c.requires.trail c.requires.analysis.learned c.requires.some c.index-lit.ensures (c.plain.ensures ∙ rest_is clause xs c.deref.ensures.value) c.highest_level-level.ensures.reached c.highest_level-level.ensures.least in
    let trail = c.back_to.ensures.trail ∙ ap (λ x. back_at x level) (c.in_ok-key.ensures.trail ∙ ap (λ x. x.trail) c.in_ok-push_step.ensures.trail) in
    subst (λ x. IsUnset x.entries l.atom) (sym trail) u.unset

pub returns-clause-learned : goal.returns-clause-learned
returns-clause-learned c = λ first assumptions from s.
    let old = c.args.self.now in
    let t = old.trail.trail in
    let clause = c.args.analysis.clause.items in
    let xs = c.deref.result.now in
    let l = c.index-lit.result.now in
    let level = c.highest_level-level.result in
    let key = c.in_ok-key.key in
    let back = c.back_to.new.self in
    let new : Search = record back { trail = c.imply.new.self } in
    let u = learned_unit_of t clause c.plain.result l l level c.requires.trail c.requires.analysis.learned c.requires.some c.index-lit.ensures (c.plain.ensures ∙ rest_is clause xs c.deref.ensures.value) c.highest_level-level.ensures.reached c.highest_level-level.ensures.least in
    let pushed = c.in_ok-push_step.ensures in
    let used = c.in_ok-key.ensures in
    let backed = c.back_to.ensures in
    let last : Step = record { clause = c.deref-2.result.now; hints = c.deref-3.result.now } in
    let same = c.deref-2.ensures.value ∙ sym c.deref-4.ensures.value in
    let k = used.kept old.log.steps last pushed.steps same in
    let same_trail = used.trail ∙ ap (λ x. x.trail) pushed.trail in
    let atoms : new.trail.trail.atoms ≡ back.trail.trail.atoms = ap (λ x. x.atoms) c.imply.ensures.trail in
    let given = subst (λ x. AreGiven x t.entries) (sym backed.clauses) (subst (λ x. AreGiven c.use_last_step.new.self.clauses x.entries) same_trail k.0.given) in
    let shape = c.imply.ensures.trail ∙ ap (λ x. with_implied x l key) (backed.trail ∙ ap (λ x. back_at x level) same_trail) in
    let went = learned_search assumptions old new clause l level key c.requires.trail u
    shape
    (subst (λ n. IsLog n back.clauses back.log) (sym atoms) backed.kept.log) given
    (ap (λ x. clause_number x key) backed.clauses ∙ k.1 ∙ ap Some c.deref-2.ensures.value)
    (backed.kept.seen ∙ sym atoms) (phases_push back.trail.trail new.trail.trail back.phases (record { lit = l; level = back.trail.trail.level; reason = Some key }) atoms (ap (λ x. x.entries) c.imply.ensures.trail) backed.kept.phases) (c.imply.ensures.attached back.clauses backed.kept.attached)
    (ap (λ x. x.added) backed.log ∙ c.in_ok-unite_all.ensures.added ∙ used.added ∙ pushed.added) (backed.assumed ∙ ap (λ n. min n level) (used.assumed ∙ pushed.assumed)) backed.checked s in
    (went.0, advances_from first old new l level key from shape u.within went.1.same.added)
