use Rattle.std.proofs.Common.{refl, sym, subst}
use Rattle.prop_logic.specs.declared.literal.Hint.TheVariants.{Step as Earlier}
use Rattle.cdcl_trail.specs.Clauses.{AddsClause}
use Rattle.cdcl_core.specs.declared.search.Search.{Search}
use Rattle.cdcl_core.specs.Log.{PutsName}
use Rattle.cdcl_core.proofs.KeptLaws.{use_kept}
use Rattle.cdcl_core.proofs.search.Search.use_last_step.Goals as goal

pub returns-clause-kept : goal.returns-clause-kept
returns-clause-kept c = λ before s ends same.
    let old = c.args.self.now in
    let log = old.log in
    let key = c.in_ok-key.key in
    let new : Search = record old { log = record log { names = c.put.new.self }; clauses = c.add.new.self; trail = c.attach.new.self; learned = c.push.new.self } in
    let adds = subst (λ x. AddsClause old.clauses c.add.new.self x key) (sym same) c.in_ok-key.ensures.number in
    let puts = subst (λ n. PutsName log.names c.put.new.self key (Earlier n)) c.len-step.ensures c.in_ok-put.ensures in
    (use_kept old new key before s ends adds refl refl puts c.in_ok-attach.ensures.trail.1 c.in_ok-attach.ensures.attached refl refl c.requires, adds.added)
