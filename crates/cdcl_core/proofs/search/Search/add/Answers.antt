use Rattle.std.proofs.Common.{refl, subst}
use Rattle.prop_logic.specs.declared.literal.Hint.TheVariants.{Added}
use Rattle.cdcl_core.specs.declared.search.Search.{Search}
use Rattle.cdcl_core.specs.Log.{PutsName}
use Rattle.cdcl_core.proofs.KeptLaws.{added_kept}
use Rattle.cdcl_core.proofs.search.Search.add.Goals as goal

pub returns-clause-kept : goal.returns-clause-kept
returns-clause-kept c =
    let old = c.args.self.now in
    let log = old.log in
    let key = c.in_ok-key.key in
    let new : Search = record old { log = record log { added = c.push.new.self; names = c.put.new.self }; clauses = c.add.new.self; trail = c.attach.new.self } in
    let puts = subst (λ n. PutsName log.names c.put.new.self key (Added n)) c.len-number.ensures c.in_ok-put.ensures in
    added_kept old new c.args.clause.now key c.requires.atoms c.in_ok-key.ensures.number c.in_ok-push.ensures.ok refl puts c.in_ok-attach.ensures.trail.1 c.in_ok-attach.ensures.attached refl refl c.requires.kept
