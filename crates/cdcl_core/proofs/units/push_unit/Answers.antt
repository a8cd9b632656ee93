use Rattle.std.proofs.Common.{ℕ, ◌<◌, refl}
use Rattle.prop_logic.specs.declared.literal.Hint.TheVariants.{Step as Earlier}
use Rattle.cdcl_core.specs.declared.log.Log.{Log}
use Rattle.cdcl_core.specs.Log.{PutsName}
use Rattle.cdcl_core.specs.Search.{IsLogMore}
use Rattle.cdcl_core.proofs.UnitLaws.{more_step}
use Rattle.cdcl_core.proofs.MeetLaws.{on_ok}
use Rattle.cdcl_core.proofs.units.push_unit.Goals as goal

pub returns-clause-more : goal.returns-clause-more
returns-clause-more c =
    let old = c.args.log.now in
    let new : Log = record old { steps = c.push.new.self; units = c.put.new.self } in
    let steps = c.in_ok-push.ensures.ok in
    on_ok c.put.result (PutsName old.units c.put.new.self c.args.lit.atom (Earlier c.len.result)) ((atoms : ℕ) → c.args.lit.atom < atoms → IsLogMore atoms old new)
    (λ put atoms low. more_step atoms old new c.args.lit c.args.hints.now low c.requires refl steps refl) c.put.ensures
