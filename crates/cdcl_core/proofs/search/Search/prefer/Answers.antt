use Rattle.std.proofs.Common.{refl, sym, ◌∙◌}
use Rattle.cdcl_core.specs.declared.phases.Phases.{Phases}
use Rattle.cdcl_core.specs.declared.search.Search.{Search}
use Rattle.cdcl_core.proofs.PhaseLaws.{phases_preferred}
use Rattle.cdcl_core.proofs.StepLaws.{unset_of}
use Rattle.cdcl_core.proofs.KeptLaws.{kept_same}
use Rattle.cdcl_core.proofs.GoLaws.{none_of}
use Rattle.cdcl_core.proofs.search.Search.prefer.Goals as goal

pub returns-then-is_none-clause-kept : goal.returns-then-is_none-clause-kept
returns-then-is_none-clause-kept c =
    let old = c.args.self.now in
    let atom = c.args.atom in
    let phases : Phases = record old.phases { values = c.set.new.self } in
    let new : Search = record old { phases = phases } in
    let open_one = none_of c.level_of.result c.if-is_none.ensures in
    let unset = unset_of old.trail.trail.entries atom (sym c.level_of.ensures ∙ open_one) in
    kept_same old new refl refl refl refl (λ p. phases_preferred old.trail.trail old.phases phases atom c.args.value unset c.set.ensures refl p) c.requires.kept
