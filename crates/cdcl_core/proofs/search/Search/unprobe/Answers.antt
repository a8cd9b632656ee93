use Rattle.std.proofs.Common.{[], refl, ap}
use Rattle.cdcl_core.specs.declared.search.Search.{Search}
use Rattle.cdcl_core.proofs.PhaseLaws.{phases_cut}
use Rattle.cdcl_core.proofs.KeptLaws.{back_kept, begun}
use Rattle.cdcl_core.proofs.search.Search.unprobe.Goals as goal

pub returns-clause-search : goal.returns-clause-search
returns-clause-search c =
    let old = c.args.self.now in
    let t = c.back_to.new.self in
    let cut = c.cut.ensures in
    let new : Search = record old { trail = t; phases = c.cut.new.self; assumed = 0; checked = 0 } in
    let trail = c.back_to.ensures.trail in
    let phases = phases_cut old.trail.trail t.trail old.phases c.cut.new.self 0 c.requires.trail (ap (λ x. x.atoms) trail) (ap (λ x. x.entries) trail) cut.values cut.fewer cut.within c.requires.kept.phases in
    begun [] old.trail.trail new c.requires.trail trail refl refl (back_kept old new 0 c.requires.trail trail c.back_to.ensures.attached refl refl refl phases c.requires.kept)
