use Rattle.std.proofs.Common.{refl}
use Rattle.cdcl_core.specs.declared.search.Search.{Search}
use Rattle.cdcl_core.proofs.BackLaws.{begun_at}
use Rattle.cdcl_core.proofs.KeptLaws.{kept_same}
use Rattle.cdcl_core.proofs.search.Search.keep_levels.Goals as goal

pub returns-clause-search : goal.returns-clause-search
returns-clause-search c =
    let back = c.back_to.new.self in
    let new : Search = record back { assumed = c.shared_level-level.result } in
    begun_at c.args.assumptions.now c.args.self.now new c.shared_level-level.result c.back_to.ensures.trail refl c.back_to.ensures.checked c.shared_level-level.ensures.decisions (kept_same back new refl refl refl refl (λ p. p) c.back_to.ensures.kept)
