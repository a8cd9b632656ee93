use Rattle.std.specs.Prelude.{Contains}
use Rattle.inst_logic.proofs.Membership.{contains_in, all_in}
use Rattle.core_min.proofs.Places.{shrinks}
use Rattle.core_min.proofs.laws.deletion_shrinks.Goals as goal

pub returns : goal.returns
returns c = λ cs places some done partly rising within refuted. shrinks cs places some done partly rising (λ n j. contains_in n places (all_in (Contains places) some within n j)) refuted
