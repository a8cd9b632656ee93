use Rattle.std.specs.Prelude.{Contains, slice_index}
use Rattle.inst_logic.proofs.Membership.{contains_in, in_contains, all_in}
use Rattle.core_min.proofs.Places.{cited}
use Rattle.core_min.proofs.laws.needed_is_cited.Goals as goal

pub returns : goal.returns
returns c = λ cs places some done partly within refuted i below.
    in_contains (slice_index places i) some (cited cs places some done partly (λ n j. contains_in n places (all_in (Contains places) some within n j)) refuted i below)
