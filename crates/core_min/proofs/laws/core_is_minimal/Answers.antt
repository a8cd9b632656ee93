use Rattle.std.specs.Prelude.{Contains}
use Rattle.inst_logic.proofs.Membership.{contains_in, in_contains, all_in}
use Rattle.core_min.proofs.Places.{minimal}
use Rattle.core_min.proofs.laws.core_is_minimal.Goals as goal

pub returns : goal.returns
returns c = λ cs places some core within n there absent.
    minimal cs places some core (λ m j. contains_in m places (all_in (Contains places) some within m j)) n there (λ j. absent (in_contains n some j))
