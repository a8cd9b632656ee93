use Rattle.std.proofs.Common.{Contains}
use Rattle.inst_logic.proofs.Membership.{contains_in, all_in}
use Rattle.core_min.proofs.SubLists.{selection_serves, not_both}
use Rattle.core_min.proofs.sub_lists.satisfiable_when_shrunk.Goals as goal

pub returns-clause-fewer : goal.returns-clause-fewer
returns-clause-fewer c = λ cs ds within. selection_serves cs ds (λ e j. contains_in e ds (all_in (Contains ds) cs within e j))

pub returns-clause-not_refuted : goal.returns-clause-not_refuted
returns-clause-not_refuted c = not_both
