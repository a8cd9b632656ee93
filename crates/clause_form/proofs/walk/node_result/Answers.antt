use Rattle.std.proofs.Common.{ap, subst, List, ℕ}
use Rattle.unify_core.proofs.Lists.{if_ok}
use Rattle.term_bank.proofs.Growth.{extends_trans}
use Rattle.clause_form.specs.Walks.{IsMetEarly, numbers_of}
use Rattle.clause_form.proofs.Running.{leaves_stay}
use Rattle.clause_form.proofs.walk.node_result.Goals as goal

pub settled_application-requires-clause-leaves : goal.settled_application-requires-clause-leaves
settled_application-requires-clause-leaves c = leaves_stay c.args.bank.now c.leaf_result.new.bank c.args.leaves.now c.leaf_result.ensures.extends c.requires.leaves

pub returns-clause-early : goal.returns-clause-early
returns-clause-early c =
    if_ok _ _ c.settled_application.result c.settled_application.ensures.early
    (λ o k none f x leaves within.
    subst (λ (os : List ℕ). IsMetEarly f c.args.leaves.now c.args.node os (numbers_of c.settled_application.new.order)) (ap numbers_of (c.in_ok-id.ensures.same c.in_default.is))
    (k f (extends_trans f c.args.bank.now c.leaf_result.new.bank x c.leaf_result.ensures.extends) leaves within))
