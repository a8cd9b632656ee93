use Rattle.std.proofs.Common.{reverse, ◌++◌}
use Rattle.unify_core.proofs.Lists.{if_ok}
use Rattle.clause_form.specs.Walks.{numbers_of}
use Rattle.clause_form.specs.declared.walk.Leaves.TheVariants.{Led}
use Rattle.cert_inference.proofs.ComparisonLaws.{root_of, step_from_root}
use Rattle.cert_inference.proofs.comparison.compare_next.Goals as goal

pub returns : goal.returns
returns c =
    let f = c.args.bank.now in
    if_ok _ _ c.compare_roots.result c.compare_roots.ensures
    (λ r k t rest bs same.
    let root = root_of f bs c.args.next.node c.follow-node.result c.args.bindings.now.entries same c.requires.bindings c.requires.node c.follow-node.ensures.same c.follow-node.ensures.root c.follow-node.ensures.below in
    step_from_root f (Led bs) c.args.next c.follow-node.result (reverse c.args.pairs.now.items ++ rest) (reverse c.compare_roots.new.pairs.items ++ rest) (numbers_of c.args.order.now.items) (numbers_of c.compare_roots.new.order.items) root c.requires.term (k t bs same root.free rest))
