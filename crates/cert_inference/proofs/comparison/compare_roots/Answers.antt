use Rattle.std.proofs.Common.{reverse, ◌++◌}
use Rattle.unify_core.proofs.Lists.{if_ok}
use Rattle.term_bank.specs.Forest.{tree_at}
use Rattle.clause_form.specs.Walks.{numbers_of}
use Rattle.cert_inference.proofs.ComparisonLaws.{step_variable, var_of}
use Rattle.cert_inference.proofs.comparison.compare_roots.Goals as goal

pub returns-in-Var : goal.returns-in-Var
returns-in-Var c =
    let f = c.args.bank.now in
    if_ok _ _ c.is_numbered.result c.is_numbered.ensures
    (λ r k t bs same free rest.
    step_variable f bs c.args.next.node c.args.next.term c.in-Var.var (reverse c.args.pairs.now.items ++ rest) c.args.order.now.items c.is_numbered.new.order.items c.requires.node c.requires.term
    (var_of (tree_at f c.args.next.node.term) c.in-Var.var c.in-Var.ensures) free (k t).0 (k t).1)

pub returns-in-App : goal.returns-in-App
returns-in-App c = if_ok _ _ c.open.result c.open.ensures (λ r k t bs same free rest. k t rest (numbers_of c.args.order.now.items) bs same)
