use Rattle.std.proofs.Common.{ap}
use Rattle.term_bank.specs.Forest.{clause_at}
use Rattle.clause_form.proofs.Ids.{same_ids}
use Rattle.cert_inference.proofs.equal.same_trees.Goals as goal

pub returns : goal.returns
returns c =
    let f = c.args.bank.now in
    ((λ t. ap (clause_at f) (c.same_clause.ensures.0 t)), (λ e. c.same_clause.ensures.1 (same_ids f c.distinct.ensures c.args.c.now c.args.d.now c.requires.left c.requires.right e)))
