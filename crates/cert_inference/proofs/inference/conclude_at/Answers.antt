use Rattle.term_bank.specs.Forest.{tree_at}
use Rattle.cert_inference.proofs.Conclusions.{unified_terms}
use Rattle.cert_inference.proofs.inference.conclude_at.Goals as goal

pub returns-in_err-conclusion-clause-formed : goal.returns-in_err-conclusion-clause-formed
returns-in_err-conclusion-clause-formed c =
    let f = c.args.bank.now in
    let u = c.in_ok-unify_properly.ensures.yes c.if-not-branch.false in
    λ h. c.conclude_clause.ensures.formed h (unified_terms f c.unify_properly.new.bindings.entries (tree_at f c.args.l.atom) (tree_at f c.args.m.atom) c.requires.left.atom c.requires.right.atom u)

pub returns-clause-formed : goal.returns-clause-formed
returns-clause-formed c =
    let f = c.args.bank.now in
    let u = c.in_ok-unify_properly.ensures.yes c.if-not-branch.false in
    λ h. c.conclude_clause.ensures.formed h (unified_terms f c.unify_properly.new.bindings.entries (tree_at f c.args.l.atom) (tree_at f c.args.m.atom) c.requires.left.atom c.requires.right.atom u)
