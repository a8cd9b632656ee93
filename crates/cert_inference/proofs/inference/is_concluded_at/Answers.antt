use Rattle.std.proofs.lemmas.Result.{IfOk-weaker}
use Rattle.term_bank.specs.Forest.{tree_at}
use Rattle.cert_inference.proofs.Conclusions.{instance_concludes, not_concluded, unified_terms}
use Rattle.cert_inference.proofs.Signs.{signs_differ, signs_same}
use Rattle.cert_inference.proofs.inference.is_concluded_at.Goals as goal

pub returns-then-l-m-clause-concluded : goal.returns-then-l-m-clause-concluded
returns-then-l-m-clause-concluded c =
    let f = c.args.bank.now in
    not_concluded f f c.args.from.now c.args.l c.args.m c.args.clause.now (λ x. x.opposite (signs_same c.args.l.positive c.args.m.positive c.if-l-m.true))

pub returns-then-not-branch-clause-concluded : goal.returns-then-not-branch-clause-concluded
returns-then-not-branch-clause-concluded c =
    let f = c.args.bank.now in
    not_concluded f f c.args.from.now c.args.l c.args.m c.args.clause.now (λ x. c.in_ok-unify_properly.ensures.no c.if-not-branch.true x.unifier x.most_general x.proper)

pub is_instance-requires-clause-member : goal.is_instance-requires-clause-member
is_instance-requires-clause-member c = c.requires.from.ids

pub is_instance-requires-clause-bindings : goal.is_instance-requires-clause-bindings
is_instance-requires-clause-bindings c = (c.in_ok-unify_properly.ensures.yes c.if-not-branch.false).bindings

pub returns-clause-concluded : goal.returns-clause-concluded
returns-clause-concluded c =
    let u = c.in_ok-unify_properly.ensures.yes c.if-not-branch.false in
    IfOk-weaker c.is_instance.result _ _
    (instance_concludes c.args.bank.now c.unify_properly.new.bindings.entries c.args.from.now c.args.l c.args.m c.args.clause.now (signs_differ c.args.l.positive c.args.m.positive c.if-l-m.false) u c.requires.clause)
    c.is_instance.ensures.instance

pub returns-clause-formed : goal.returns-clause-formed
returns-clause-formed c =
    let f = c.args.bank.now in
    let u = c.in_ok-unify_properly.ensures.yes c.if-not-branch.false in
    λ h. c.is_instance.ensures.formed h (unified_terms f c.unify_properly.new.bindings.entries (tree_at f c.args.l.atom) (tree_at f c.args.m.atom) c.requires.left.atom c.requires.right.atom u)
