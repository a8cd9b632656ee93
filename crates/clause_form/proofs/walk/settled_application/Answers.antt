use Rattle.std.proofs.Common.{◌≡◌, sym, ◌∙◌, subst, length, arith}
use Rattle.term_bank.specs.Forest.{IsFormed}
use Rattle.clause_form.specs.Walks.{numbers_of}
use Rattle.clause_form.proofs.Settling.{top_slice, first_is}
use Rattle.clause_form.proofs.walk.settled_application.Goals as goal

pub returns-clause-settled : goal.returns-clause-settled
returns-clause-settled c f x leaves within r final reading begun =
    let first = c.in_ok-settle_arguments.ensures.all c.if-not-branch.false in
    let start : c.len-start.result ≡ length c.args.ids.now.items = omega (arith, c.len-start.ensures, c.args.ids.now.ok) in
    let slice = top_slice c.args.ids.now.items first.built c.deref.result.now c.len-start.result (c.deref.ensures.value ∙ first.pushed) start in
    let is = first_is c.args.bank.now c.settle_arguments.new.bank c.args.leaves.now c.args.node c.args.ids.now.items c.settle_arguments.new.ids.items (numbers_of c.args.order.now) (numbers_of c.settle_arguments.new.order) _
    c.settle_arguments.ensures.extends c.requires.within c.requires.application first slice f x leaves within r final reading begun in
    let at = c.in_ok-id.ensures.at in
    ((at.0, at.1 ∙ is.0), is.1)

pub returns-clause-formed : goal.returns-clause-formed
returns-clause-formed c f r final x leaves within reading begun formed old =
    let first = c.in_ok-settle_arguments.ensures.all c.if-not-branch.false in
    let start : c.len-start.result ≡ length c.args.ids.now.items = omega (arith, c.len-start.ensures, c.args.ids.now.ok) in
    let slice = top_slice c.args.ids.now.items first.built c.deref.result.now c.len-start.result (c.deref.ensures.value ∙ first.pushed) start in
    let is = first_is c.args.bank.now c.settle_arguments.new.bank c.args.leaves.now c.args.node c.args.ids.now.items c.settle_arguments.new.ids.items (numbers_of c.args.order.now) (numbers_of c.settle_arguments.new.order) _
    c.settle_arguments.ensures.extends c.requires.within c.requires.application first slice f x leaves within r final reading begun in
    c.app_like.ensures.formed (c.settle_arguments.ensures.formed old) (subst IsFormed (sym is.0) formed)
