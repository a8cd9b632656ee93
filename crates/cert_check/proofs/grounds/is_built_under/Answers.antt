use Rattle.std.proofs.Common.{◌∙◌, sym}
use Rattle.term_bank.proofs.Clauses.{clause_extends, clause_of_extends}
use Rattle.cert_check.proofs.grounds.is_built_under.Goals as goal

pub same_trees-requires-clause-left : goal.same_trees-requires-clause-left
same_trees-requires-clause-left c = clause_of_extends c.args.bank.now c.built_under.new.bank c.built_under.ensures.extends c.args.ground.now c.requires.ground

pub returns-clause-instance : goal.returns-clause-instance
returns-clause-instance c =
    let same = clause_extends c.args.bank.now c.built_under.new.bank c.built_under.ensures.extends c.args.ground.now c.requires.ground in
    let at = c.in_ok-built.ensures.instance.1 in
    ((λ t. sym same ∙ c.same_trees.ensures.0 t ∙ at), (λ e. c.same_trees.ensures.1 (same ∙ e ∙ sym at)))
