use Rattle.std.proofs.Common.{ℕ, ◌∙◌, sym}
use Rattle.term_bank.specs.Forest.{clause_at, tree_at}
use Rattle.cert_check.proofs.GroundMembers.{ground_instance}
use Rattle.cert_check.proofs.grounds.is_under.Goals as goal

pub returns-in-None-clause-instance : goal.returns-in-None-clause-instance
returns-in-None-clause-instance c =
    let f = c.args.bank.now in
    let is = ground_instance (λ (v : ℕ). tree_at f c.args.term) (clause_at f c.args.c.now) c.requires.canonical c.in-None.ensures in
    ((λ t. c.same_trees.ensures.0 t ∙ sym is), (λ e. c.same_trees.ensures.1 (e ∙ is)))
