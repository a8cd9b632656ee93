use Rattle.std.proofs.Common.{ap, ◌∙◌, take}
use Rattle.term_bank.specs.Forest.{Forest}
use Rattle.term_bank.specs.Nodes.{trees_of}
use Rattle.term_bank.proofs.Cuts.{trees_take, bank_take}
use Rattle.term_bank.proofs.bank.Bank.truncate.Goals as goal

pub invariant_of-self : goal.invariant_of-self
invariant_of-self c =
    rw (c.truncate.ensures.keys, c.truncate-2.ensures.items) (bank_take c.self.inside.symbols.keys c.self.inside.nodes.keys c.args.len c.self.inside.measures.items c.self.invariant)

pub returns-clause-trees : goal.returns-clause-trees
returns-clause-trees c =
    ap (trees_of c.self.inside.symbols.keys) c.truncate.ensures.keys
    ∙ trees_take c.self.inside.symbols.keys c.self.inside.nodes.keys c.args.len ∙ ap (λ (f : Forest). take c.args.len f.trees) c.self.view_is
