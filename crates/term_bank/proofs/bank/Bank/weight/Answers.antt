use Rattle.std.proofs.Common.{ap, ◌∙◌}
use Rattle.term_bank.specs.declared.node.Measures.{Measures}
use Rattle.term_bank.specs.Forest.{Forest}
use Rattle.term_bank.proofs.Readings.{beside, measures}
use Rattle.term_bank.proofs.bank.Bank.weight.Goals as goal

pub measures_at-requires : goal.measures_at-requires
measures_at-requires c = beside c.self.inside.symbols.keys c.self.inside.nodes.keys c.self.inside.measures.items c.args.self.now c.self.invariant (ap (λ (f : Forest). f.trees) c.self.view_is) c.args.id c.requires

pub returns : goal.returns
returns c =
    let k = measures c.self.inside.symbols.keys c.self.inside.nodes.keys c.self.inside.measures.items c.args.self.now c.self.invariant (ap (λ (f : Forest). f.trees) c.self.view_is) c.args.id c.requires in
    ap (λ (x : Measures). x.weight) c.measures_at.ensures ∙ k.weight
