use Rattle.std.proofs.Common.{◌∙◌, ℕ, Option, ap, sym, subst}
use Rattle.inst_logic.specs.Substitution.{tree_vars}
use Rattle.term_bank.specs.declared.node.Measures.{Measures}
use Rattle.term_bank.specs.Forest.{Forest, tree_at}
use Rattle.term_bank.specs.Greatest.{IsGreatest}
use Rattle.term_bank.proofs.Readings.{beside, measures}
use Rattle.term_bank.proofs.Greatest.{greatest_is}
use Rattle.term_bank.proofs.bank.Bank.greatest_variable.Goals as goal

pub measures_at-requires : goal.measures_at-requires
measures_at-requires c = beside c.self.inside.symbols.keys c.self.inside.nodes.keys c.self.inside.measures.items c.args.self.now c.self.invariant (ap (λ (f : Forest). f.trees) c.self.view_is) c.args.id c.requires

pub returns : goal.returns
returns c =
    let k = measures c.self.inside.symbols.keys c.self.inside.nodes.keys c.self.inside.measures.items c.args.self.now c.self.invariant (ap (λ (f : Forest). f.trees) c.self.view_is) c.args.id c.requires in
    subst (λ (r : Option ℕ). IsGreatest (tree_vars (tree_at c.args.self.now c.args.id)) r) (sym (ap (λ (x : Measures). x.greatest) c.measures_at.ensures ∙ k.greatest)) (greatest_is (tree_at c.args.self.now c.args.id))
