use Rattle.std.proofs.Common.{◌≡◌, ap, sym, ◌∙◌}
use Rattle.term_bank.specs.declared.node.Measures.{Measures}
use Rattle.term_bank.specs.Forest.{Forest, tree_at, is_ground}
use Rattle.term_bank.proofs.Readings.{beside, measures}
use Rattle.term_bank.proofs.Greatest.{ground_where_none}
use Rattle.term_bank.proofs.GroundTrees.{ground_by_variables}
use Rattle.term_bank.proofs.bank.Bank.ground.Goals as goal

pub measures_at-requires : goal.measures_at-requires
measures_at-requires c = beside c.self.inside.symbols.keys c.self.inside.nodes.keys c.self.inside.measures.items c.args.self.now c.self.invariant (ap (λ (f : Forest). f.trees) c.self.view_is) c.args.id c.requires

pub returns : goal.returns
returns c =
    let k = measures c.self.inside.symbols.keys c.self.inside.nodes.keys c.self.inside.measures.items c.args.self.now c.self.invariant (ap (λ (f : Forest). f.trees) c.self.view_is) c.args.id c.requires in
    let greatest = ap (λ (x : Measures). x.greatest) c.measures_at.ensures ∙ k.greatest in
    let test : c.is_none.result ≡ is_ground (tree_at c.args.self.now c.args.id) =
    sym (ground_where_none (tree_at c.args.self.now c.args.id) _ _ greatest c.is_none.ensures) in
    let by = ground_by_variables (tree_at c.args.self.now c.args.id) in
    record {
      test = test;
      variables = (λ h. by.0 (sym test ∙ h), λ e. test ∙ by.1 e);
    }
