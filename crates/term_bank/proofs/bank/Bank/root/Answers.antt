use Rattle.std.proofs.Common.{ap, ◌∙◌, sym, map}
use Rattle.inst_logic.specs.declared.symbol.Sym.{Sym}
use Rattle.inst_logic.specs.Tree.{app, of_list}
use Rattle.term_bank.specs.Forest.{Forest, tree_at}
use Rattle.term_bank.proofs.Readings.{within, read_variable, read_application, at_variable, at_application, arguments_below}
use Rattle.term_bank.proofs.bank.Bank.root.Goals as goal

pub node_at-requires : goal.node_at-requires
node_at-requires c = within c.self.inside.symbols.keys c.self.inside.nodes.keys c.self.inside.measures.items c.args.self.now c.self.invariant (ap (λ (f : Forest). f.trees) c.self.view_is) c.args.id c.requires

pub returns-in-Var : goal.returns-in-Var
returns-in-Var c = at_variable c.self.inside.symbols.keys c.self.inside.nodes.keys c.self.inside.measures.items c.args.self.now c.self.invariant (ap (λ (f : Forest). f.trees) c.self.view_is) c.args.id c.requires _ (read_variable _ _ _ _ c.node_at.ensures c.parts.ensures c.in-Var.is)

pub returns-in-App : goal.returns-in-App
returns-in-App c =
    let f = c.args.self.now in
    let is = read_application _ _ _ _ _ c.node_at.ensures c.parts.ensures c.in-App.is in (
      at_application c.self.inside.symbols.keys c.self.inside.nodes.keys c.self.inside.measures.items f c.self.invariant (ap (λ (f : Forest). f.trees) c.self.view_is) c.args.id c.requires _ _ is
          ∙ ap (λ (s : Sym). app s (of_list (map (tree_at f) c.in-App.args.now))) (sym c.symbol_in.ensures),
      arguments_below c.self.inside.symbols.keys c.self.inside.nodes.keys c.self.inside.measures.items f c.self.invariant (ap (λ (f : Forest). f.trees) c.self.view_is) c.args.id c.requires _ _ is,
    )
