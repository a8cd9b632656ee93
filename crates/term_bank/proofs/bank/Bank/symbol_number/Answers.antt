use Rattle.std.proofs.Common.{ap, sym}
use Rattle.std.specs.Prelude.{option_map}
use Rattle.term_bank.specs.Forest.{Forest, symbol_of, number_of}
use Rattle.term_bank.proofs.Readings.{within, read_variable, read_application, at_variable, number_is, symbol_numbered}
use Rattle.term_bank.proofs.bank.Bank.symbol_number.Goals as goal

pub node_at-requires : goal.node_at-requires
node_at-requires c = within c.self.inside.symbols.keys c.self.inside.nodes.keys c.self.inside.measures.items c.args.self.now c.self.invariant (ap (λ (f : Forest). f.trees) c.self.view_is) c.args.id c.requires

pub returns-in-Var-clause-number : goal.returns-in-Var-clause-number
returns-in-Var-clause-number c =
    ap (λ t. option_map (number_of c.args.self.now.symbols) (symbol_of t))
    (sym (at_variable c.self.inside.symbols.keys c.self.inside.nodes.keys c.self.inside.measures.items c.args.self.now c.self.invariant (ap (λ (f : Forest). f.trees) c.self.view_is) c.args.id c.requires _ (read_variable _ _ _ _ c.node_at.ensures c.parts.ensures c.in-Var.is)))

pub returns-in-Var-clause-symbol : goal.returns-in-Var-clause-symbol
returns-in-Var-clause-symbol c = ap symbol_of (sym (at_variable c.self.inside.symbols.keys c.self.inside.nodes.keys c.self.inside.measures.items c.args.self.now c.self.invariant (ap (λ (f : Forest). f.trees) c.self.view_is) c.args.id c.requires _ (read_variable _ _ _ _ c.node_at.ensures c.parts.ensures c.in-Var.is)))

pub returns-in-App-clause-number : goal.returns-in-App-clause-number
returns-in-App-clause-number c =
    number_is c.self.inside.symbols.keys c.self.inside.nodes.keys c.self.inside.measures.items c.args.self.now c.self.invariant (ap (λ (f : Forest). f.trees) c.self.view_is) c.args.id c.requires
    c.args.self.now.symbols (ap (λ (f : Forest). f.symbols) c.self.view_is) _ _ (read_application _ _ _ _ _ c.node_at.ensures c.parts.ensures c.in-App.is)

pub returns-in-App-clause-symbol : goal.returns-in-App-clause-symbol
returns-in-App-clause-symbol c =
    symbol_numbered c.self.inside.symbols.keys c.self.inside.nodes.keys c.self.inside.measures.items c.args.self.now c.self.invariant (ap (λ (f : Forest). f.trees) c.self.view_is) c.args.id c.requires
    c.args.self.now.symbols (ap (λ (f : Forest). f.symbols) c.self.view_is) _ _ (read_application _ _ _ _ _ c.node_at.ensures c.parts.ensures c.in-App.is)
