use Rattle.std.proofs.Common.{◌≡◌, ◌<◌, length, ap, sym, subst, IfOk}
use Rattle.inst_logic.specs.Tree.{Tree}
use Rattle.term_bank.specs.Forest.{Forest, nth, IsFormed, AreFormedTrees}
use Rattle.term_bank.specs.Nodes.{trees_of}
use Rattle.term_bank.proofs.Readings.{within, symbol_within, read_variable, read_application, no_variable, like_is}
use Rattle.term_bank.proofs.bank.Bank.app_like.Goals as goal

pub node_at-requires : goal.node_at-requires
node_at-requires c = within c.self.inside.symbols.keys c.self.inside.nodes.keys c.self.inside.measures.items c.args.self.now c.self.invariant (ap (λ (f : Forest). f.trees) c.self.view_is) c.args.like c.requires.within

pub unreachable-requires : goal.unreachable-requires
unreachable-requires c =
    no_variable c.self.inside.symbols.keys c.self.inside.nodes.keys c.self.inside.measures.items c.args.self.now c.self.invariant (ap (λ (f : Forest). f.trees) c.self.view_is) c.args.like c.requires.within
    c.in-Var.field-0 (read_variable _ _ _ _ c.node_at.ensures c.parts.ensures c.in-Var.is) c.requires.application

pub insert_numbered-result-requires-clause-number : goal.insert_numbered-result-requires-clause-number
insert_numbered-result-requires-clause-number c =
    symbol_within c.self.inside.symbols.keys c.self.inside.nodes.keys c.self.inside.measures.items c.args.self.now c.self.invariant (ap (λ (f : Forest). f.trees) c.self.view_is) c.args.like c.requires.within
    c.in-App.number _ (read_application _ _ _ _ _ c.node_at.ensures c.parts.ensures c.in-App.is)

pub returns-clause-at : goal.returns-clause-at
returns-clause-at c =
    let new = trees_of c.self.inside.symbols.keys c.insert_numbered-result.new.nodes.keys in
    subst (λ (t : Tree). IfOk c.insert_numbered-result.result (λ i. (i < length new) × (nth new i ≡ t)))
    (like_is c.self.inside.symbols.keys c.self.inside.nodes.keys c.self.inside.measures.items c.args.self.now c.self.invariant (ap (λ (f : Forest). f.trees) c.self.view_is) c.args.like c.requires.within
    _ _ (read_application _ _ _ _ _ c.node_at.ensures c.parts.ensures c.in-App.is) c.args.args.now)
    c.insert_numbered-result.ensures.at

pub returns-clause-formed : goal.returns-clause-formed
returns-clause-formed c old made =
    c.insert_numbered-result.ensures.formed (subst AreFormedTrees (sym (ap (λ (f : Forest). f.trees) c.self.view_is)) old)
    (subst IsFormed (sym (like_is c.self.inside.symbols.keys c.self.inside.nodes.keys c.self.inside.measures.items c.args.self.now c.self.invariant (ap (λ (f : Forest). f.trees) c.self.view_is) c.args.like c.requires.within
    _ _ (read_application _ _ _ _ _ c.node_at.ensures c.parts.ensures c.in-App.is) c.args.args.now)) made)
