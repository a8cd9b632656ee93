use Rattle.std.proofs.Common.{List, map, ap, subst}
use Rattle.inst_logic.specs.Tree.{Tree, app, of_list}
use Rattle.term_bank.specs.Forest.{Forest, nth, IsFormed, AreFormedTrees}
use Rattle.term_bank.specs.Nodes.{trees_of}
use Rattle.term_bank.proofs.bank.Bank.app.Goals as goal

pub returns-clause-at : goal.returns-clause-at
returns-clause-at c = rw (← c.self.view_is) c.insert_application-result.ensures.at

pub returns-clause-formed : goal.returns-clause-formed
returns-clause-formed c =
    let new = c.insert_application-result.new in
    let P : List Tree → Type 0 = λ ts. AreFormedTrees ts → IsFormed (app c.args.sym.now (of_list (map (nth ts) c.args.args.now))) → AreFormedTrees (trees_of new.symbols.keys new.nodes.keys) in
    subst P (ap (λ (f : Forest). f.trees) c.self.view_is) c.insert_application-result.ensures.formed
