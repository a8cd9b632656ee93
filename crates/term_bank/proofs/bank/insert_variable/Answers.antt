use Rattle.std.proofs.Common.{refl, ◌∷◌, ◌++◌, [], Some}
use Rattle.term_bank.specs.declared.node.Node.TheVariants.{Var}
use Rattle.term_bank.specs.Nodes.{trees_of}
use Rattle.term_bank.proofs.Measures.{variable_measures, IsBankWith, known_step, new_step}
use Rattle.term_bank.proofs.bank.insert_variable.Goals as goal

known : (c : goal.Then-not-new) → IsBankWith c.args.symbols.now.keys c.args.nodes.now.keys c.variable_number.new.nodes.keys c.args.measures.now.items (Var c.args.v) c.in_ok-id.id
known c =
    known_step c.args.symbols.now.keys c.args.nodes.now.keys c.variable_number.new.nodes.keys c.args.measures.now.items (Var c.args.v) c.in_ok-id.id c.in_ok-id.new c.requires refl
    c.in_ok-id.ensures.numbered c.if-not-new.true

made : (c : goal.After-push_reserved) → IsBankWith c.args.symbols.now.keys c.args.nodes.now.keys c.variable_number.new.nodes.keys
    (c.args.measures.now.items ++ record { size = 1; weight = 0; greatest = Some c.args.v } ∷ []) (Var c.args.v) c.in_ok-id.id
made c =
    new_step c.args.symbols.now.keys c.args.nodes.now.keys c.variable_number.new.nodes.keys c.args.measures.now.items (Var c.args.v) c.in_ok-id.id c.in_ok-id.new c.requires refl
    c.in_ok-id.ensures.numbered c.if-not-new.false _ refl (variable_measures c.args.symbols.now.keys (trees_of c.args.symbols.now.keys c.args.nodes.now.keys) c.args.v)

pub returns-then-not-new-clause-at : goal.returns-then-not-new-clause-at
returns-then-not-new-clause-at c = (known c).at

pub returns-clause-bank : goal.returns-clause-bank
returns-clause-bank c = rw (c.push_reserved.ensures.items, c.make_room.ensures.items) (made c).bank

pub returns-clause-extends : goal.returns-clause-extends
returns-clause-extends c = (made c).extends

pub returns-clause-formed : goal.returns-clause-formed
returns-clause-formed c old = (made c).formed old refl

pub returns-clause-at : goal.returns-clause-at
returns-clause-at c = (made c).at
