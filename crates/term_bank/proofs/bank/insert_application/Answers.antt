use Rattle.std.proofs.Common.{◌≡◌, ◌<◌, List, length, map, ap, sym, subst, arith, IfOk, OnErr}
use Rattle.std.specs.List.{All}
use Rattle.inst_logic.specs.declared.symbol.Sym.{Sym}
use Rattle.inst_logic.specs.Tree.{Tree, app, of_list}
use Rattle.term_bank.specs.Forest.{ExtendsTrees, IsFormed, AreFormedTrees, nth}
use Rattle.term_bank.specs.Nodes.{trees_of}
use Rattle.term_bank.proofs.Measures.{symbol_step, symbols_kept}
use Rattle.term_bank.proofs.Cuts.{on_err}
use Rattle.term_bank.proofs.bank.insert_application.Goals as goal

extends_same : (ts us : List Tree) → us ≡ ts → ExtendsTrees ts us
extends_same ts us e = (omega (arith, ap (λ (xs : List Tree). length xs) e), λ i h. ap (λ (xs : List Tree). nth xs i) e)

-- what holds of the number's symbol and the trees holds of the symbol and the old trees
read_back : (P : Sym → List Tree → Type 0) (r s : Sym) (us ts : List Tree) → r ≡ s → us ≡ ts → P r us → P s ts
read_back P r s us ts p q h = subst (λ (f : Sym). P f ts) p (subst (λ (xs : List Tree). P r xs) q h)

pub returns-in_err-number-clause-bank : goal.returns-in_err-number-clause-bank
returns-in_err-number-clause-bank c = (symbol_step _ _ _ c.args.nodes.now.keys c.args.measures.now.items c.requires.bank c.symbol_number.ensures.grown).bank

pub returns-in_err-number-clause-extends : goal.returns-in_err-number-clause-extends
returns-in_err-number-clause-extends c = extends_same _ _ (symbol_step _ _ _ c.args.nodes.now.keys c.args.measures.now.items c.requires.bank c.symbol_number.ensures.grown).trees

pub returns-in_err-number-clause-formed : goal.returns-in_err-number-clause-formed
returns-in_err-number-clause-formed c old new = subst AreFormedTrees (sym (symbol_step _ _ _ c.args.nodes.now.keys c.args.measures.now.items c.requires.bank c.symbol_number.ensures.grown).trees) old

pub returns-in_err-number-clause-symbols : goal.returns-in_err-number-clause-symbols
returns-in_err-number-clause-symbols c = symbols_kept _ _ _ c.symbol_number.ensures.grown

pub returns-clause-symbols : goal.returns-clause-symbols
returns-clause-symbols c = symbols_kept _ _ _ c.symbol_number.ensures.grown

pub insert_numbered-requires-clause-bank : goal.insert_numbered-requires-clause-bank
insert_numbered-requires-clause-bank c = (symbol_step _ _ _ c.args.nodes.now.keys c.args.measures.now.items c.requires.bank c.symbol_number.ensures.grown).bank

pub insert_numbered-requires-clause-within : goal.insert_numbered-requires-clause-within
insert_numbered-requires-clause-within c =
    subst (λ (ts : List Tree). All (λ i. i < length ts) c.args.args.now) (sym (symbol_step _ _ _ c.args.nodes.now.keys c.args.measures.now.items c.requires.bank c.symbol_number.ensures.grown).trees) c.requires.within

pub returns-clause-extends : goal.returns-clause-extends
returns-clause-extends c =
    subst (λ (ts : List Tree). ExtendsTrees ts (trees_of c.symbol_number.new.symbols.keys c.insert_numbered.new.nodes.keys))
    (symbol_step _ _ _ c.args.nodes.now.keys c.args.measures.now.items c.requires.bank c.symbol_number.ensures.grown).trees c.insert_numbered.ensures.extends

pub returns-clause-formed : goal.returns-clause-formed
returns-clause-formed c =
    let new = trees_of c.symbol_number.new.symbols.keys c.insert_numbered.new.nodes.keys in
    let P : Sym → List Tree → Type 0 = λ s ts. AreFormedTrees ts → IsFormed (app s (of_list (map (nth ts) c.args.args.now))) → AreFormedTrees new in
    read_back P _ _ _ _ c.in_ok-number.ensures.at (symbol_step _ _ _ c.args.nodes.now.keys c.args.measures.now.items c.requires.bank c.symbol_number.ensures.grown).trees c.insert_numbered.ensures.formed

pub returns-clause-at : goal.returns-clause-at
returns-clause-at c =
    let new = trees_of c.symbol_number.new.symbols.keys c.insert_numbered.new.nodes.keys in
    let P : Sym → List Tree → Type 0 = λ s ts. IfOk c.insert_numbered.result (λ i. (i < length new) × (nth new i ≡ app s (of_list (map (nth ts) c.args.args.now)))) in
    read_back P _ _ _ _ c.in_ok-number.ensures.at (symbol_step _ _ _ c.args.nodes.now.keys c.args.measures.now.items c.requires.bank c.symbol_number.ensures.grown).trees c.insert_numbered.ensures.at

pub returns-in_err-number-clause-held : goal.returns-in_err-number-clause-held
returns-in_err-number-clause-held c = on_err _ c.from_residual.result (symbol_step _ _ _ c.args.nodes.now.keys c.args.measures.now.items c.requires.bank c.symbol_number.ensures.grown).trees

pub returns-clause-held : goal.returns-clause-held
returns-clause-held c =
    subst (λ (ts : List Tree). OnErr c.insert_numbered.result (trees_of c.symbol_number.new.symbols.keys c.insert_numbered.new.nodes.keys ≡ ts))
    (symbol_step _ _ _ c.args.nodes.now.keys c.args.measures.now.items c.requires.bank c.symbol_number.ensures.grown).trees c.insert_numbered.ensures.held
