use Rattle.std.proofs.Common.{◌≡◌, ℕ, ◌+◌, ◌-◌, ◌^◌, ◌<◌, min, List, [], ◌∷◌, ◌++◌, length, refl, sym, ◌∙◌, arith, subst}
use Rattle.std.specs.Prelude.{sum_by}
use Rattle.std.specs.List.{All}
use Rattle.inst_logic.specs.declared.symbol.Sym.{Sym}
use Rattle.inst_logic.specs.declared.symbol.Kind.{Kind}
use Rattle.inst_logic.specs.Measure.{function_count}
use Rattle.term_bank.specs.declared.node.Node.{Node}
use Rattle.term_bank.specs.declared.node.Measures.{Measures}
use Rattle.term_bank.specs.Forest.{symbol_at, IsFormed}
use Rattle.term_bank.specs.Nodes.{trees_of, IsBank, measures_in, node_of, node_tree, AreMeasuresOf}
use Rattle.term_bank.proofs.Nodes.{length_trees, exact_of}
use Rattle.term_bank.proofs.Measures.{IsBankWith, known_step, new_step, application_measures, node_of_tree, node_of_fits}
use Rattle.term_bank.proofs.bank.insert_numbered.Goals as goal

within_nodes : (ss : List Sym) (ns : List Node) (args : List ℕ) → All (λ i. i < length (trees_of ss ns)) args → All (λ i. i < length ns) args
within_nodes ss ns args h k d l = let p = h k d l in omega (arith, length_trees ss ns)

within_measures : (ss : List Sym) (ns : List Node) (ms : List Measures) → IsBank ss ns ms → (args : List ℕ) → All (λ i. i < length (trees_of ss ns)) args → All (λ i. i < length ms) args
within_measures ss ns ms b args h k d l = let p = h k d l in omega (arith, length_trees ss ns, b.beside)

known : (c : goal.Then-not-new) → IsBankWith c.args.symbols.now.keys c.args.nodes.now.keys c.application_number.new.nodes.keys c.args.measures.now.items (node_of c.args.number c.args.args.now) c.in_ok-id.id
known c =
    let ss = c.args.symbols.now.keys in
    let ns = c.args.nodes.now.keys in
    known_step ss ns c.application_number.new.nodes.keys c.args.measures.now.items (node_of c.args.number c.args.args.now) c.in_ok-id.id c.in_ok-id.new c.requires.bank
    (node_of_fits (length ss) (length ns) c.args.number c.args.args.now c.requires.number (within_nodes ss ns c.args.args.now c.requires.within)) c.in_ok-id.ensures.numbered c.if-not-new.true

made : (c : goal.After-push_reserved) → IsBankWith c.args.symbols.now.keys c.args.nodes.now.keys c.application_number.new.nodes.keys
    (c.make_room.new.measures.items ++ c.application_measures-found.result ∷ []) (node_of c.args.number c.args.args.now) c.in_ok-id.id
made c =
    let ss = c.args.symbols.now.keys in
    let ns = c.args.nodes.now.keys in
    let ms = c.make_room.new.measures.items in
    let args = c.args.args.now in
    let within = within_nodes ss ns args c.requires.within in
    let bank : IsBank ss ns ms = rw c.make_room.ensures.items c.requires.bank in
    let found = c.application_measures-found.ensures in
    let measured : AreMeasuresOf (node_tree ss (trees_of ss ns) (node_of c.args.number args)) c.application_measures-found.result =
    rw (node_of_tree ss (trees_of ss ns) c.args.number args) (application_measures ss ns ms bank c.args.number (symbol_at ss c.args.number) args c.application_measures-found.result refl within found.size
    (subst (λ (k : Kind). c.application_measures-found.result.weight ≡ min (sum_by (λ i. (measures_in ms i).weight) args + function_count k) (2 ^ 64 - 1)) c.kind_at-kind.ensures found.weight) found.greatest) in
    new_step ss ns c.application_number.new.nodes.keys ms (node_of c.args.number args) c.in_ok-id.id c.in_ok-id.new bank
    (node_of_fits (length ss) (length ns) c.args.number args c.requires.number within) c.in_ok-id.ensures.numbered c.if-not-new.false c.application_measures-found.result (exact_of c.args.number args) measured

pub application_measures-found-requires : goal.application_measures-found-requires
application_measures-found-requires c =
    rw c.make_room.ensures.items (within_measures c.args.symbols.now.keys c.args.nodes.now.keys c.args.measures.now.items c.requires.bank c.args.args.now c.requires.within)

pub returns-then-not-new-clause-at : goal.returns-then-not-new-clause-at
returns-then-not-new-clause-at c =
    let at = (known c).at in
    (at.0, at.1 ∙ node_of_tree c.args.symbols.now.keys (trees_of c.args.symbols.now.keys c.args.nodes.now.keys) c.args.number c.args.args.now)

pub returns-clause-bank : goal.returns-clause-bank
returns-clause-bank c = rw c.push_reserved.ensures.items (made c).bank

pub returns-clause-extends : goal.returns-clause-extends
returns-clause-extends c = (made c).extends

pub returns-clause-formed : goal.returns-clause-formed
returns-clause-formed c old formed =
    (made c).formed old (subst IsFormed (sym (node_of_tree c.args.symbols.now.keys (trees_of c.args.symbols.now.keys c.args.nodes.now.keys) c.args.number c.args.args.now)) formed)

pub returns-clause-at : goal.returns-clause-at
returns-clause-at c =
    let at = (made c).at in
    (at.0, at.1 ∙ node_of_tree c.args.symbols.now.keys (trees_of c.args.symbols.now.keys c.args.nodes.now.keys) c.args.number c.args.args.now)
