use Rattle.std.proofs.Common.{◌≡◌, ◌∙◌, ◌+◌, ◌∷◌, sym, subst, arith, ℕ}
use Rattle.term_index.specs.declared.label.Label.{Label}
use Rattle.term_index.specs.declared.label.Label.TheVariants.{Variable, Symbol}
use Rattle.term_index.specs.declared.walk.Frame.{Frame}
use Rattle.term_index.specs.Run.{node_at}
use Rattle.term_index.specs.Frames.{rest_of, AddsInner, AddsNext}
use Rattle.term_index.proofs.AddLaws.{first_taken, adds_variable, adds_symbol}
use Rattle.term_index.proofs.walk.advance.Goals as goal

pub returns-in_ok-push_any-in-Variable-clause-next : goal.returns-in_ok-push_any-in-Variable-clause-next
returns-in_ok-push_any-in-Variable-clause-next c =
    let g = c.args.query.now in
    let t = c.args.trie.now in
    let f = c.args.frame in
    let w = c.args.walk.now in
    let q = c.argument-node.result in
    let after : Frame = record { node = f.node; at = f.at + 1; end = f.end; rest = f.rest; cells = f.cells } in
    let here : (node_at g q).label ≡ Variable = sym c.query_label-label.ensures ∙ c.in-Variable.is in
    let next : ℕ → Type 0 = λ n. AddsNext c.args.view g t.edges.keys t.nodes.items (record { node = f.node; todo = (0, n ∷ rest_of g w.cells.items after) }) f.cells w.cells.items w.stack.items c.push_any.new.stack.items in
    let r = c.requires.frame in
    subst (λ s. AddsNext c.args.view g t.edges.keys t.nodes.items s f.cells w.cells.items w.stack.items c.push_any.new.stack.items)
    (first_taken g w.cells.items f c.requires.first c.requires.frame.2)
    (subst next c.argument-node.ensures
    (adds_variable c.args.view g t.edges.keys t.places t.nodes.items c.requires.trie w.cells.items q after w.stack.items c.push_any.new.stack.items (r.0, omega (arith, c.requires.first), r.2, r.3, r.4) here c.in_ok-push_any-in-Variable.ensures.bends c.in_ok-push_any-in-Variable.ensures.stays))

pub returns-in_ok-push_symbol-in-Symbol-clause-next : goal.returns-in_ok-push_symbol-in-Symbol-clause-next
returns-in_ok-push_symbol-in-Symbol-clause-next c =
    let g = c.args.query.now in
    let t = c.args.trie.now in
    let f = c.args.frame in
    let w = c.args.walk.now in
    let q = c.argument-node.result in
    let new = c.push_symbol.new.walk in
    let after : Frame = record { node = f.node; at = f.at + 1; end = f.end; rest = f.rest; cells = f.cells } in
    let here : (node_at g q).label ≡ Symbol c.in-Symbol.field-0 c.in-Symbol.field-1 = sym c.query_label-label.ensures ∙ c.in-Symbol.is in
    let next : ℕ → Type 0 = λ n. AddsNext c.args.view g t.edges.keys t.nodes.items (record { node = f.node; todo = (0, n ∷ rest_of g w.cells.items after) }) f.cells new.cells.items w.stack.items new.stack.items in
    let inner : Label → Type 0 = λ l. AddsInner g t.edges.keys t.nodes.items w.cells.items new.cells.items q l after c.push_variable.new.stack.items new.stack.items in
    let r = c.requires.frame in
    subst (λ s. AddsNext c.args.view g t.edges.keys t.nodes.items s f.cells new.cells.items w.stack.items new.stack.items)
    (first_taken g w.cells.items f c.requires.first c.requires.frame.2)
    (subst next c.argument-node.ensures
    (adds_symbol c.args.view g t.edges.keys t.places t.nodes.items c.requires.trie w.cells.items new.cells.items q c.in-Symbol.field-0 c.in-Symbol.field-1 after
    w.stack.items c.push_variable.new.stack.items new.stack.items c.requires.cells c.push_symbol.ensures.grows (r.0, omega (arith, c.requires.first), r.2, r.3, r.4) here
    c.in_ok-push_variable-in-Symbol.ensures.bends c.in_ok-push_variable-in-Symbol.ensures.stays (subst inner c.in-Symbol.is c.in_ok-push_symbol-in-Symbol.ensures.adds)))
