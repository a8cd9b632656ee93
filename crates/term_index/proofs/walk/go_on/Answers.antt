use Rattle.std.proofs.Common.{[], ◌∷◌, ◌++◌, length, sym, subst, ℕ}
use Rattle.term_index.specs.Frames.{spot, AddsNext}
use Rattle.term_index.specs.Walking.{GoesOn}
use Rattle.term_index.proofs.WalkLaws.{on_leaf, on_next, last_frame, first_is, same_is, settled_is, cut_walking, from_cut}
use Rattle.term_index.proofs.walk.go_on.Goals as goal

pub returns-then-is_done : goal.returns-then-is_done
returns-then-is_done c =
    let v = c.args.view in
    let g = c.args.query.now in
    let es = c.args.trie.now.edges.keys in
    let ps = c.args.trie.now.places in
    let ns = c.args.trie.now.nodes.items in
    let a = c.requires.trie in
    let w = c.args.walk.now in
    let st = w.stack.items in
    let f = c.args.frame in
    let k = c.argument_frame-first.result in
    let ds = c.truncate.new.self.items in
    let cut = c.truncate.ensures.items in
    let walking = cut_walking v g es ps ns a w.cells.items ds st f w.leaf c.requires.walking cut in
    from_cut v g es ps ns a w.cells.items ds st f w.leaf c.requires.walking cut w.place ds st k.node 0
    (on_leaf v g es ps ns a ds st f k w.leaf w.place walking c.requires.over
    (same_is g c.as_slice.result.now ds f k c.as_slice.ensures.value walking.cells c.argument_frame-first.ensures.same)
    (c.is_done.ensures.yes c.if-is_done.true) (settled_is g c.as_slice.result.now ds k c.as_slice.ensures.value walking.cells c.argument_frame-first.ensures.first))

pub advance-requires-clause-frame : goal.advance-requires-clause-frame
advance-requires-clause-frame c =
    let g = c.args.query.now in
    let ns = c.args.trie.now.nodes.items in
    let w = c.args.walk.now in
    let ds = c.truncate.new.self.items in
    let walking = cut_walking c.args.view g c.args.trie.now.edges.keys c.args.trie.now.places ns c.requires.trie w.cells.items ds w.stack.items c.args.frame w.leaf c.requires.walking c.truncate.ensures.items in
    first_is g (length ns) c.as_slice.result.now ds c.args.frame c.argument_frame-first.result c.as_slice.ensures.value walking.cells c.argument_frame-first.ensures.frame
    (last_frame g (length ns) (length ds) w.stack.items c.args.frame walking.frames)

pub advance-requires-clause-cells : goal.advance-requires-clause-cells
advance-requires-clause-cells c =
    let w = c.args.walk.now in
    (cut_walking c.args.view c.args.query.now c.args.trie.now.edges.keys c.args.trie.now.places c.args.trie.now.nodes.items c.requires.trie w.cells.items c.truncate.new.self.items w.stack.items c.args.frame w.leaf c.requires.walking c.truncate.ensures.items).cells

pub returns : goal.returns
returns c =
    let v = c.args.view in
    let g = c.args.query.now in
    let es = c.args.trie.now.edges.keys in
    let ps = c.args.trie.now.places in
    let ns = c.args.trie.now.nodes.items in
    let a = c.requires.trie in
    let w = c.args.walk.now in
    let st = w.stack.items in
    let f = c.args.frame in
    let k = c.argument_frame-first.result in
    let ds = c.truncate.new.self.items in
    let cut = c.truncate.ensures.items in
    let walking = cut_walking v g es ps ns a w.cells.items ds st f w.leaf c.requires.walking cut in
    let next = c.advance.new.walk in
    let low : ℕ → Type 0 = λ n. AddsNext v g es ns (spot g ds k) n next.cells.items st next.stack.items in
    let leaf : ℕ → Type 0 = λ n. GoesOn v g es ns w.cells.items (st ++ f ∷ []) w.leaf w.place next.cells.items next.stack.items n w.place in
    let place : ℕ → Type 0 = λ n. GoesOn v g es ns w.cells.items (st ++ f ∷ []) w.leaf w.place next.cells.items next.stack.items next.leaf n in
    subst place (sym c.advance.ensures.stays.1) (subst leaf (sym c.advance.ensures.stays.0)
    (from_cut v g es ps ns a w.cells.items ds st f w.leaf c.requires.walking cut w.place next.cells.items next.stack.items w.leaf w.place
    (on_next v g es ps ns a ds next.cells.items st next.stack.items f k w.leaf w.place walking c.in_ok-advance.ensures.cells c.advance.ensures.grows
    (subst low c.argument_frame-first.ensures.cells c.in_ok-advance.ensures.next)
    (same_is g c.as_slice.result.now ds f k c.as_slice.ensures.value walking.cells c.argument_frame-first.ensures.same))))
