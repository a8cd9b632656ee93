use Rattle.std.proofs.Common.{◌≡◌, ap, ◌∙◌, sym, subst, List, false}
use Rattle.term_index.specs.Nodes.{Content}
use Rattle.term_index.specs.Frames.{IsBegun}
use Rattle.term_index.specs.State.{State}
use Rattle.term_index.proofs.StartLaws.{started_walking, started_asked, started_exact, started_query, trie_of}
use Rattle.term_index.proofs.tree.TreePartnerIndex.start.Goals as goal

pub returns-clause-walks : goal.returns-clause-walks
returns-clause-walks c =
    let s = c.args.self.now in
    let e = ap (λ (t : State). t.edges) c.self.view_is in
    let n = ap (λ (t : State). t.nodes) c.self.view_is in
    let p = ap (λ (t : State). t.spent) c.self.view_is in
    let fresh : s.spent ≡ false = sym p ∙ c.if-self.false in
    let trie = trie_of c.self.inside.trie.edges.keys s.edges c.self.inside.trie.places s.places c.self.inside.trie.nodes.items s.nodes e (ap (λ (t : State). t.places) c.self.view_is) n (c.self.invariant c.if-self.false).0 in
    let copy = c.in_ok-query.ensures in
    let w = c.in_ok-walk.walk in
    let begun = subst (λ (xs : List Content). IsBegun xs w.cells.items w.stack.items w.leaf w.place) n c.in_ok-walk.ensures in
    λ _. (fresh, started_query c.args.bank.now c.args.query w.stack.items c.in_ok-query.query copy, started_walking c.args.bank.now c.args.view c.args.query c.in_ok-query.query s.edges s.places s.nodes trie w.cells.items w.stack.items w.leaf w.place copy begun)

pub returns-clause-asked : goal.returns-clause-asked
returns-clause-asked c =
    let s = c.args.self.now in
    let e = ap (λ (t : State). t.edges) c.self.view_is in
    let n = ap (λ (t : State). t.nodes) c.self.view_is in
    let p = ap (λ (t : State). t.spent) c.self.view_is in
    let fresh : s.spent ≡ false = sym p ∙ c.if-self.false in
    let trie = trie_of c.self.inside.trie.edges.keys s.edges c.self.inside.trie.places s.places c.self.inside.trie.nodes.items s.nodes e (ap (λ (t : State). t.places) c.self.view_is) n (c.self.invariant c.if-self.false).0 in
    let copy = c.in_ok-query.ensures in
    let w = c.in_ok-walk.walk in
    let begun = subst (λ (xs : List Content). IsBegun xs w.cells.items w.stack.items w.leaf w.place) n c.in_ok-walk.ensures in
    started_asked c.args.bank.now c.args.view c.args.query c.in_ok-query.query s.edges s.places s.nodes trie w.cells.items w.stack.items w.leaf w.place copy (c.requires.fits fresh) begun

pub returns-clause-exact : goal.returns-clause-exact
returns-clause-exact c =
    let s = c.args.self.now in
    let e = ap (λ (t : State). t.edges) c.self.view_is in
    let n = ap (λ (t : State). t.nodes) c.self.view_is in
    let p = ap (λ (t : State). t.spent) c.self.view_is in
    let fresh : s.spent ≡ false = sym p ∙ c.if-self.false in
    let trie = trie_of c.self.inside.trie.edges.keys s.edges c.self.inside.trie.places s.places c.self.inside.trie.nodes.items s.nodes e (ap (λ (t : State). t.places) c.self.view_is) n (c.self.invariant c.if-self.false).0 in
    let copy = c.in_ok-query.ensures in
    let w = c.in_ok-walk.walk in
    let begun = subst (λ (xs : List Content). IsBegun xs w.cells.items w.stack.items w.leaf w.place) n c.in_ok-walk.ensures in
    started_exact c.args.bank.now c.args.view c.args.query c.in_ok-query.query s.edges s.places s.nodes trie w.cells.items w.stack.items w.leaf w.place copy (c.requires.fits fresh) begun
