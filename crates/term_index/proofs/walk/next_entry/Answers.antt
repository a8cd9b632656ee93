use Rattle.std.proofs.Common.{◌≡◌, ◌∙◌, [], sym, subst, arith, List}
use Rattle.term_index.specs.declared.walk.Frame.{Frame}
use Rattle.term_index.specs.Walking.{WalkComes, GoesOn}
use Rattle.term_index.specs.Tries.{StillComes}
use Rattle.term_index.proofs.WalkLaws.{gives_at, over_at, most_given, empty_list}
use Rattle.term_index.proofs.walk.next_entry.Goals as goal

pub returns-in-Some-clause-gives : goal.returns-in-Some-clause-gives
returns-in-Some-clause-gives c =
    let w = c.loop-entry.walk in
    let i = c.loop-entry.invariant in
    let h = rw c.pairs_at.ensures at c.in-Some.ensures in (
      gives_at c.args.view c.args.query.now c.args.trie.now.edges.keys c.args.trie.now.places c.args.trie.now.nodes.items c.requires.trie w.cells.items w.stack.items w.leaf w.place h.0 c.in-Some.entry
          (StillComes c.args.view c.args.query.now c.args.trie.now c.args.walk.now) i.walking h.1 h.2 i.comes,
      omega (arith, i.most, most_given c.args.view c.args.query.now c.args.trie.now.edges.keys c.args.trie.now.places c.args.trie.now.nodes.items c.requires.trie w.stack.items w.leaf w.place h.1),
    )

pub returns-in-None-clause-gives : goal.returns-in-None-clause-gives
returns-in-None-clause-gives c =
    let w = c.loop-entry.walk in
    let i = c.loop-entry.invariant in
    let over = rw c.pairs_at.ensures at c.in_default.ensures in
    let none : w.stack.items ≡ [] = empty_list w.stack.items (omega (arith, c.in-None.ensures.cases.0, w.stack.ok.0)) in
    let left : c.pop.new.self.items ≡ [] = empty_list c.pop.new.self.items (omega (arith, c.in-None.ensures.cases.1, c.pop.new.self.ok.0)) in
    let r = over_at c.args.view c.args.query.now c.args.trie.now.edges.keys c.args.trie.now.places c.args.trie.now.nodes.items c.requires.trie w.cells.items w.stack.items w.leaf w.place
    (StillComes c.args.view c.args.query.now c.args.trie.now c.args.walk.now) none over i.comes in
    (r.0, λ q. subst (λ (st : List Frame). WalkComes c.args.view c.args.query.now c.args.trie.now.edges.keys c.args.trie.now.nodes.items w.cells.items st w.leaf w.place q → ⊥) (none ∙ sym left) (r.1 q))

pub loop-entry-preserved : goal.loop-entry-preserved
loop-entry-preserved c =
    let w = c.loop-entry.walk in
    let i = c.loop-entry.invariant in
    let next = c.go_on.new.walk in
    let on = subst (λ (st : List Frame). GoesOn c.args.view c.args.query.now c.args.trie.now.edges.keys c.args.trie.now.nodes.items w.cells.items st w.leaf w.place next.cells.items next.stack.items next.leaf next.place) (sym c.in-Some-pop.ensures.items) c.in_ok-go_on-in-Some-pop.ensures in
    record {
      walking = on.walking;
      comes = λ p. ((λ x. (i.comes p).0 ((on.comes p).0 x)), (λ x. (on.comes p).1 ((i.comes p).1 x)));
      most = omega (arith, on.most, i.most);
    }
