use Rattle.std.proofs.Common.{◌∙◌, length, ℕ, List, refl, sym, subst}
use Rattle.term_bank.specs.Forest.{tree_at}
use Rattle.term_index.specs.Labels.{labels}
use Rattle.term_index.specs.Left.{IsDescent, AreLeftNumbered}
use Rattle.term_index.specs.Paths.{IsChild}
use Rattle.term_index.proofs.DescentLaws.{descent_begun, descent_kept, none_below}
use Rattle.term_index.proofs.Growing.{grown_none, grown_both, grown_keeps}
use Rattle.term_index.proofs.paths.grown_leaf.Goals as goal

pub loop-id-init : goal.loop-id-init
loop-id-init c =
    let f = c.args.bank.now in
    let d = c.args.descent.now in
    record {
      grown = grown_none c.args.trie.now.edges.keys c.args.trie.now.nodes.items c.requires.count;
      descent = descent_begun f c.args.trie.now.edges.keys c.args.atom d.left.items d.opened.items d.closed.items c.requires.atom c.requires.begins;
      below = none_below (length d.left.items) d.opened.items c.requires.begins.1;
      within = c.requires.root;
      numbered = λ h. (subst (AreLeftNumbered f) c.requires.begins.0 h).1;
      pairs = λ n. refl;
      places = refl;
    }

pub loop-id-preserved : goal.loop-id-preserved
loop-id-preserved c =
    let f = c.args.bank.now in
    let es = c.loop-id.trie.edges.keys in
    let fs = c.grown_child.new.trie.edges.keys in
    let ns = c.loop-id.trie.nodes.items in
    let ms = c.grown_child.new.trie.nodes.items in
    let all = labels f (tree_at f c.args.atom) in
    let d = c.loop-id.descent in
    let before = c.loop-id.invariant in
    let next = c.in_ok-next.next in
    let grown = c.in_ok-next.ensures.grown in
    let kept = descent_kept f es fs (grown_keeps es fs ns ms grown) all c.loop-id.node d.left.items d.opened.items d.closed.items before.descent in
    let here = subst (λ (xs : List ℕ). IsDescent f fs all c.loop-id.node xs d.opened.items d.closed.items) c.in-Some.ensures.items kept in
    record {
      grown = grown_both c.args.trie.now.edges.keys es fs c.args.trie.now.nodes.items ns ms before.grown grown;
      descent = c.in_ok-pass.ensures.descent fs all here (subst (λ l. IsChild fs c.loop-id.node l next) c.in_ok-label_at.ensures.label c.in_ok-next.ensures.child);
      below = c.in_ok-pass.ensures.below;
      within = c.in_ok-next.ensures.within;
      numbered = λ h. before.numbered (subst (AreLeftNumbered f) (sym c.in-Some.ensures.items) (c.in_ok-pass.ensures.numbered c.in_ok-label_at.ensures.known h));
      pairs = λ n. c.grown_child.ensures.pairs n ∙ before.pairs n;
      places = c.grown_child.ensures.places ∙ before.places;
    }
