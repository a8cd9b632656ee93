use Rattle.std.proofs.Common.{◌≡◌, ◌∙◌, length, sym, subst, Contains, arith}
use Rattle.term_index.specs.Pairs.{Adds}
use Rattle.term_index.specs.Lists.{AreWithin}
use Rattle.term_index.specs.Paths.{PlaceLists, MakeTrie, AreListed, IsLinked, KeepsPairs}
use Rattle.term_index.specs.State.{pairs_of}
use Rattle.term_index.specs.StateLaws.{held_stored}
use Rattle.term_index.proofs.DescentLaws.{way_linked, way_within}
use Rattle.term_index.proofs.Growing.{grown_trie, grown_keeps}
use Rattle.term_index.proofs.Linking.{listed_trie}
use Rattle.term_index.proofs.TermLaws.{spans_labels}
use Rattle.term_index.proofs.PairLaws.{found_kept}
use Rattle.term_index.proofs.StoreLaws.{ChangesAt, pairs_kept, stored_kept, put_trie, put_adds, put_stored, on_err, held_pairs}
use Rattle.term_index.proofs.tree.stored_by.Goals as goal
use Rattle.term_index.proofs.tree.stored_by.Goals.{In_ok-put_pair}

pub returns-in_err-make_root-clause-held : goal.returns-in_err-make_root-clause-held
returns-in_err-make_root-clause-held c =
    on_err (pairs_of c.make_root.new.nodes.items ≡ pairs_of c.args.trie.now.nodes.items) c.from_residual.result (pairs_kept c.args.trie.now.nodes.items c.make_root.new.nodes.items c.make_root.ensures.pairs)

pub returns-in_err-node-clause-held : goal.returns-in_err-node-clause-held
returns-in_err-node-clause-held c =
    on_err (pairs_of c.grown_leaf.new.trie.nodes.items ≡ pairs_of c.args.trie.now.nodes.items) c.from_residual-in_err-node.result
    (pairs_kept c.args.trie.now.nodes.items c.grown_leaf.new.trie.nodes.items (λ n. c.grown_leaf.ensures.pairs n ∙ c.make_root.ensures.pairs n))

pub returns-in_err-link_all-clause-held : goal.returns-in_err-link_all-clause-held
returns-in_err-link_all-clause-held c =
    on_err (pairs_of c.link_all.new.nodes.items ≡ pairs_of c.args.trie.now.nodes.items) c.from_residual-in_err-link_all.result
    (pairs_kept c.args.trie.now.nodes.items c.link_all.new.nodes.items (λ n. c.link_all.ensures.pairs n ∙ c.grown_leaf.ensures.pairs n ∙ c.make_root.ensures.pairs n))

pub returns-in_err-put_pair-clause-held : goal.returns-in_err-put_pair-clause-held
returns-in_err-put_pair-clause-held c =
    on_err (pairs_of c.put_pair.new.nodes.items ≡ pairs_of c.args.trie.now.nodes.items) c.from_residual-in_err-put_pair.result
    (pairs_kept c.args.trie.now.nodes.items c.put_pair.new.nodes.items
    (λ n. held_pairs c.in_ok-node.node c.link_all.new.nodes.items c.put_pair.new.nodes.items c.put_pair.ensures.others c.in_err-put_pair.ensures.held n ∙ c.link_all.ensures.pairs n ∙ c.grown_leaf.ensures.pairs n ∙ c.make_root.ensures.pairs n))

pub link_all-requires-clause-within : goal.link_all-requires-clause-within
link_all-requires-clause-within c =
    subst (AreWithin (length c.grown_leaf.new.trie.nodes.items)) (sym c.as_slice.ensures.value)
    (way_within c.args.bank.now c.grown_leaf.new.trie.edges.keys (c.in_ok-node.ensures.grown.order c.requires.trie.order) c.args.pair.0 c.in_ok-node.node (length c.grown_leaf.new.trie.nodes.items) c.grown_leaf.new.descent.closed.items
    c.in_ok-node.ensures.within c.in_ok-node.ensures.way)

changes : (c : In_ok-put_pair) → ChangesAt c.in_ok-node.node c.link_all.new.nodes.items c.put_pair.new.nodes.items
changes c = record { len = c.put_pair.ensures.len; others = c.put_pair.ensures.others; exits = c.put_pair.ensures.exits }

kept : (c : In_ok-put_pair) → KeepsPairs c.args.trie.now.nodes.items c.link_all.new.nodes.items
kept c n = c.link_all.ensures.pairs n ∙ c.grown_leaf.ensures.pairs n ∙ c.make_root.ensures.pairs n

same : (c : In_ok-put_pair) → pairs_of c.link_all.new.nodes.items ≡ pairs_of c.args.trie.now.nodes.items
same c = pairs_kept c.args.trie.now.nodes.items c.link_all.new.nodes.items (kept c)

gone : (c : In_ok-put_pair) → ¬ (Contains (pairs_of c.link_all.new.nodes.items) c.args.pair)
gone c h = c.requires.absent (subst (λ ps. Contains ps c.args.pair) (same c) h)

grown : (c : In_ok-put_pair) → MakeTrie c.grown_leaf.new.trie.edges.keys c.grown_leaf.new.trie.places c.grown_leaf.new.trie.nodes.items
grown c =
    subst (λ (ps : PlaceLists). MakeTrie c.grown_leaf.new.trie.edges.keys ps c.grown_leaf.new.trie.nodes.items) (sym c.grown_leaf.ensures.places)
    (grown_trie c.args.trie.now.edges.keys c.grown_leaf.new.trie.edges.keys c.args.trie.now.places c.make_root.new.nodes.items c.grown_leaf.new.trie.nodes.items c.in_ok-make_root.ensures.root c.in_ok-node.ensures.grown
    (c.make_root.ensures.trie c.args.trie.now.edges.keys c.args.trie.now.places c.requires.trie))

listed : (c : In_ok-put_pair) → MakeTrie c.grown_leaf.new.trie.edges.keys c.link_all.new.places c.link_all.new.nodes.items
listed c =
    listed_trie c.grown_leaf.new.trie.edges.keys c.grown_leaf.new.trie.places c.link_all.new.places c.grown_leaf.new.trie.nodes.items c.link_all.new.nodes.items c.as_slice.result.now
    (grown c) c.in_ok-link_all.ensures.listed c.in_ok-link_all.ensures.all c.link_all.ensures.len c.link_all.ensures.pairs
    (λ s h. (c.in_ok-node.ensures.way.sound s (subst (λ xs. Contains xs s) c.as_slice.ensures.value h)).0)

linked : (c : In_ok-put_pair) → IsLinked c.grown_leaf.new.trie.edges.keys c.link_all.new.nodes.items c.in_ok-node.node
linked c =
    way_linked c.args.bank.now c.grown_leaf.new.trie.edges.keys c.link_all.new.nodes.items (grown c).order (grown c).once c.args.pair.0 c.in_ok-node.node c.grown_leaf.new.descent.closed.items
    (omega (arith, c.in_ok-node.ensures.within, c.in_ok-node.ensures.grown.count)) c.in_ok-node.ensures.way (λ s h. c.in_ok-link_all.ensures.all.all s (subst (λ xs. Contains xs s) (sym c.as_slice.ensures.value) h))

pub returns-clause-trie : goal.returns-clause-trie
returns-clause-trie c =
    put_trie c.in_ok-node.node c.link_all.new.nodes.items c.put_pair.new.nodes.items (changes c) c.args.pair c.in_ok-put_pair.ensures.pairs (gone c) c.grown_leaf.new.trie.edges.keys c.link_all.new.places
    (listed c) (linked c) (spans_labels c.args.bank.now c.grown_leaf.new.trie.edges.keys (Rattle.term_bank.specs.Forest.tree_at c.args.bank.now c.args.pair.0) c.in_ok-node.node c.in_ok-node.ensures.way.leads)

pub returns-clause-stored : goal.returns-clause-stored
returns-clause-stored c =
    put_stored c.in_ok-node.node c.link_all.new.nodes.items c.put_pair.new.nodes.items (changes c) c.args.pair c.in_ok-put_pair.ensures.pairs (gone c) c.args.bank.now c.grown_leaf.new.trie.edges.keys
    c.requires.within c.in_ok-node.ensures.way.leads c.in_ok-node.ensures.numbered
    (stored_kept c.args.bank.now c.args.trie.now.edges.keys c.grown_leaf.new.trie.edges.keys c.args.trie.now.nodes.items c.link_all.new.nodes.items
    (grown_keeps c.args.trie.now.edges.keys c.grown_leaf.new.trie.edges.keys c.make_root.new.nodes.items c.grown_leaf.new.trie.nodes.items c.in_ok-node.ensures.grown) (kept c) c.requires.stored)

pub returns-clause-added : goal.returns-clause-added
returns-clause-added c =
    subst (λ ps. Adds c.args.pair ps (pairs_of c.put_pair.new.nodes.items)) (same c)
    (put_adds c.in_ok-node.node c.link_all.new.nodes.items c.put_pair.new.nodes.items (changes c) c.args.pair c.in_ok-put_pair.ensures.pairs (gone c))

pub put_pair-requires-clause-absent : goal.put_pair-requires-clause-absent
put_pair-requires-clause-absent c = λ n h. c.requires.absent (subst (λ ps. Contains ps c.args.pair)
    (pairs_kept c.args.trie.now.nodes.items c.link_all.new.nodes.items (λ k. c.link_all.ensures.pairs k ∙ c.grown_leaf.ensures.pairs k ∙ c.make_root.ensures.pairs k)) (held_stored c.link_all.new.nodes.items n c.args.pair h))

pub put_pair-requires-clause-found : goal.put_pair-requires-clause-found
put_pair-requires-clause-found c =
    found_kept c.args.found.now.entries c.args.trie.now.nodes.items c.link_all.new.nodes.items
    (λ n. c.link_all.ensures.pairs n ∙ c.grown_leaf.ensures.pairs n ∙ c.make_root.ensures.pairs n) c.requires.found

pub grown_leaf-requires-clause-count : goal.grown_leaf-requires-clause-count
grown_leaf-requires-clause-count c = (c.make_root.ensures.trie c.args.trie.now.edges.keys c.args.trie.now.places c.requires.trie).count c.in_ok-make_root.ensures.root

pub link_all-requires-clause-listed : goal.link_all-requires-clause-listed
link_all-requires-clause-listed c =
    subst (λ (ps : PlaceLists). AreListed c.grown_leaf.new.trie.edges.keys ps c.grown_leaf.new.trie.nodes.items) (sym c.grown_leaf.ensures.places)
    (grown_trie c.args.trie.now.edges.keys c.grown_leaf.new.trie.edges.keys c.args.trie.now.places c.make_root.new.nodes.items c.grown_leaf.new.trie.nodes.items c.in_ok-make_root.ensures.root c.in_ok-node.ensures.grown
    (c.make_root.ensures.trie c.args.trie.now.edges.keys c.args.trie.now.places c.requires.trie)).listed
