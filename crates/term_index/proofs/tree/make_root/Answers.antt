use Rattle.std.proofs.Common.{arith}
use Rattle.std.proofs.lemmas.Bool.Decides.{nat_tests}
use Rattle.term_index.proofs.StoreLaws.{rooted_trie, rooted_pairs}
use Rattle.term_index.proofs.tree.make_root.Goals as goal

pub returns-then-is_empty-clause-trie : goal.returns-then-is_empty-clause-trie
returns-then-is_empty-clause-trie c =
    let z = c.is_empty.ensures in
    let e = c.if-is_empty.true in
    λ es ps a. rooted_trie es ps c.args.nodes.now.items c.push_node.new.nodes.items (grind (arith, nat_tests, c.args.nodes.now.ok.0)) c.in_ok-push_node.ensures.ok a

pub returns-then-is_empty-clause-pairs : goal.returns-then-is_empty-clause-pairs
returns-then-is_empty-clause-pairs c = rooted_pairs c.args.nodes.now.items c.push_node.new.nodes.items c.in_ok-push_node.ensures.ok
