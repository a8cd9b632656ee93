use Rattle.term_index.proofs.Growing.{grown_one}
use Rattle.term_index.proofs.paths.grown_child.Goals as goal

pub returns-in_ok-push_edge-in-None-clause-grown : goal.returns-in_ok-push_edge-in-None-clause-grown
returns-in_ok-push_edge-in-None-clause-grown c =
    let absent = rw c.in-None.is at c.in_ok-c.ensures.some in
    grown_one c.args.trie.now.edges.keys c.push_edge.new.edges.keys c.args.trie.now.nodes.items c.push_node.new.nodes.items c.args.from c.args.label c.requires.count c.requires.within absent c.in_ok-push_edge-in-None.ensures c.requires.fits c.in_ok-push_node-in-None.ensures.ok
