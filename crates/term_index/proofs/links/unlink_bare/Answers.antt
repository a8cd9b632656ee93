use Rattle.term_index.proofs.Linking.{unlinked_trie}
use Rattle.term_index.proofs.links.unlink_bare.Goals as goal

pub returns-clause-trie : goal.returns-clause-trie
returns-clause-trie c =
    unlinked_trie c.args.edges.now.keys c.args.places.now c.unlink.new.places c.args.nodes.now.items c.unlink.new.nodes.items c.args.span
    c.requires.trie c.requires.end (c.is_bare.ensures c.if-not-is_bare.false) c.unlink.ensures.listed c.unlink.ensures.others
