use Rattle.std.proofs.Common.{ap}
use Rattle.term_index.specs.State.{State}
use Rattle.term_index.proofs.WalkLaws.{moved}
use Rattle.term_index.proofs.tree.TreePartnerIndex.next.Goals as goal

pub returns-in-Ok-clause-gives : goal.returns-in-Ok-clause-gives
returns-in-Ok-clause-gives c =
    let w = c.args.cursor.now.walk in
    let n = c.next_entry.new.walk in
    moved c.args.cursor.now.view c.args.cursor.now.query c.self.inside.trie.edges.keys c.args.self.now.edges c.self.inside.trie.nodes.items c.args.self.now.nodes
    (ap (λ (s : State). s.edges) c.self.view_is) (ap (λ (s : State). s.nodes) c.self.view_is)
    c.in-Ok.found w.cells.items n.cells.items w.stack.items n.stack.items w.leaf n.leaf w.place n.place c.in-Ok.ensures.gives
