use Rattle.term_index.specs.Paths.{content_at}
use Rattle.term_index.proofs.PairLaws.{swap_once, swap_removes, take_found}
use Rattle.term_index.proofs.pairs.take_pair.Goals as goal

pub returns-clause-there : goal.returns-clause-there
returns-clause-there c =
    let there = c.in-Some.ensures in
    let e = c.take_at.ensures.pairs in
    λ _. swap_removes (content_at c.args.nodes.now.items c.args.node).pairs (content_at c.take_at.new.nodes.items c.args.node).pairs (c.args.atom, c.args.entry) e.0 c.in-Some.place there.0 there.1 e.1 (c.requires.once c.args.node)

pub returns-clause-once : goal.returns-clause-once
returns-clause-once c =
    let there = c.in-Some.ensures in
    let e = c.take_at.ensures.pairs in
    swap_once (content_at c.args.nodes.now.items c.args.node).pairs (content_at c.take_at.new.nodes.items c.args.node).pairs (c.args.atom, c.args.entry) e.0 c.in-Some.place there.0 there.1 e.1 (c.requires.once c.args.node)

pub returns-clause-found : goal.returns-clause-found
returns-clause-found c =
    let there = c.in-Some.ensures in
    let e = c.take_at.ensures.pairs in
    take_found c.args.found.now.entries c.replace.new.found.entries c.args.nodes.now.items c.take_at.new.nodes.items c.args.node c.in-Some.place (c.args.atom, c.args.entry) c.in-Some-last_pair.last e.0
    there.0 there.1 e.1 c.take_at.ensures.others (c.requires.once c.args.node) c.requires.one_place c.in-Some-last_pair.ensures c.in_ok-replace.ensures.late c.in_ok-replace.ensures.first c.requires.found
