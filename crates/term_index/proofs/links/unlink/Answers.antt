use Rattle.std.proofs.Common.{length}
use Rattle.term_index.specs.Paths.{content_at}
use Rattle.term_index.proofs.Linking.{moved_known, taken_listed, taken_others}
use Rattle.term_index.proofs.links.unlink.Goals as goal

pub renumber-requires-clause-known : goal.renumber-requires-clause-known
renumber-requires-clause-known c = λ b.
    (let e = c.take_exit.ensures.exits in (
      length (content_at c.take_exit.new.nodes.items c.args.span.begin).exits,
      moved_known c.args.edges.now.keys c.args.places.now c.args.places.now c.args.nodes.now.items c.take_exit.new.nodes.items c.args.span c.in-Some.place e.0 c.requires.listed c.in-Some.ensures.0 c.in-Some.ensures.1 e.1 c.take_exit.ensures.others b,
    ))

pub returns-clause-listed : goal.returns-clause-listed
returns-clause-listed c =
    let e = c.take_exit.ensures.exits in
    taken_listed c.args.edges.now.keys c.args.places.now c.renumber.new.places c.args.nodes.now.items c.take_exit.new.nodes.items c.args.span c.in-Some.place e.0 c.requires.listed c.in-Some.ensures.0 c.in-Some.ensures.1 e.1 c.take_exit.ensures.others
    c.renumber.ensures.moved c.renumber.ensures.still

pub returns-clause-others : goal.returns-clause-others
returns-clause-others c =
    let e = c.take_exit.ensures.exits in
    taken_others c.args.edges.now.keys c.args.places.now c.renumber.new.places c.args.nodes.now.items c.take_exit.new.nodes.items c.args.span c.in-Some.place e.0 c.requires.listed c.in-Some.ensures.0 c.in-Some.ensures.1 e.1 c.take_exit.ensures.others
    c.take_exit.ensures.len c.take_exit.ensures.pairs
