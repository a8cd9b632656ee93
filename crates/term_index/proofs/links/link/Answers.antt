use Rattle.std.proofs.Common.{ℕ, subst}
use Rattle.term_index.specs.Lists.{IsNoted}
use Rattle.term_index.proofs.Linking.{pushed_listed, pushed_sound}
use Rattle.term_index.proofs.links.link.Goals as goal

pub returns-clause-listed : goal.returns-clause-listed
returns-clause-listed c =
    let es = c.args.edges.now.keys in
    pushed_listed es c.args.places.now c.note_place.new.places c.args.nodes.now.items c.push_exit.new.nodes.items c.args.span c.requires.listed (rw c.in_default.is at c.listed_at.ensures)
    (subst (λ (k : ℕ). IsNoted es c.args.places.now c.note_place.new.places c.args.span k) c.in_ok-place.ensures c.in_ok-note_place.ensures)
    c.in_ok-push_exit.ensures.exits c.push_exit.ensures.others

pub returns-clause-sound : goal.returns-clause-sound
returns-clause-sound c =
    let es = c.args.edges.now.keys in
    pushed_sound es c.args.places.now c.note_place.new.places c.args.nodes.now.items c.push_exit.new.nodes.items c.args.span c.requires.listed (rw c.in_default.is at c.listed_at.ensures)
    (subst (λ (k : ℕ). IsNoted es c.args.places.now c.note_place.new.places c.args.span k) c.in_ok-place.ensures c.in_ok-note_place.ensures)
    c.in_ok-push_exit.ensures.exits c.push_exit.ensures.others
