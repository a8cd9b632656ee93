use Rattle.std.proofs.Common.{◌≤◌, ◌<◌, subst, sym, Some, arith}
use Rattle.term_index.specs.Found.{few, Changes}
use Rattle.term_index.proofs.PairLaws.{put_found}
use Rattle.term_index.proofs.pairs.put_pair.Goals as goal

pub returns-clause-found : goal.returns-clause-found
returns-clause-found c =
    let at = c.in_ok-place.ensures in
    put_found c.args.found.now.entries c.note.new.found.entries c.args.nodes.now.items c.push_pair.new.nodes.items c.args.node (c.args.atom, c.args.entry) c.requires.absent c.requires.found
    (λ l. subst (λ k. Changes c.args.found.now.entries c.note.new.found.entries (c.args.atom, c.args.entry) (Some k)) at (c.in_ok-note.ensures.late (subst (λ k. few ≤ k) (sym at) l)))
    (λ l. c.note.ensures.first (subst (λ k. k < few) (sym at) l)) c.in_ok-push_pair.ensures.pairs c.push_pair.ensures.others (omega arith)
