use Rattle.std.proofs.Common.{◌≡◌, Some, None, sym, ap, ◌∙◌}
use Rattle.cdcl_trail.specs.Watch.{pair_at}
use Rattle.cdcl_trail.proofs.DetachLaws.{unwatched_all, unwatched_none, pair_slots}
use Rattle.cdcl_trail.proofs.WatchLaws.{pair_within, pair_at_set, pair_at_other}
use Rattle.cdcl_trail.proofs.detach.unwatch.Goals as goal

pub returns-in_default-clause-lists : goal.returns-in_default-clause-lists
returns-in_default-clause-lists c clauses h = unwatched_none clauses c.args.n c.args.lists.now c.args.pairs.now h (sym c.in_default.ensures)

pub put_none-requires : goal.put_none-requires
put_none-requires c = pair_within c.args.pairs.now c.args.n c.in-Some.pair (sym c.in-Some.ensures)

pub returns-clause-lists : goal.returns-clause-lists
returns-clause-lists c clauses h =
    let at : pair_at c.args.pairs.now c.args.n ≡ Some c.in-Some.pair = sym c.in-Some.ensures in
    let s = pair_slots clauses c.args.n c.args.atoms c.in-Some.pair c.args.lists.now c.args.pairs.now h at c.requires in
    unwatched_all clauses c.args.n c.in-Some.pair c.args.lists.now c.unwatch_pair.new.lists c.args.pairs.now h at
    (c.unwatch_pair.ensures.both s.0 s.1 (h.of_clauses c.args.n c.in-Some.pair at).apart)

pub returns-clause-none : goal.returns-clause-none
returns-clause-none c =
    ap (λ ps. pair_at ps c.args.n) c.put_none.ensures ∙ pair_at_set c.args.pairs.now c.args.n None (pair_within c.args.pairs.now c.args.n c.in-Some.pair (sym c.in-Some.ensures))

pub returns-clause-others : goal.returns-clause-others
returns-clause-others c m e = ap (λ ps. pair_at ps m) c.put_none.ensures ∙ pair_at_other c.args.pairs.now c.args.n m None e
