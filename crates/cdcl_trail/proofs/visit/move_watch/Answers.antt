use Rattle.std.proofs.Common.{◌++◌, ◌∷◌, [], Option, set, sym, ap, ◌∙◌, subst}
use Rattle.cdcl_trail.specs.Watch.{slot_of, list_at, AreWatched}
use Rattle.cdcl_trail.specs.declared.watch.WatchedPair.{WatchedPair}
use Rattle.cdcl_trail.proofs.WatchLaws.{moved_by, moved_list}
use Rattle.cdcl_trail.proofs.visit.move_watch.Goals as goal

pub returns-clause-watched : goal.returns-clause-watched
returns-clause-watched c clauses w p d same m =
    let ls = c.args.watched.now.lists.items in
    let next = c.args.next in
    let watch = c.args.watch in
    let pairs = ap (λ v. v.items) (c.drop_watch.ensures.pairs ∙ c.add_watch.ensures.pairs) in
    subst (λ ps. AreWatched clauses c.drop_watch.new.self.lists.items (set ps c.args.watch.number c.with_place.result)) (sym pairs)
    (subst (λ (o : Option WatchedPair). AreWatched clauses c.drop_watch.new.self.lists.items (set c.args.watched.now.pairs.items c.args.watch.number o)) (sym c.with_place.ensures)
    (moved_by clauses c.args.watched.now.lists.items c.add_watch.new.self.lists.items c.drop_watch.new.self.lists.items c.args.watched.now.pairs.items c.args.spot.l c.args.watch.blocker c.args.next c.args.spot.place c.args.watch.number c.drop_watch.result w p d
    (c.in_ok-add_watch.ensures.added ∙ ap (λ b. set ls (slot_of next) (list_at ls (slot_of next) ++ (record { number = watch.number; blocker = watch.blocker; binary = b }) ∷ [])) c.requires.long)
    c.drop_watch.ensures.value c.drop_watch.ensures.dropped same m))

pub returns-clause-lists : goal.returns-clause-lists
returns-clause-lists c w at =
    moved_list c.args.watched.now.lists.items c.add_watch.new.self.lists.items c.drop_watch.new.self.lists.items c.args.spot.l c.args.next c.args.spot.place c.args.watch c.drop_watch.result w
    c.requires.slot c.requires.apart c.in_ok-add_watch.ensures.added c.drop_watch.ensures.value c.drop_watch.ensures.dropped at
