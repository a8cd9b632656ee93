use Rattle.std.proofs.Common.{◌<◌, ◌∙◌, length, Some, false, sym, ap, subst, arith}
use Rattle.std.specs.Prelude.{Contains}
use Rattle.std.proofs.lemmas.Bool.{not-false}
use Rattle.std.proofs.lemmas.Option.{same_Some}
use Rattle.cdcl_trail.specs.Trail.{literals_of}
use Rattle.cdcl_trail.specs.Values.{entries_of}
use Rattle.cdcl_trail.specs.Watch.{slot_of, list_at}
use Rattle.prop_logic.proofs.ListLaws.{Contains-slice_get}
use Rattle.cdcl_trail.proofs.ScanLaws.{decided_true, decided_false}
use Rattle.cdcl_trail.proofs.ValuesLaws.{level_small}
use Rattle.cdcl_trail.proofs.VisitLaws.{blocker_below, binary_clause, neither, visits_true, visits_false, visits_implied}
use Rattle.cdcl_trail.proofs.visit.visit_at.Goals as goal

pub is_true-requires-clause-atom : goal.is_true-requires-clause-atom
is_true-requires-clause-atom c =
    subst (λ l. l.atom < length c.args.watched.now.values.entries.items) (sym c.blocker.ensures)
    (blocker_below c.args.clauses.now c.args.level c.args.watched.now.values c.args.watched.now.lists.items c.args.watched.now.pairs.items c.args.spot.l c.args.spot.place c.watch_at.result.now c.requires.running c.watch_at.ensures)

pub returns-then-is_true-clause-visits : goal.returns-then-is_true-clause-visits
returns-then-is_true-clause-visits c =
    let w = c.watch_at.result.now in
    let xs = list_at c.args.watched.now.lists.items (slot_of c.args.spot.l) in
    visits_true c.args.clauses.now c.args.level c.args.spot.l c.args.spot.place c.args.watched.now.values c.args.watched.now.lists.items c.args.watched.now.pairs.items w w.blocker c.requires.running c.watch_at.ensures
    (λ d here. (c.requires.running.watched.blockers (slot_of c.args.spot.l) w d (Contains-slice_get xs c.args.spot.place w c.watch_at.ensures) here).here)
    (subst (Contains (literals_of (entries_of c.args.watched.now.values))) c.blocker.ensures (decided_true _ _ _ c.is_true.ensures c.if-is_true.true))

pub is_false-requires-clause-atom : goal.is_false-requires-clause-atom
is_false-requires-clause-atom c =
    blocker_below c.args.clauses.now c.args.level c.args.watched.now.values c.args.watched.now.lists.items c.args.watched.now.pairs.items c.args.spot.l c.args.spot.place c.get-watch.result c.requires.running (c.watch_at-2.ensures ∙ ap Some (sym c.get-watch.ensures.watch))

pub put-requires-clause-atom : goal.put-requires-clause-atom
put-requires-clause-atom c =
    blocker_below c.args.clauses.now c.args.level c.args.watched.now.values c.args.watched.now.lists.items c.args.watched.now.pairs.items c.args.spot.l c.args.spot.place c.get-watch.result c.requires.running (c.watch_at-2.ensures ∙ ap Some (sym c.get-watch.ensures.watch))

pub put-requires-clause-unset : goal.put-requires-clause-unset
put-requires-clause-unset c =
    neither (entries_of c.args.watched.now.values) c.get-watch.result.blocker (subst (λ l. ¬ Contains (literals_of (entries_of c.args.watched.now.values)) l) (c.blocker.ensures ∙ ap (λ w. w.blocker) (same_Some c.watch_at.result.now c.get-watch.result (sym c.watch_at.ensures ∙ (c.watch_at-2.ensures ∙ ap Some (sym c.get-watch.ensures.watch))))) (decided_false _ _ _ c.is_true.ensures c.if-is_true.false)) (decided_false _ _ _ c.is_false.ensures c.if-is_false.false)

pub put-requires-clause-level : goal.put-requires-clause-level
put-requires-clause-level c =
    let r = c.requires.running in
    omega (arith, level_small c.args.watched.now.values c.args.level false r.values r.trail)

pub returns-then-is_false-clause-visits : goal.returns-then-is_false-clause-visits
returns-then-is_false-clause-visits c =
    let w = c.get-watch.result in
    let x = binary_clause c.args.clauses.now c.args.level c.args.watched.now.values c.args.watched.now.lists.items c.args.watched.now.pairs.items c.args.spot.l c.args.spot.place w c.requires.running (c.watch_at-2.ensures ∙ ap Some (sym c.get-watch.ensures.watch)) (not-false w.binary c.if-not-watch.false) c.requires.is_false in
    visits_false c.args.clauses.now c.args.level c.args.spot.l c.args.spot.place c.args.watched.now.values c.args.watched.now.lists.items c.args.watched.now.pairs.items w.number w.blocker x.0 c.requires.running x.1 x.3
    (decided_true _ _ _ c.is_false.ensures c.if-is_false.true)

pub returns-clause-visits : goal.returns-clause-visits
returns-clause-visits c =
    let w = c.get-watch.result in
    let es = entries_of c.args.watched.now.values in
    let at = c.watch_at-2.ensures ∙ ap Some (sym c.get-watch.ensures.watch) in
    let x = binary_clause c.args.clauses.now c.args.level c.args.watched.now.values c.args.watched.now.lists.items c.args.watched.now.pairs.items c.args.spot.l c.args.spot.place w c.requires.running at (not-false w.binary c.if-not-watch.false) c.requires.is_false in
    visits_implied c.args.clauses.now c.args.level c.args.spot.l c.args.spot.place c.args.watched.now.values c.put.new.self c.args.watched.now.lists.items c.args.watched.now.pairs.items w w.blocker x.0 c.requires.running
    at x.1 x.2 x.3
    (blocker_below c.args.clauses.now c.args.level c.args.watched.now.values c.args.watched.now.lists.items c.args.watched.now.pairs.items c.args.spot.l c.args.spot.place w c.requires.running at)
    (neither es w.blocker (subst (λ l. ¬ Contains (literals_of (entries_of c.args.watched.now.values)) l) (c.blocker.ensures ∙ ap (λ w. w.blocker) (same_Some c.watch_at.result.now c.get-watch.result (sym c.watch_at.ensures ∙ (c.watch_at-2.ensures ∙ ap Some (sym c.get-watch.ensures.watch))))) (decided_false _ _ _ c.is_true.ensures c.if-is_true.false)) (decided_false _ _ _ c.is_false.ensures c.if-is_false.false))
    c.put.ensures.values c.put.ensures.entries c.put.ensures.atoms

pub visit_clause-requires-clause-watch : goal.visit_clause-requires-clause-watch
visit_clause-requires-clause-watch c = (c.watch_at-2.result.now, c.watch_at-2.ensures, sym (ap (λ w. w.number) c.get-watch.ensures.watch))
