use Rattle.std.proofs.Common.{◌≡◌, ◌<◌, set, length, subst, ◌++◌, ◌∷◌, [], ◌⊎◌, Some, sym, ap, ◌∙◌, false, arith}
use Rattle.std.proofs.lemmas.Option.{slice_get_within, none-some}
use Rattle.std.specs.Prelude.{All, Contains}
use Rattle.cdcl_trail.specs.Clauses.{clause_number}
use Rattle.cdcl_trail.specs.Running.{Visits}
use Rattle.cdcl_trail.specs.declared.visit.Visit.TheVariants.{Moved}
use Rattle.cdcl_trail.specs.Propagation.{IsFalseIn}
use Rattle.cdcl_trail.specs.Values.{entries_of}
use Rattle.cdcl_trail.specs.Watch.{slot_of, list_at, pair_at, pair_of}
use Rattle.cdcl_trail.proofs.ScanLaws.{decided_true, decided_false, open_is}
use Rattle.cdcl_trail.proofs.VisitLaws.{atom_below, slot_below, slot_injective, of_pair, lists_small, other_below, other_slot, neither, visits_false, visits_moved, visits_implied, move_of}
use Rattle.cdcl_trail.proofs.WatchLaws.{pair_within}
use Rattle.cdcl_trail.proofs.ValuesLaws.{level_small}
use Rattle.cdcl_trail.proofs.visit.settle.Goals as goal

pub put-requires-clause-level : goal.put-requires-clause-level
put-requires-clause-level c =
    let r = c.requires.running in
    omega (arith, level_small c.args.watched.now.values c.args.level false r.values r.trail)

pub move_watch-requires-clause-place : goal.move_watch-requires-clause-place
move_watch-requires-clause-place c = slice_get_within (list_at c.args.watched.now.lists.items (slot_of c.args.spot.l)) c.args.spot.place c.requires.watch.0 c.requires.watch.1

pub move_watch-requires-clause-number : goal.move_watch-requires-clause-number
move_watch-requires-clause-number c = pair_within c.args.watched.now.pairs.items c.args.watch.number c.requires.pair.0 c.requires.pair.1

pub move_watch-requires-clause-other : goal.move_watch-requires-clause-other
move_watch-requires-clause-other c =
    let p = c.requires.pair in
    other_slot c.args.clauses.now c.args.level c.args.watched.now.values c.args.watched.now.lists.items c.args.watched.now.pairs.items c.args.watch.number p.0 c.args.spot.l c.args.watch.blocker c.requires.running p.1 p.2

pub move_watch-requires-clause-small : goal.move_watch-requires-clause-small
move_watch-requires-clause-small c = lists_small c.args.clauses.now c.args.level c.args.watched.now.values c.args.watched.now.lists.items c.args.watched.now.pairs.items c.requires.running

pub returns-in_default-clause-visits : goal.returns-in_default-clause-visits
returns-in_default-clause-visits c =
    let x = c.requires.running.watched.of_clauses c.args.watch.number c.requires.pair.0 c.requires.pair.1 in
    absurd (none-some x.clause (c.in_default.ensures ∙ x.here))

pub is_false-requires-clause-atom : goal.is_false-requires-clause-atom
is_false-requires-clause-atom c =
    let p = c.requires.pair in
    other_below c.args.clauses.now c.args.level c.args.watched.now.values c.args.watched.now.lists.items c.args.watched.now.pairs.items c.args.watch.number p.0 c.args.spot.l c.args.watch.blocker c.requires.running p.1 p.2

pub put-requires-clause-atom : goal.put-requires-clause-atom
put-requires-clause-atom c =
    let p = c.requires.pair in
    other_below c.args.clauses.now c.args.level c.args.watched.now.values c.args.watched.now.lists.items c.args.watched.now.pairs.items c.args.watch.number p.0 c.args.spot.l c.args.watch.blocker c.requires.running p.1 p.2

pub put-requires-clause-unset : goal.put-requires-clause-unset
put-requires-clause-unset c =
    neither (entries_of c.args.watched.now.values) c.args.watch.blocker c.requires.not_true (decided_false _ _ _ c.is_false.ensures c.if-is_false.false)

pub returns-then-is_false-clause-visits : goal.returns-then-is_false-clause-visits
returns-then-is_false-clause-visits c =
    let es = entries_of c.args.watched.now.values in
    let at : clause_number c.args.clauses.now c.args.watch.number ≡ Some c.in-Some.clause.now = sym c.in-Some.ensures in
    let all : All (λ m. IsFalseIn es m ⊎ (m ≡ c.args.watch.blocker)) c.in-Some.clause.now = c.in-None.ensures.none in
    visits_false c.args.clauses.now c.args.level c.args.spot.l c.args.spot.place c.args.watched.now.values c.args.watched.now.lists.items c.args.watched.now.pairs.items c.args.watch.number c.args.watch.blocker c.in-Some.clause.now c.requires.running at all
    (decided_true _ _ _ c.is_false.ensures c.if-is_false.true)

pub returns-else-is_false-clause-visits : goal.returns-else-is_false-clause-visits
returns-else-is_false-clause-visits c =
    let es = entries_of c.args.watched.now.values in
    let p = c.requires.pair in
    let w = c.requires.watch in
    let o = c.args.watch.blocker in
    let at : clause_number c.args.clauses.now c.args.watch.number ≡ Some c.in-Some.clause.now = sym c.in-Some.ensures in
    let all : All (λ m. IsFalseIn es m ⊎ (m ≡ o)) c.in-Some.clause.now = c.in-None.ensures.none in
    let has = (of_pair c.args.clauses.now c.args.watched.now.lists.items c.args.watched.now.pairs.items c.args.watch.number p.0 c.args.spot.l o c.in-Some.clause.now c.requires.running.watched p.1 p.2 at).1 in
    visits_implied c.args.clauses.now c.args.level c.args.spot.l c.args.spot.place c.args.watched.now.values c.put.new.self c.args.watched.now.lists.items c.args.watched.now.pairs.items w.0 o c.in-Some.clause.now c.requires.running
    w.1 (ap (clause_number c.args.clauses.now) w.2 ∙ at) has all
    (other_below c.args.clauses.now c.args.level c.args.watched.now.values c.args.watched.now.lists.items c.args.watched.now.pairs.items c.args.watch.number p.0 c.args.spot.l o c.requires.running p.1 p.2)
    (neither es o c.requires.not_true (decided_false _ _ _ c.is_false.ensures c.if-is_false.false))
    c.put.ensures.values (c.put.ensures.entries ∙ ap (λ n. es ++ (record { lit = o; level = c.args.level; reason = Some n }) ∷ []) (sym w.2)) c.put.ensures.atoms

pub returns-in_ok-move_watch-in-Some-next_open-clause-visits : goal.returns-in_ok-move_watch-in-Some-next_open-clause-visits
returns-in_ok-move_watch-in-Some-next_open-clause-visits c =
    let p = c.requires.pair in
    let w = c.requires.watch in
    let o = c.args.watch.blocker in
    let next = c.lit-next.result in
    let at : clause_number c.args.clauses.now w.0.number ≡ Some c.in-Some.clause.now = ap (clause_number c.args.clauses.now) w.2 ∙ sym c.in-Some.ensures in
    let pair : pair_at c.args.watched.now.pairs.items w.0.number ≡ Some p.0 = ap (pair_at c.args.watched.now.pairs.items) w.2 ∙ p.1 in
    let some = open_is (entries_of c.args.watched.now.values) c.in-Some.clause.now o c.in-Some-next_open.from next c.index-clause-from.result c.in-Some-next_open.ensures.some c.lit-next.ensures c.index-clause-from.is in
    let has : Contains c.in-Some.clause.now next = some.0 in
    let e = c.in_ok-move_watch-in-Some-next_open.ensures in
    let move = move_of c.args.clauses.now c.args.level c.args.spot.l c.args.spot.place c.args.watched.now.values c.args.watched.now.lists.items c.args.watched.now.pairs.items w.0 p.0 o next c.in-Some.clause.now c.requires.running w.1 pair p.2 at has some.1 c.requires.is_false some.2 in
    subst (λ v. Visits c.args.clauses.now c.args.level c.args.spot.l c.args.spot.place c.args.watched.now.values c.args.watched.now.lists.items c.args.watched.now.pairs.items v c.move_watch.new.watched.lists.items c.move_watch.new.watched.pairs.items Moved) (sym e.values)
    (visits_moved c.args.clauses.now c.args.level c.args.spot.l c.args.spot.place c.args.watched.now.values c.args.watched.now.lists.items c.move_watch.new.watched.lists.items c.args.watched.now.pairs.items c.move_watch.new.watched.pairs.items w.0 p.0 o next c.requires.running
    w.1 pair p.2 some.2 (e.watched c.args.clauses.now w.0 p.0 c.in-Some.clause.now w.2 move) (e.lists w.0 w.1) e.size (e.pairs ∙ ap (λ n. set c.args.watched.now.pairs.items n (Some (pair_of o next))) (sym w.2)))

pub move_watch-requires-clause-apart : goal.move_watch-requires-clause-apart
move_watch-requires-clause-apart c e =
    let next = c.lit-next.result in
    let some = open_is (entries_of c.args.watched.now.values) c.in-Some.clause.now c.args.watch.blocker c.in-Some-next_open.from next c.index-clause-from.result c.in-Some-next_open.ensures.some c.lit-next.ensures c.index-clause-from.is in
    some.2 (subst (IsFalseIn (entries_of c.args.watched.now.values)) (sym (slot_injective next c.args.spot.l e)) c.requires.is_false)

pub move_watch-requires-clause-next : goal.move_watch-requires-clause-next
move_watch-requires-clause-next c =
    let r = c.requires.running in
    let next = c.lit-next.result in
    let atoms = length c.args.watched.now.values.entries.items in
    let some = open_is (entries_of c.args.watched.now.values) c.in-Some.clause.now c.args.watch.blocker c.in-Some-next_open.from next c.index-clause-from.result c.in-Some-next_open.ensures.some c.lit-next.ensures c.index-clause-from.is in
    subst (λ m. slot_of next < m) (sym r.slots) (slot_below next atoms (atom_below c.args.clauses.now c.args.watch.number atoms c.in-Some.clause.now next r.below (sym c.in-Some.ensures) some.0))
