use Rattle.std.proofs.Common.{false, ◌≡◌, Some, refl, sym, ap, ◌∙◌, subst, arith}
use Rattle.std.proofs.lemmas.Option.{slice_get_within, none-some}
use Rattle.cdcl_trail.specs.Clauses.{clause_number}
use Rattle.cdcl_trail.specs.Running.{Visits}
use Rattle.cdcl_trail.specs.declared.visit.Visit.TheVariants.{Kept}
use Rattle.cdcl_trail.specs.Watch.{slot_of, list_at, pair_at}
use Rattle.cdcl_trail.proofs.ScanLaws.{decided_true}
use Rattle.cdcl_trail.proofs.VisitLaws.{watch_pair, watches_of, of_pair, lists_small, other_below, other_slot, visits_blocked, slot_within}
use Rattle.cdcl_trail.proofs.visit.visit_clause.Goals.{In-Some}
use Rattle.cdcl_trail.proofs.visit.visit_clause.Goals as goal

pub returns-in_default-clause-visits : goal.returns-in_default-clause-visits
returns-in_default-clause-visits c =
    let w = c.requires.watch in
    let x = watch_pair c.args.clauses.now c.args.watched.now.lists.items c.args.watched.now.pairs.items c.args.spot.l c.args.spot.place w.0 c.requires.running.watched w.1 in
    absurd (none-some x.0 (c.in_default.ensures ∙ ap (pair_at c.args.watched.now.pairs.items) (sym w.2) ∙ x.1))

pub is_true-requires-clause-atom : goal.is_true-requires-clause-atom
is_true-requires-clause-atom c =
    let w = c.requires.watch in
    let p = c.in-Some.pair in
    let at : pair_at c.args.watched.now.pairs.items c.args.number ≡ Some p = sym c.in-Some.ensures in
    let both = c.other_of-other.ensures (watches_of c.args.clauses.now c.args.watched.now.lists.items c.args.watched.now.pairs.items c.args.spot.l c.args.spot.place c.args.number w.0 p c.requires.running.watched w.1 w.2 at) in
    other_below c.args.clauses.now c.args.level c.args.watched.now.values c.args.watched.now.lists.items c.args.watched.now.pairs.items c.args.number p c.args.spot.l c.other_of-other.result c.requires.running at both

pub put_watch-requires-clause-place : goal.put_watch-requires-clause-place
put_watch-requires-clause-place c = slice_get_within (list_at c.args.watched.now.lists.items (slot_of c.args.spot.l)) c.args.spot.place c.requires.watch.0 c.requires.watch.1

pub put_watch-requires-clause-blocker : goal.put_watch-requires-clause-blocker
put_watch-requires-clause-blocker c =
    let w = c.requires.watch in
    let p = c.in-Some.pair in
    let r = c.requires.running in
    let at : pair_at c.args.watched.now.pairs.items c.args.number ≡ Some p = sym c.in-Some.ensures in
    let both = c.other_of-other.ensures (watches_of c.args.clauses.now c.args.watched.now.lists.items c.args.watched.now.pairs.items c.args.spot.l c.args.spot.place c.args.number w.0 p r.watched w.1 w.2 at) in
    omega (
      arith,
      other_slot c.args.clauses.now c.args.level c.args.watched.now.values c.args.watched.now.lists.items c.args.watched.now.pairs.items c.args.number p c.args.spot.l c.other_of-other.result r at both,
      lists_small c.args.clauses.now c.args.level c.args.watched.now.values c.args.watched.now.lists.items c.args.watched.now.pairs.items r,
    )

pub returns-then-is_true-clause-visits : goal.returns-then-is_true-clause-visits
returns-then-is_true-clause-visits c =
    let w = c.requires.watch in
    let p = c.in-Some.pair in
    let o = c.other_of-other.result in
    let at : pair_at c.args.watched.now.pairs.items c.args.number ≡ Some p = sym c.in-Some.ensures in
    let both = c.other_of-other.ensures (watches_of c.args.clauses.now c.args.watched.now.lists.items c.args.watched.now.pairs.items c.args.spot.l c.args.spot.place c.args.number w.0 p c.requires.running.watched w.1 w.2 at) in
    subst (λ v. Visits c.args.clauses.now c.args.level c.args.spot.l c.args.spot.place c.args.watched.now.values c.args.watched.now.lists.items c.args.watched.now.pairs.items v c.put_watch.new.self.lists.items c.put_watch.new.self.pairs.items Kept) (sym c.put_watch.ensures.values)
    (subst (λ ps. Visits c.args.clauses.now c.args.level c.args.spot.l c.args.spot.place c.args.watched.now.values c.args.watched.now.lists.items c.args.watched.now.pairs.items c.args.watched.now.values c.put_watch.new.self.lists.items ps Kept) (sym (ap (λ v. v.items) c.put_watch.ensures.pairs))
    (visits_blocked c.args.clauses.now c.args.level c.args.spot.l c.args.spot.place c.args.watched.now.values c.args.watched.now.lists.items c.put_watch.new.self.lists.items c.args.watched.now.pairs.items w.0 (record { number = c.args.number; blocker = o; binary = false }) o c.requires.running
    (slot_within c.args.watched.now.lists.items (slot_of c.args.spot.l) c.args.spot.place w.0 w.1) w.1 (sym w.2) refl refl
    (λ d here. (of_pair c.args.clauses.now c.args.watched.now.lists.items c.args.watched.now.pairs.items c.args.number p c.args.spot.l o d c.requires.running.watched at both (ap (clause_number c.args.clauses.now) (sym w.2) ∙ here)).1)
    (decided_true _ _ _ c.is_true.ensures c.if-is_true.true) c.put_watch.ensures.lists))

pub settle-requires-clause-pair : goal.settle-requires-clause-pair
settle-requires-clause-pair c =
    let w = c.requires.watch in
    let p = c.in-Some.pair in
    let at : pair_at c.args.watched.now.pairs.items c.args.number ≡ Some p = sym c.in-Some.ensures in
    (p, at, c.other_of-other.ensures (watches_of c.args.clauses.now c.args.watched.now.lists.items c.args.watched.now.pairs.items c.args.spot.l c.args.spot.place c.args.number w.0 p c.requires.running.watched w.1 w.2 at))
