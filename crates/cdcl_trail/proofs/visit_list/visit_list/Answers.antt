use Rattle.std.proofs.Common.{◌≤◌, ◌<◌, length, sym, subst, arith}
use Rattle.cdcl_trail.specs.Propagation.{Propagates}
use Rattle.cdcl_trail.specs.Running.{Visits, at_level}
use Rattle.cdcl_trail.specs.Values.{AreValues}
use Rattle.cdcl_trail.specs.Watch.{slot_of, list_at}
use Rattle.cdcl_trail.specs.declared.visit.Visit.TheVariants.{Kept, Moved}
use Rattle.cdcl_trail.proofs.VisitLaws.{runs_on}
use Rattle.cdcl_trail.proofs.ListRunLaws.{list_run_begins, list_run_kept, list_run_moved, list_run_ends, shorter_list, same_list}
use Rattle.cdcl_trail.proofs.visit_list.visit_list.Goals.{In-Kept, In-Moved, In-False}
use Rattle.cdcl_trail.proofs.visit_list.visit_list.Goals as goal

pub loop-place-init : goal.loop-place-init
loop-place-init c = list_run_begins c.args.clauses.now c.args.level c.args.l c.args.watched.now.values c.args.watched.now.lists.items c.args.watched.now.pairs.items c.requires.running c.requires.is_false c.requires.slot

pub visit_at-requires-clause-running : goal.visit_at-requires-clause-running
visit_at-requires-clause-running c = c.loop-place.invariant.running

pub visit_at-requires-clause-is_false : goal.visit_at-requires-clause-is_false
visit_at-requires-clause-is_false c = c.loop-place.invariant.is_false

kept : (c : In-Kept) → Visits c.args.clauses.now c.args.level c.args.l c.loop-place.place c.loop-place.watched.values c.loop-place.watched.lists.items c.loop-place.watched.pairs.items c.visit_at.new.watched.values c.visit_at.new.watched.lists.items c.visit_at.new.watched.pairs.items Kept
kept c = subst (Visits c.args.clauses.now c.args.level c.args.l c.loop-place.place c.loop-place.watched.values c.loop-place.watched.lists.items c.loop-place.watched.pairs.items c.visit_at.new.watched.values c.visit_at.new.watched.lists.items c.visit_at.new.watched.pairs.items) c.in-Kept.is c.in_ok-visit_at.ensures.visits

moved : (c : In-Moved) → Visits c.args.clauses.now c.args.level c.args.l c.loop-place.place c.loop-place.watched.values c.loop-place.watched.lists.items c.loop-place.watched.pairs.items c.visit_at.new.watched.values c.visit_at.new.watched.lists.items c.visit_at.new.watched.pairs.items Moved
moved c = subst (Visits c.args.clauses.now c.args.level c.args.l c.loop-place.place c.loop-place.watched.values c.loop-place.watched.lists.items c.loop-place.watched.pairs.items c.visit_at.new.watched.values c.visit_at.new.watched.lists.items c.visit_at.new.watched.pairs.items) c.in-Moved.is c.in_ok-visit_at.ensures.visits

pub loop-place-smaller-in-Kept : goal.loop-place-smaller-in-Kept
loop-place-smaller-in-Kept c =
    let same = same_list c.args.clauses.now c.args.level c.args.l c.loop-place.place c.loop-place.watched.values c.visit_at.new.watched.values c.loop-place.watched.lists.items c.visit_at.new.watched.lists.items c.loop-place.watched.pairs.items c.visit_at.new.watched.pairs.items (kept c) in
    let inside : c.loop-place.place < length (list_at c.loop-place.watched.lists.items (slot_of c.args.l)) = omega arith in
    omega (arith, same, inside)

pub loop-place-preserved-in-Kept : goal.loop-place-preserved-in-Kept
loop-place-preserved-in-Kept c =
    let inside : c.loop-place.place < length (list_at c.loop-place.watched.lists.items (slot_of c.args.l)) = omega arith in
    list_run_kept c.args.clauses.now c.args.level c.args.l c.loop-place.place c.args.watched.now.values c.loop-place.watched.values c.visit_at.new.watched.values c.loop-place.watched.lists.items c.visit_at.new.watched.lists.items c.args.watched.now.pairs.items c.loop-place.watched.pairs.items c.visit_at.new.watched.pairs.items
    c.loop-place.invariant inside (kept c)

pub loop-place-smaller : goal.loop-place-smaller
loop-place-smaller c =
    let short = shorter_list c.args.clauses.now c.args.level c.args.l c.loop-place.place c.loop-place.watched.values c.visit_at.new.watched.values c.loop-place.watched.lists.items c.visit_at.new.watched.lists.items c.loop-place.watched.pairs.items c.visit_at.new.watched.pairs.items (moved c) in
    let inside : c.loop-place.place < length (list_at c.loop-place.watched.lists.items (slot_of c.args.l)) = omega arith in
    omega (arith, short, inside)

pub loop-place-preserved : goal.loop-place-preserved
loop-place-preserved c =
    list_run_moved c.args.clauses.now c.args.level c.args.l c.loop-place.place c.args.watched.now.values c.loop-place.watched.values c.visit_at.new.watched.values c.loop-place.watched.lists.items c.visit_at.new.watched.lists.items c.args.watched.now.pairs.items c.loop-place.watched.pairs.items c.visit_at.new.watched.pairs.items
    c.loop-place.invariant (moved c)

pub returns-in_err-visit_at-clause-values : goal.returns-in_err-visit_at-clause-values
returns-in_err-visit_at-clause-values c = subst AreValues (sym c.in_err-visit_at.ensures.err) c.loop-place.invariant.running.values

pub returns-in_err-visit_at-clause-added : goal.returns-in_err-visit_at-clause-added
returns-in_err-visit_at-clause-added c =
    subst (λ v. Propagates c.args.clauses.now (at_level c.args.level c.args.watched.now.values) (at_level c.args.level v)) (sym c.in_err-visit_at.ensures.err) c.loop-place.invariant.runs.added

pub returns-in-False-clause-runs : goal.returns-in-False-clause-runs
returns-in-False-clause-runs c =
    runs_on c.args.clauses.now c.args.level c.args.watched.now.values c.loop-place.watched.values c.visit_at.new.watched.values c.args.watched.now.pairs.items c.loop-place.watched.pairs.items c.visit_at.new.watched.pairs.items c.loop-place.invariant.runs c.in_ok-visit_at.ensures.visits.runs

pub returns-in-False-clause-added : goal.returns-in-False-clause-added
returns-in-False-clause-added c =
    (runs_on c.args.clauses.now c.args.level c.args.watched.now.values c.loop-place.watched.values c.visit_at.new.watched.values c.args.watched.now.pairs.items c.loop-place.watched.pairs.items c.visit_at.new.watched.pairs.items c.loop-place.invariant.runs c.in_ok-visit_at.ensures.visits.runs).added

pub returns-clause-running : goal.returns-clause-running
returns-clause-running c = c.loop-place.invariant.running

pub returns-clause-runs : goal.returns-clause-runs
returns-clause-runs c = c.loop-place.invariant.runs

pub returns-clause-settled : goal.returns-clause-settled
returns-clause-settled c =
    let past : length (list_at c.loop-place.watched.lists.items (slot_of c.args.l)) ≤ c.loop-place.place = omega arith in
    list_run_ends c.args.clauses.now c.args.level c.args.l c.loop-place.place c.args.watched.now.values c.loop-place.watched.values c.loop-place.watched.lists.items c.args.watched.now.pairs.items c.loop-place.watched.pairs.items c.loop-place.invariant past

pub returns-clause-values : goal.returns-clause-values
returns-clause-values c = c.loop-place.invariant.running.values

pub returns-clause-added : goal.returns-clause-added
returns-clause-added c = c.loop-place.invariant.runs.added
