use Rattle.std.proofs.Common.{◌≡◌, ◌<◌, length, ℕ, Some, sym, ap, ◌∙◌, subst, arith}
use Rattle.std.specs.Prelude.{slice_get, Contains, IfNone}
use Rattle.std.proofs.lemmas.Option.{slice_get-get_or}
use Rattle.cdcl_trail.proofs.PropagationLaws.{more_added}
use Rattle.cdcl_trail.specs.Running.{at_level, numbers_at}
use Rattle.cdcl_trail.specs.Watch.{slot_of}
use Rattle.cdcl_trail.specs.Watching.{IsTrueAt}
use Rattle.cdcl_trail.specs.Values.{entries_of}
use Rattle.cdcl_trail.proofs.TrailRunLaws.{trail_run_goes, trail_run_next, literal_here, slot_here}
use Rattle.cdcl_trail.proofs.visit_trail.visit_trail.Goals as goal

pub visit_list-requires-clause-slot : goal.visit_list-requires-clause-slot
visit_list-requires-clause-slot c =
    let inside : c.loop-head.head < length c.loop-head.watched.values.literals.items = omega (arith, c.loop-head.watched.values.literals.ok.0) in
    let here : slice_get c.loop-head.watched.values.literals.items c.loop-head.head ≡ Some c.index.result.now =
    slice_get-get_or c.loop-head.watched.values.literals.items c.loop-head.head c.index.result.now inside ∙ ap Some (sym c.index.ensures) in
    slot_here c.args.clauses.now c.args.level c.loop-head.watched.values c.loop-head.watched.lists.items c.loop-head.watched.pairs.items c.loop-head.head c.index.result.now c.complement-l.result c.loop-head.invariant.running here c.complement-l.ensures

pub returns-in_err-number-clause-added : goal.returns-in_err-number-clause-added
returns-in_err-number-clause-added c =
    more_added c.args.clauses.now (at_level c.args.level c.args.watched.now.values) (at_level c.args.level c.loop-head.watched.values) (at_level c.args.level c.visit_list.new.watched.values) c.loop-head.invariant.runs.added c.visit_list.ensures.added

pub returns-in-Some-clause-runs : goal.returns-in-Some-clause-runs
returns-in-Some-clause-runs c =
    let e = c.in_ok-number.ensures in
    (trail_run_goes c.args.clauses.now c.args.level c.loop-head.head c.args.watched.now.values c.loop-head.watched.values c.visit_list.new.watched.values c.loop-head.watched.lists.items c.visit_list.new.watched.lists.items c.args.watched.now.pairs.items c.loop-head.watched.pairs.items c.visit_list.new.watched.pairs.items c.loop-head.invariant e.running e.runs).runs

pub returns-in-Some-clause-settled : goal.returns-in-Some-clause-settled
returns-in-Some-clause-settled c =
    let e = c.in_ok-number.ensures in
    (trail_run_goes c.args.clauses.now c.args.level c.loop-head.head c.args.watched.now.values c.loop-head.watched.values c.visit_list.new.watched.values c.loop-head.watched.lists.items c.visit_list.new.watched.lists.items c.args.watched.now.pairs.items c.loop-head.watched.pairs.items c.visit_list.new.watched.pairs.items c.loop-head.invariant e.running e.runs).settled

pub returns-in-Some-clause-added : goal.returns-in-Some-clause-added
returns-in-Some-clause-added c =
    more_added c.args.clauses.now (at_level c.args.level c.args.watched.now.values) (at_level c.args.level c.loop-head.watched.values) (at_level c.args.level c.visit_list.new.watched.values) c.loop-head.invariant.runs.added c.visit_list.ensures.added

pub loop-head-preserved : goal.loop-head-preserved
loop-head-preserved c =
    let e = c.in_ok-number.ensures in
    let inside : c.loop-head.head < length c.loop-head.watched.values.literals.items = omega (arith, c.loop-head.watched.values.literals.ok.0) in
    let here : slice_get c.loop-head.watched.values.literals.items c.loop-head.head ≡ Some c.index.result.now =
    slice_get-get_or c.loop-head.watched.values.literals.items c.loop-head.head c.index.result.now inside ∙ ap Some (sym c.index.ensures) in
    trail_run_next c.args.clauses.now c.args.level c.loop-head.head c.args.watched.now.values c.loop-head.watched.values c.visit_list.new.watched.values c.loop-head.watched.lists.items c.visit_list.new.watched.lists.items c.args.watched.now.pairs.items c.loop-head.watched.pairs.items c.visit_list.new.watched.pairs.items
    c.complement-l.result c.index.result.now c.loop-head.invariant e.running e.runs (literal_here c.loop-head.watched.values c.loop-head.head c.index.result.now c.loop-head.invariant.running.values here) c.complement-l.ensures (subst (λ o. IfNone o ((n : ℕ) → Contains (numbers_at c.visit_list.new.watched.lists.items (slot_of c.complement-l.result)) n → IsTrueAt c.args.clauses.now (entries_of c.visit_list.new.watched.values) n)) c.in_default.is e.settled)
