use Rattle.std.proofs.Common.{◌≡◌, length, subst}
use Rattle.std.specs.Prelude.{IfNone}
use Rattle.cdcl_trail.specs.Running.{at_level, Runs}
use Rattle.cdcl_trail.specs.Values.{entries_of}
use Rattle.cdcl_trail.proofs.PropagationLaws.{more_added}
use Rattle.cdcl_trail.proofs.CopyLaws.{copies_running, copies_settled, still_copies, clauses_running, clauses_runs, clauses_given, clauses_settled, clauses_conflict}
use Rattle.cdcl_trail.proofs.LooseLaws.{loose_on}
use Rattle.cdcl_trail.proofs.StableLaws.{all_stable, stable_when, some_when}
use Rattle.cdcl_trail.proofs.TrailRunLaws.{settled_more}
use Rattle.cdcl_trail.proofs.VisitLaws.{runs_on}
use Rattle.cdcl_trail.proofs.propagation.saturate.Goals.{In_ok-found}
use Rattle.cdcl_trail.proofs.propagation.saturate.Goals as goal

pub returns-in-Some-clause-settled : goal.returns-in-Some-clause-settled
returns-in-Some-clause-settled c =
    let e = c.in_ok-number.ensures in
    let es = entries_of c.args.watched.now.values in
    settled_more c.args.clauses.now c.settle_loose.new.watched.pairs.items es (entries_of c.settle_loose.new.watched.values) c.args.head.now.place e.added.kept c.requires.head (e.runs.kept es c.args.head.now.place (λ l h. h) c.requires.settled)

pub visit_trail-requires-clause-running : goal.visit_trail-requires-clause-running
visit_trail-requires-clause-running c =
    let e = c.in_ok-number.ensures in
    copies_running c.args.clauses.now c.settle_loose.new.attached.arena c.args.level c.settle_loose.new.watched.values c.settle_loose.new.watched.lists.items c.settle_loose.new.watched.pairs.items e.copies e.running

pub visit_trail-requires-clause-settled : goal.visit_trail-requires-clause-settled
visit_trail-requires-clause-settled c =
    let e = c.in_ok-number.ensures in
    let es = entries_of c.args.watched.now.values in
    copies_settled c.args.clauses.now c.settle_loose.new.attached.arena c.settle_loose.new.watched.pairs.items c.settle_loose.new.watched.pairs.items (entries_of c.settle_loose.new.watched.values) c.args.head.now.place e.copies
    (settled_more c.args.clauses.now c.settle_loose.new.watched.pairs.items es (entries_of c.settle_loose.new.watched.values) c.args.head.now.place e.added.kept c.requires.head (e.runs.kept es c.args.head.now.place (λ l h. h) c.requires.settled))

pub returns-clause-copies : goal.returns-clause-copies
returns-clause-copies c =
    still_copies c.args.clauses.now c.settle_loose.new.attached.arena c.visit_trail.new.watched.lists.items c.settle_loose.new.watched.pairs.items c.visit_trail.new.watched.pairs.items c.in_ok-number.ensures.copies c.in_ok-found.ensures.running.watched

runs : (c : In_ok-found) → Runs c.args.clauses.now c.args.level c.settle_loose.new.watched.values c.settle_loose.new.watched.pairs.items c.visit_trail.new.watched.values c.visit_trail.new.watched.pairs.items
runs c =
    clauses_runs c.args.clauses.now c.settle_loose.new.attached.arena c.args.level c.settle_loose.new.watched.values c.visit_trail.new.watched.values c.settle_loose.new.watched.pairs.items c.visit_trail.new.watched.pairs.items c.in_ok-number.ensures.copies (returns-clause-copies c) c.in_ok-found.ensures.runs

pub returns-clause-running : goal.returns-clause-running
returns-clause-running c =
    let f = c.in_ok-found.ensures in
    clauses_running c.args.clauses.now c.settle_loose.new.attached.arena c.args.level c.settle_loose.new.watched.values c.visit_trail.new.watched.values c.visit_trail.new.watched.lists.items c.visit_trail.new.watched.pairs.items (returns-clause-copies c) c.in_ok-number.ensures.running.below f.added.atoms f.running

pub returns-clause-runs : goal.returns-clause-runs
returns-clause-runs c =
    runs_on c.args.clauses.now c.args.level c.args.watched.now.values c.settle_loose.new.watched.values c.visit_trail.new.watched.values c.args.watched.now.pairs.items c.settle_loose.new.watched.pairs.items c.visit_trail.new.watched.pairs.items c.in_ok-number.ensures.runs (runs c)

pub returns-clause-loose : goal.returns-clause-loose
returns-clause-loose c =
    loose_on c.args.clauses.now c.args.level c.settle_loose.new.watched.values c.visit_trail.new.watched.values c.settle_loose.new.watched.pairs.items c.visit_trail.new.watched.pairs.items c.settle_loose.new.attached.loose.items c.settle_loose.new.passed (runs c) c.in_ok-number.ensures.loose

pub returns-clause-settled : goal.returns-clause-settled
returns-clause-settled c =
    clauses_settled c.args.clauses.now c.settle_loose.new.attached.arena c.visit_trail.new.watched.pairs.items (entries_of c.visit_trail.new.watched.values) c.visit_trail.new.head (returns-clause-copies c) c.in_ok-found.ensures.settled

pub returns-clause-conflict : goal.returns-clause-conflict
returns-clause-conflict c =
    some_when c.in_ok-found.found (λ n x. clauses_conflict c.args.clauses.now c.settle_loose.new.attached.arena c.visit_trail.new.watched.pairs.items (entries_of c.visit_trail.new.watched.values) n (returns-clause-copies c) x) c.in_ok-found.ensures.conflict

pub returns-clause-added : goal.returns-clause-added
returns-clause-added c =
    more_added c.args.clauses.now (at_level c.args.level c.args.watched.now.values) (at_level c.args.level c.settle_loose.new.watched.values) (at_level c.args.level c.visit_trail.new.watched.values) c.in_ok-number.ensures.added (runs c).added

pub returns-clause-stable : goal.returns-clause-stable
returns-clause-stable c =
    let a = c.in_ok-number.ensures in
    let b = c.in_ok-found.ensures in
    stable_when c.in_ok-found.found (λ ends. all_stable c.args.clauses.now c.args.level c.visit_trail.new.watched.values c.visit_trail.new.watched.lists.items c.visit_trail.new.watched.pairs.items c.settle_loose.new.attached.loose.items c.settle_loose.new.passed c.visit_trail.new.head (returns-clause-running c) (returns-clause-loose c) (subst (λ o. IfNone o (c.settle_loose.new.passed ≡ length c.settle_loose.new.attached.loose.items)) c.in_default.is a.whole) (returns-clause-settled c) ends) b.whole

pub returns-in_err-found-clause-added : goal.returns-in_err-found-clause-added
returns-in_err-found-clause-added c =
    more_added c.args.clauses.now (at_level c.args.level c.args.watched.now.values) (at_level c.args.level c.settle_loose.new.watched.values) (at_level c.args.level c.visit_trail.new.watched.values) c.in_ok-number.ensures.added
    (clauses_given c.args.clauses.now c.settle_loose.new.attached.arena c.settle_loose.new.watched.pairs.items (at_level c.args.level c.settle_loose.new.watched.values) (at_level c.args.level c.visit_trail.new.watched.values) c.in_ok-number.ensures.copies c.visit_trail.ensures.added)
