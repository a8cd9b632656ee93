use Rattle.std.proofs.Common.{◌≡◌, ◌≢◌, ◌<◌, ℕ, List, length, Some, None, sym, ap, ◌∙◌, subst, arith}
use Rattle.std.specs.Prelude.{slice_get}
use Rattle.std.specs.List.{swap_remove}
use Rattle.std.proofs.lemmas.Option.{slice_get-get_or, same_Some}
use Rattle.inst_logic.specs.declared.signed.Signed.{Signed}
use Rattle.cdcl_trail.specs.Clauses.{clause_number}
use Rattle.cdcl_trail.specs.Loose.{IsLookedAt, IsLooseRun}
use Rattle.cdcl_trail.specs.Watch.{pair_at}
use Rattle.cdcl_trail.specs.Watching.{IsTrueAt}
use Rattle.cdcl_trail.specs.Values.{entries_of}
use Rattle.cdcl_trail.proofs.VisitLaws.{runs_on}
use Rattle.cdcl_trail.proofs.LooseLaws.{loose_begins, loose_passed, loose_taken, loose_on}
use Rattle.cdcl_trail.proofs.loose.settle_loose.Goals as goal

pub loop-passed-init : goal.loop-passed-init
loop-passed-init c = record {
  run = loose_begins c.args.clauses.now c.args.level c.args.watched.now.values c.args.watched.now.lists.items c.args.watched.now.pairs.items c.args.attached.now.loose.items c.args.passed.now c.requires.running c.requires.loose;
  copies = c.requires.copies;
}

pub loop-passed-preserved-in-Passed : goal.loop-passed-preserved-in-Passed
loop-passed-preserved-in-Passed c =
    let l = c.loop-passed in
    let n = c.index.result.now in
    let inside : l.passed < length l.attached.loose.items = omega (arith, l.attached.loose.ok.0) in
    let here : slice_get l.attached.loose.items l.passed ≡ Some n = slice_get-get_or l.attached.loose.items l.passed n inside ∙ ap Some (sym c.index.ensures) in
    let e = c.in_ok-look_at.ensures in
    let true_now : IsTrueAt c.args.clauses.now (entries_of c.look_at.new.watched.values) n = subst (IsLookedAt c.args.clauses.now n (entries_of c.look_at.new.watched.values) c.look_at.new.watched.pairs.items) c.in-Passed.is e.looked in
    let run = loose_passed c.args.clauses.now c.args.level c.args.watched.now.values l.watched.values c.look_at.new.watched.values c.look_at.new.watched.lists.items l.watched.lists.items c.args.watched.now.pairs.items l.watched.pairs.items c.look_at.new.watched.pairs.items c.args.attached.now.loose.items l.attached.loose.items c.args.passed.now l.passed n
    l.invariant.run here e.running e.runs true_now in
    record { run = run; copies = e.copies }

pub loop-passed-preserved : goal.loop-passed-preserved
loop-passed-preserved c =
    let l = c.loop-passed in
    let n = c.index.result.now in
    let inside : l.passed < length l.attached.loose.items = omega (arith, l.attached.loose.ok.0) in
    let here : slice_get l.attached.loose.items l.passed ≡ Some n = slice_get-get_or l.attached.loose.items l.passed n inside ∙ ap Some (sym c.index.ensures) in
    let same : c.swap_remove.result ≡ n = same_Some c.swap_remove.result n (ap Some c.swap_remove.ensures.value ∙ sym (slice_get-get_or l.attached.loose.items l.passed c.swap_remove.result inside) ∙ here) in
    let e = c.in_ok-look_at.ensures in
    let taken : (d : List (Signed ℕ)) → clause_number c.args.clauses.now n ≡ Some d → pair_at c.look_at.new.watched.pairs.items n ≢ None =
    subst (IsLookedAt c.args.clauses.now n (entries_of c.look_at.new.watched.values) c.look_at.new.watched.pairs.items) c.in-Taken.is e.looked in
    let run = subst (λ ns. IsLooseRun c.args.clauses.now c.args.level c.args.watched.now.values c.args.watched.now.pairs.items c.args.attached.now.loose.items c.args.passed.now c.look_at.new.watched.values c.look_at.new.watched.lists.items c.look_at.new.watched.pairs.items ns l.passed)
    (sym (c.swap_remove.ensures.items ∙ ap (swap_remove l.attached.loose.items l.passed) same))
    (loose_taken c.args.clauses.now c.args.level c.args.watched.now.values l.watched.values c.look_at.new.watched.values c.look_at.new.watched.lists.items l.watched.lists.items c.args.watched.now.pairs.items l.watched.pairs.items c.look_at.new.watched.pairs.items c.args.attached.now.loose.items l.attached.loose.items c.args.passed.now l.passed n
    l.invariant.run here e.running e.runs taken) in
    record { run = run; copies = e.copies }

pub returns-in-False-clause-runs : goal.returns-in-False-clause-runs
returns-in-False-clause-runs c =
    let l = c.loop-passed in
    runs_on c.args.clauses.now c.args.level c.args.watched.now.values l.watched.values c.look_at.new.watched.values c.args.watched.now.pairs.items l.watched.pairs.items c.look_at.new.watched.pairs.items l.invariant.run.runs c.in_ok-look_at.ensures.runs

pub returns-in-False-clause-loose : goal.returns-in-False-clause-loose
returns-in-False-clause-loose c =
    let l = c.loop-passed in
    loose_on c.args.clauses.now c.args.level l.watched.values c.look_at.new.watched.values l.watched.pairs.items c.look_at.new.watched.pairs.items l.attached.loose.items l.passed c.in_ok-look_at.ensures.runs l.invariant.run.are_loose

pub returns-in-False-clause-added : goal.returns-in-False-clause-added
returns-in-False-clause-added c =
    let l = c.loop-passed in
    (runs_on c.args.clauses.now c.args.level c.args.watched.now.values l.watched.values c.look_at.new.watched.values c.args.watched.now.pairs.items l.watched.pairs.items c.look_at.new.watched.pairs.items l.invariant.run.runs c.in_ok-look_at.ensures.runs).added
