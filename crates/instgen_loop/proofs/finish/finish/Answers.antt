use Rattle.std.proofs.Common.{◌∙◌, ap, ap₂}
use Rattle.instgen_loop.specs.declared.finish.SettledRun.{SettledRun}
use Rattle.instgen_run.specs.Marks.{events_of}
use Rattle.instgen_loop.specs.Tasks.{all_clauses}
use Rattle.instgen_loop.proofs.Ended.{held_conclude, finished_read, events_read}
use Rattle.instgen_loop.proofs.Endings.{saturated_outcome}
use Rattle.instgen_loop.proofs.Stopped.{has_left, stopped_outcome}
use Rattle.instgen_loop.proofs.finish.finish.Goals as goal

pub decide-requires-clause-held : goal.decide-requires-clause-held
decide-requires-clause-held g c = held_conclude g.S.Solver.atoms g.S.Solver.added c.args.run.now (all_clauses c.args._task.now) c.args._task.now.budget c.requires.finished.solved

pub returns-in-None-clause-ending : goal.returns-in-None-clause-ending
returns-in-None-clause-ending g c =
    let S = g.S.Solver in
    let I = g.I.PartnerIndex in
    let t = c.args._task.now in
    let p = c.args._partners.now in
    let run = c.decide.new.run in
    let d = c.in_ok-decide.ensures in
    let s = c.settled_run in
    saturated_outcome S.atoms S.added I.pairs I.fits t run p c.args.given (finished_read c.args.run.now run d.reads S.atoms S.added I.pairs I.fits t p c.args.given d.safe c.requires.finished) c.requires.printable
    (rw c.in-None.is at d.decision) s.result s.new.run.log s.ensures.taken s.ensures.log

pub left_of-left-requires : goal.left_of-left-requires
left_of-left-requires g c =
    let S = g.S.Solver in
    let I = g.I.PartnerIndex in
    let t = c.args._task.now in
    let p = c.args._partners.now in
    let run = c.decide.new.run in
    let d = c.in_ok-decide.ensures in
    has_left S.atoms S.added I.pairs I.fits t run p c.args.given c.in-Some.wanted (finished_read c.args.run.now run d.reads S.atoms S.added I.pairs I.fits t p c.args.given d.safe c.requires.finished) (rw c.in-Some.is at d.decision)

pub returns-in-Some-clause-ending : goal.returns-in-Some-clause-ending
returns-in-Some-clause-ending g c =
    let S = g.S.Solver in
    let I = g.I.PartnerIndex in
    let t = c.args._task.now in
    let p = c.args._partners.now in
    let run = c.decide.new.run in
    let d = c.in_ok-decide.ensures in
    let s = c.settled_run-state in
    stopped_outcome S.atoms S.added I.pairs I.fits t run p c.args.given c.in-Some.wanted (finished_read c.args.run.now run d.reads S.atoms S.added I.pairs I.fits t p c.args.given d.safe c.requires.finished)
    (rw c.in-Some.is at d.decision) c.left_of-left.result c.left_of-left.ensures s.result s.new.run.log s.ensures.taken s.ensures.log

pub returns-in-None-clause-events : goal.returns-in-None-clause-events
returns-in-None-clause-events g c =
    ap₂ events_of c.settled_run.ensures.log (ap (λ (s : SettledRun). s.remains.clauses.entries) c.settled_run.ensures.taken) ∙ events_read c.args.run.now c.decide.new.run c.in_ok-decide.ensures.reads

pub returns-in-Some-clause-events : goal.returns-in-Some-clause-events
returns-in-Some-clause-events g c =
    ap₂ events_of c.settled_run-state.ensures.log (ap (λ (s : SettledRun). s.remains.clauses.entries) c.settled_run-state.ensures.taken) ∙ events_read c.args.run.now c.decide.new.run c.in_ok-decide.ensures.reads
