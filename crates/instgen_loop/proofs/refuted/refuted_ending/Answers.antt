use Rattle.std.proofs.Common.{ap, ap₂}
use Rattle.instgen_loop.specs.declared.refuted.RefutedRun.{RefutedRun}
use Rattle.instgen_run.specs.Marks.{events_of}
use Rattle.instgen_loop.proofs.Refuting.{refuted_ending}
use Rattle.instgen_loop.proofs.refuted.refuted_ending.Goals as goal

pub returns-clause-ending : goal.returns-clause-ending
returns-clause-ending g c =
    let S = g.S.Solver in
    let I = g.I.PartnerIndex in
    refuted_ending S.atoms S.added I.pairs I.fits c.args._task.now c.args.run.now c.args.given c.args.derivation c.requires.safe c.requires.running c.requires.refutes c.requires.problem c.requires.printable
    c.in_ok-refuted.refuted c.refuted_run.new.run.log c.in_ok-refuted.ensures.taken c.in_ok-refuted.ensures.log

pub returns-clause-events : goal.returns-clause-events
returns-clause-events g c = ap₂ events_of c.in_ok-refuted.ensures.log (ap (λ (r : RefutedRun). r.remains.clauses.entries) c.in_ok-refuted.ensures.taken)
