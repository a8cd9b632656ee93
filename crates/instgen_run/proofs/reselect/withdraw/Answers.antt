use Rattle.std.proofs.Common.{refl}
use Rattle.instgen_run.proofs.Withdrawn.{withdrawn}
use Rattle.instgen_run.proofs.reselect.withdraw.Goals as goal

pub returns-clause-orderly : goal.returns-clause-orderly
returns-clause-orderly g c =
    withdrawn g.S.Solver.atoms g.I.PartnerIndex.pairs g.I.PartnerIndex.fits c.args.run.now c.requeue.new.run c.args.partners.now c.remove.new.partners c.args.n c.in_ok-removed.removed c.requires.orderly c.requires.within
    c.in_ok-removed.ensures.partners c.in_ok-removed.ensures.stays c.in_ok-removed.ensures.there c.in_ok-removed.ensures.absent c.in_ok-requeue.ensures

pub returns-clause-absent : goal.returns-clause-absent
returns-clause-absent g c = λ i. ((c.in_ok-removed.ensures.stays c.args.n).0 i).1 refl
