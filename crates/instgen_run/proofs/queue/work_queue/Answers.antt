use Rattle.std.proofs.Common.{sym, ◌∙◌}
use Rattle.instgen_run.proofs.Waiting.{safe_requeued, partners_requeued, tended_requeued, ready_now}
use Rattle.instgen_run.proofs.Opposites.{running_requeued}
use Rattle.instgen_run.proofs.queue.work_queue.Goals as goal

pub work_ready-requires-clause-safe : goal.work_ready-requires-clause-safe
work_ready-requires-clause-safe g c = safe_requeued g.I.PartnerIndex.pairs g.I.PartnerIndex.fits c.args.run.now c.admit.new.self c.admit.ensures.items g.S.Solver.atoms c.requires.safe

pub work_ready-requires-clause-ready : goal.work_ready-requires-clause-ready
work_ready-requires-clause-ready g c = ready_now g.I.PartnerIndex.pairs g.I.PartnerIndex.fits c.args.run.now c.admit.new.self c.in_ok-admit.ensures.ready c.requires.waiting

pub work_ready-requires-clause-all : goal.work_ready-requires-clause-all
work_ready-requires-clause-all g c = c.in_ok-admit.ensures.ready ∙ sym c.admit.ensures.items

pub work_ready-requires-clause-partners : goal.work_ready-requires-clause-partners
work_ready-requires-clause-partners g c = partners_requeued g.I.PartnerIndex.pairs g.I.PartnerIndex.fits c.args.run.now c.admit.new.self c.args.partners.now c.requires.partners

pub work_ready-requires-clause-tended : goal.work_ready-requires-clause-tended
work_ready-requires-clause-tended g c = tended_requeued g.I.PartnerIndex.pairs g.I.PartnerIndex.fits c.args.run.now c.admit.new.self c.admit.ensures.items c.args.partners.now c.requires.tended

pub returns-clause-running : goal.returns-clause-running
returns-clause-running g c = λ bot cs budget v h.
    c.in_ok-appended.ensures.running bot cs budget v (running_requeued g.S.Solver.atoms g.S.Solver.added c.args.run.now c.admit.new.self bot cs budget v h)
