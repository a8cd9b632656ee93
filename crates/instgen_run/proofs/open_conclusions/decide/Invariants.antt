use Rattle.std.proofs.Common.{take}
use Rattle.instgen_run.specs.Loops.{IsConsistent, held_in}
use Rattle.instgen_run.specs.Running.{Reads}
use Rattle.instgen_run.proofs.Decisions.{IsDecisionOf}
use Rattle.instgen_run.proofs.open_conclusions.decide.Given as goal

abbrev pub invariant-loop-k : goal.invariant-loop-k
invariant-loop-k g l = record {
  safe : IsConsistent g.S.Solver.atoms g.I.PartnerIndex.pairs g.I.PartnerIndex.fits l.run;
  reads : Reads l.fn.run l.run;
  found : IsDecisionOf l.run (held_in (take l.k l.fn.run.held.items)) l.least;
}
