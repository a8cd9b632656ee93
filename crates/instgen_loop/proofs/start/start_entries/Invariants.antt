use Rattle.std.proofs.Common.{◌≡◌, ◌+◌, ◌++◌, List, length, map, take}
use Rattle.inst_logic.specs.Clauses.{TreeClause}
use Rattle.term_bank.specs.Forest.{clause_at}
use Rattle.instgen_run.specs.Loops.{IsConsistent}
use Rattle.instgen_loop.specs.FirstEntries.{Continues, IsStarted}
use Rattle.instgen_loop.proofs.start.start_entries.Given as goal

abbrev pub invariant-loop-i : goal.invariant-loop-i
invariant-loop-i g l = record {
  safe : IsConsistent g.S.Solver.atoms g.I.PartnerIndex.pairs g.I.PartnerIndex.fits l.run;
  continues : Continues l.fn.run l.run;
  count : l.k ≡ l.before + l.i;
  started : (cs : List TreeClause) → l.before ≡ length cs → IsStarted g.S.Solver.atoms g.S.Solver.added l.fn.run cs
      → IsStarted g.S.Solver.atoms g.S.Solver.added l.run (cs ++ map (clause_at l.fn.run.entries.bank) (take l.i l.clauses));
}
