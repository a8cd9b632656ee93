use Rattle.std.proofs.Common.{◌≡◌, length, map, take}
use Rattle.term_bank.specs.Forest.{AreFormed, Extends, clause_at}
use Rattle.ground_abs.specs.Abstracts.{AreAtomsIn, AreNotesIn}
use Rattle.instgen_run.specs.Grounds.{IsLinked}
use Rattle.instgen_loop.specs.LineNumbers.{clauses_of}
use Rattle.instgen_loop.proofs.derived.add_lines.Given as goal

abbrev pub invariant-loop-i : goal.invariant-loop-i
invariant-loop-i g l = record {
  extends : Extends l.fn.bank l.bank;
  formed : AreFormed l.bank;
  bot : l.ground.abstraction.bot ≡ l.fn.ground.abstraction.bot;
  fits : AreAtomsIn l.bank l.ground.abstraction.ids;
  notes : AreNotesIn l.bank l.ground.abstraction.bot l.ground.abstraction.notes;
  count : g.S.Solver.atoms l.ground.solver ≡ length l.ground.abstraction.ids;
  linked : IsLinked l.bank l.ground (g.S.Solver.atoms l.ground.solver) (g.S.Solver.added l.ground.solver) l.fn.ground.abstraction.bot (map (clause_at l.fn.bank) (clauses_of (take l.i l.lines)));
}
