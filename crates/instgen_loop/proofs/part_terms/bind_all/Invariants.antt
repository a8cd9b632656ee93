use Rattle.std.proofs.Common.{take}
use Rattle.inst_logic.specs.Substitution.{clause_vars}
use Rattle.term_bank.specs.Forest.{clause_at}
use Rattle.instgen_loop.specs.PartTerms.{AreBoundBy, renumbering}
use Rattle.instgen_loop.proofs.part_terms.bind_all.Given as goal

abbrev pub invariant-loop-i : goal.invariant-loop-i
invariant-loop-i l = AreBoundBy l.bank (renumbering l.bank l.kept) (clause_vars (clause_at l.bank (take l.i l.kept))) l.bindings.entries
