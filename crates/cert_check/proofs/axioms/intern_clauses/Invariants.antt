use Rattle.std.proofs.Common.{◌≡◌, map, take}
use Rattle.std.specs.Prelude.{All}
use Rattle.term_bank.specs.Forest.{AreFormed, Extends, IsClauseOf, clause_at}
use Rattle.cert_check.proofs.axioms.intern_clauses.Given as goal

abbrev pub invariant-loop-c : goal.invariant-loop-c
invariant-loop-c l = record {
  at : map (clause_at l.bank) l.ids ≡ take l.c-index l.c-items;
  ids : All (IsClauseOf l.bank) l.ids;
  extends : Extends l.fn.bank l.bank;
  formed : AreFormed l.bank;
}
