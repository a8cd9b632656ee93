use Rattle.std.proofs.Common.{◌≡◌, [], map, take, false}
use Rattle.inst_logic.specs.LiteralView.{literal}
use Rattle.inst_logic.specs.WellFormed.{IsFormedClause}
use Rattle.term_bank.specs.Forest.{IsClauseOf, clause_at, Extends, AreFormed}
use Rattle.term_bank.proofs.intern.interned_clause.Given as goal

abbrev pub invariant-loop-l : goal.invariant-loop-l
invariant-loop-l l = record {
  within : IsClauseOf l.bank l.ids;
  at : clause_at l.bank l.ids ≡ map literal (take l.l-index l.l-items);
  extends : Extends l.fn.bank l.bank;
  formed : AreFormed l.fn.bank → IsFormedClause l.fn.c → AreFormed l.bank;
  unspent : l.bank.spent ≡ false;
  empty : l.steps.items ≡ [];
}
