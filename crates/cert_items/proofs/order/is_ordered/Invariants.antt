use Rattle.std.proofs.Common.{◌≡◌, true}
use Rattle.std.specs.Prelude.{reverse}
use Rattle.inst_logic.specs.Substitution.{clause_vars}
use Rattle.term_bank.specs.Forest.{AreIds, clause_at}
use Rattle.cert_items.specs.Orders.{in_order, ids_vars, ids_size}
use Rattle.cert_items.proofs.order.is_ordered.Given as goal

abbrev pub invariant-loop-id : goal.invariant-loop-id
invariant-loop-id l = record {
  order : in_order l.met (ids_vars l.bank (reverse l.left.items)) ≡ true → in_order 0 (clause_vars (clause_at l.bank l.c)) ≡ true;
  within : AreIds l.bank (reverse l.left.items);
}

abbrev pub decreases-loop-id : goal.decreases-loop-id
decreases-loop-id l = ids_size l.bank (reverse l.left.items)
