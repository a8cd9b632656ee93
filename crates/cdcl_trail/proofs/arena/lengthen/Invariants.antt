use Rattle.std.proofs.Common.{◌≡◌, ◌-◌, ℕ, List, length}
use Rattle.inst_logic.specs.declared.signed.Signed.{Signed}
use Rattle.cdcl_trail.specs.Arena.{clauses_at, AreWithin}
use Rattle.cdcl_trail.specs.Clauses.{clause_number}
use Rattle.cdcl_trail.proofs.arena.lengthen.Given as goal

abbrev pub invariant-loop-spans : goal.invariant-loop-spans
invariant-loop-spans l = record {
  kept : (literals : List (Signed ℕ)) (k : ℕ) → clause_number (clauses_at literals l.spans.items) k ≡ clause_number (clauses_at literals l.initial.spans.items) k;
  within : (size : ℕ) → AreWithin size l.initial.spans.items → AreWithin size l.spans.items;
}

abbrev pub decreases-loop-spans : goal.decreases-loop-spans
decreases-loop-spans l = l.n - length l.spans.items
