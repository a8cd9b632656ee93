use Rattle.std.proofs.Common.{ℕ, ◌<◌}
use Rattle.std.specs.List.{HoldsAt}
use Rattle.inst_logic.specs.Clauses.{Subsumes}
use Rattle.term_bank.specs.Forest.{clause_at}
use Rattle.cert_values.specs.declared.member.Member.{Member}
use Rattle.cert_check.proofs.inputs.subsuming_place.Given as goal

abbrev pub invariant-loop-i : goal.invariant-loop-i
invariant-loop-i l = (k : ℕ) → k < l.i → HoldsAt (λ (m : Member). ¬ (Subsumes (clause_at l.bank m.clause) (clause_at l.bank l.c))) l.members k
