use Rattle.std.proofs.Common.{ℕ, List, take}
use Rattle.std.specs.Prelude.{All, Contains, MatchOption, IfSome}
use Rattle.inst_logic.specs.declared.signed.Signed.{Signed}
use Rattle.inst_logic.specs.Derivations.{IsOnlyOutside}
use Rattle.proof_log.specs.Marks.{Holds}
use Rattle.proof_log.proofs.propagation.only_unmarked.Given as goal

-- what has been found so far
abbrev pub invariant-loop-lit : goal.invariant-loop-lit
invariant-loop-lit l = record {
  here : IfSome l.found (λ x. Contains l.clause x);
  so_far : (F : List (Signed ℕ)) → Holds l.marks F → MatchOption l.found (All (Contains F) (take l.lit-index l.clause)) (λ x. IsOnlyOutside F (take l.lit-index l.clause) x);
}
