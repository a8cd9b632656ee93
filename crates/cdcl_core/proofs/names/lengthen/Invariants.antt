use Rattle.std.proofs.Common.{◌≡◌, ℕ, ◌+◌, ◌-◌, Some, vec_len}
use Rattle.std.specs.Prelude.{slice_get}
use Rattle.prop_logic.specs.declared.literal.Hint.{Hint}
use Rattle.cdcl_core.proofs.names.lengthen.Given as goal

abbrev pub invariant-loop-hints : goal.invariant-loop-hints
invariant-loop-hints l = (k : ℕ) (h : Hint) → slice_get l.initial.hints.items k ≡ Some h → slice_get l.hints.items k ≡ Some h

abbrev pub decreases-loop-hints : goal.decreases-loop-hints
decreases-loop-hints l = l.number + 1 - vec_len l.hints
