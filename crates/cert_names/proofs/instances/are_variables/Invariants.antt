use Rattle.std.proofs.Common.{◌<◌, ℕ, slice_index_or}
use Rattle.inst_logic.specs.Tree.{var}
use Rattle.term_bank.specs.Forest.{IsAt}
use Rattle.cert_names.proofs.instances.are_variables.Given as goal

abbrev pub invariant-loop-i : goal.invariant-loop-i
invariant-loop-i l = (v d : ℕ) → v < l.i → IsAt l.bank (slice_index_or l.terms v d) (var v)
