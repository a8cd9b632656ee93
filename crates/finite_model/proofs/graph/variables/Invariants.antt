use Rattle.std.proofs.Common.{◌≡◌, map}
use Rattle.std.specs.List.{range_with_len}
use Rattle.inst_logic.specs.Tree.{var}
use Rattle.finite_model.proofs.graph.variables.Given as goal

abbrev pub invariant-loop-v : goal.invariant-loop-v
invariant-loop-v l = l.ts ≡ map var (range_with_len 0 l.v)
