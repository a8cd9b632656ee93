use Rattle.std.proofs.Common.{◌++◌, ◌∷◌, []}
use Rattle.cdcl_core.proofs.CutLaws.{KeepsFirst}
use Rattle.cdcl_core.proofs.cut.needed_steps.Given as goal

abbrev pub invariant-loop-place : goal.invariant-loop-place
invariant-loop-place l = KeepsFirst (l.steps ++ l.last ∷ []) l.place-items l.place-index l.kept
