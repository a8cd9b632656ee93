use Rattle.std.proofs.Common.{take}
use Rattle.instgen_run.specs.Flips.{AreAtomsAt}
use Rattle.instgen_run.proofs.flips.atoms_at.Given as goal

abbrev pub invariant-loop-n : goal.invariant-loop-n
invariant-loop-n l = AreAtomsAt l.abstraction.ids (take l.n-index l.numbers) l.atoms
