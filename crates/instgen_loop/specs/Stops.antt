-- How a run ends.
use Rattle.std.specs.Prelude.{List, ⊤}
use Rattle.prop_logic.specs.declared.literal.Step.{Step}
use Rattle.instgen_loop.specs.declared.cycle.Stop.{Stop}
use Rattle.instgen_loop.specs.declared.cycle.Stop.TheVariants.{Refuted, Finished, GivenUp}

-- it holds where nothing waits any more
abbrev pub IfFinished : Stop → Type 0 → Type 0
IfFinished (Refuted d) P = ⊤
IfFinished Finished P = P
IfFinished GivenUp P = ⊤

-- it holds of the derivation, where there is one
abbrev pub IfRefuted : Stop → (List Step → Type 0) → Type 0
IfRefuted (Refuted d) P = P d
IfRefuted Finished P = ⊤
IfRefuted GivenUp P = ⊤

-- the run was not given up
abbrev pub IsNotGivenUp : Stop → Type 0
IsNotGivenUp (Refuted d) = ⊤
IsNotGivenUp Finished = ⊤
IsNotGivenUp GivenUp = ⊥
