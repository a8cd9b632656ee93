-- Atoms of a bank.
use Rattle.std.specs.Prelude.{ℕ, ◌<◌, length}
use Rattle.inst_logic.specs.WellFormed.{IsAtom}
use Rattle.term_bank.specs.Forest.{Forest, tree_at}

abbrev pub IsAtomOf : Forest → ℕ → Type 0
IsAtomOf f id = (id < length f.trees) × IsAtom (tree_at f id)
