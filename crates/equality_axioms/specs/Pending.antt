-- Trees that are left to walk, the last one first.
use Rattle.std.specs.Prelude.{ℕ, ◌+◌, List, [], ◌∷◌, ◌++◌}
use Rattle.inst_logic.specs.declared.symbol.Sym.{Sym}
use Rattle.inst_logic.specs.Measure.{tree_size}
use Rattle.inst_logic.specs.Tree.{Tree}
use Rattle.inst_calculus.specs.Axioms.{tree_symbols}

abbrev pub pending_symbols : List Tree → List Sym
pending_symbols [] = []
pending_symbols (t ∷ ts) = pending_symbols ts ++ tree_symbols t

abbrev pub pending_size : List Tree → ℕ
pending_size [] = 0
pending_size (t ∷ ts) = tree_size t + pending_size ts
