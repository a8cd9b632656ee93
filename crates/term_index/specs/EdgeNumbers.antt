-- The number by which an edge is hashed.
use Rattle.std.specs.Prelude.{ℕ, ◌+◌, ◌*◌}
use Rattle.term_index.specs.declared.label.Label.{Label}
use Rattle.term_index.specs.declared.label.Label.TheVariants.{Variable, Symbol}
use Rattle.term_index.specs.declared.node.Edge.{Edge}

-- the node, and the symbol above it; edges by symbols of one number and two arities have one number
abbrev pub parts_number : ℕ → Label → ℕ
parts_number from Variable = from
parts_number from (Symbol symbol arity) = from + symbol * 4294967296

abbrev pub edge_number : Edge → ℕ
edge_number e = parts_number e.from e.label
