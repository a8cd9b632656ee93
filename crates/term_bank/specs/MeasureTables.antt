-- What contracts see of a list of measures.
use Rattle.std.specs.Prelude.{ℕ, List}
use Rattle.term_bank.specs.declared.node.Measures.{Measures}

-- the measures by number, and for how many more there is room
pub record MeasureTable : Type 0 where
  pub items : List Measures
  pub room : ℕ
