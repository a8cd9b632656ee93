-- Trees whose symbols have numbers in the bank, and copies of them.
use Rattle.std.specs.Prelude.{◌≡◌, ◌<◌, ℕ, length, map, All, Some, option_map}
use Rattle.inst_logic.specs.Tree.{Tree, var, app, Trees, none, more}
use Rattle.term_bank.specs.Forest.{Forest, number_of, symbol_at, arguments_of, symbol_of}
use Rattle.term_index.specs.Labels.{label_of}
use Rattle.term_index.specs.Run.{Graph, node_at, args_at}

-- each symbol has its number
abbrev mutual
  pub IsNumbered : Forest → Tree → Type 0
  IsNumbered f (var v) = Unit {0}
  IsNumbered f (app s ts) = (number_of f.symbols s < length f.symbols) × (symbol_at f.symbols (number_of f.symbols s) ≡ s) × AreNumbered f ts

  pub AreNumbered : Forest → Trees → Type 0
  AreNumbered f none = Unit {0}
  AreNumbered f (more t ts) = IsNumbered f t × AreNumbered f ts

-- each node of the graph is that of its tree
pub record IsGraphOf (f : Forest) (tree : ℕ → Tree) (g : Graph) : Type 0 where
  pub label : (q : ℕ) → q < length g.nodes → (node_at g q).label ≡ label_of f (tree q)
  pub args : (q : ℕ) → q < length g.nodes → map tree (args_at g q) ≡ arguments_of (tree q)
  pub within : (q : ℕ) → q < length g.nodes → All (λ a. a < length g.nodes) (args_at g q)
  pub numbered : (q : ℕ) → q < length g.nodes → IsNumbered f (tree q)

-- the number of its symbol is one of the bank's, and tells the symbol
abbrev pub IsKnown : Forest → Tree → Type 0
IsKnown f t = (n : ℕ) → Some n ≡ option_map (number_of f.symbols) (symbol_of t) → (n < length f.symbols) × (Some (symbol_at f.symbols n) ≡ symbol_of t)
