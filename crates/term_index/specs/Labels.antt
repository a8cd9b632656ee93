-- An atom as the list of its labels, from left to right.
use Rattle.std.specs.Prelude.{ℕ, List, [], ◌∷◌, ◌++◌, Bool, true, false, ◌&&◌, nat_eq}
use Rattle.inst_logic.specs.Tree.{Tree, var, app, Trees, none, more}
use Rattle.inst_logic.specs.WellFormed.{count_of}
use Rattle.term_bank.specs.Forest.{Forest, number_of}
use Rattle.term_index.specs.declared.label.Label.{Label}
use Rattle.term_index.specs.declared.label.Label.TheVariants.{Variable, Symbol}

-- how many terms follow that belong to it
abbrev pub arity_of : Label → ℕ
arity_of Variable = 0
arity_of (Symbol s n) = n

-- the label at the root
abbrev pub label_of : Forest → Tree → Label
label_of f (var v) = Variable
label_of f (app s ts) = Symbol (number_of f.symbols s) (count_of ts)

-- the labels from left to right
abbrev mutual
  pub labels : Forest → Tree → List Label
  labels f (var v) = Variable ∷ []
  labels f (app s ts) = Symbol (number_of f.symbols s) (count_of ts) ∷ all_labels f ts

  pub all_labels : Forest → Trees → List Label
  all_labels f none = []
  all_labels f (more t ts) = labels f t ++ all_labels f ts

abbrev pub label_eq : Label → Label → Bool
label_eq Variable Variable = true
label_eq (Symbol s m) (Symbol r n) = nat_eq s r && nat_eq m n
label_eq _ _ = false
