-- What contracts see of a bank: its trees, the symbols of its applications, and whether it was refused memory.
use Rattle.std.specs.Prelude.{◌≡◌, ℕ, ◌<◌, ◌≤◌, List, [], length, map, Bool, true, false, ◌&&◌, refl, Option, Some, None, slice_index_or, ◌||◌, IsTrue}
use Rattle.std.specs.Coded.{Coded, code_by, coded×, coded_bool, coded_list}
use Rattle.std.specs.List.{All, position_or_len}
use Rattle.inst_logic.specs.declared.symbol.Sym.{Sym}
use Rattle.inst_logic.specs.declared.symbol.Kind.TheVariants.{Function}
use Rattle.inst_logic.specs.Tree.{Tree, var, app, Trees, none, more, to_list, of_list}
use Rattle.inst_logic.specs.TreeCode.{tree_code, sym_code}
use Rattle.inst_logic.specs.declared.signed.Signed.{Signed}
use Rattle.inst_logic.specs.Equal.{sym_eq}
use Rattle.inst_logic.specs.WellFormed.{IsTerm, tree_is_formed, atom_is_formed}

-- the tree of each id, the symbol of each number, and whether some call was refused memory
pub record Forest : Type 0 where
  pub trees : List Tree
  pub symbols : List Sym
  pub spent : Bool

abbrev pub forest_code : Coded Forest
forest_code = code_by (List Tree × (List Sym × Bool)) (coded× (coded_list tree_code) (coded× (coded_list sym_code) coded_bool)) (λ f. (f.trees, (f.symbols, f.spent)))
    (λ p. record { trees = p.0; symbols = p.1.0; spent = p.1.1 }) (λ _. refl)

-- item i of a list of trees
abbrev pub nth : List Tree → ℕ → Tree
nth ts i = slice_index_or ts i (var 0)

-- the tree of the id
abbrev pub tree_at : Forest → ℕ → Tree
tree_at f id = nth f.trees id

-- the id is in the bank, and its tree is this one
abbrev pub IsAt : Forest → ℕ → Tree → Type 0
IsAt f id t = (id < length f.trees) × (tree_at f id ≡ t)

-- the id is that of a term of the bank
abbrev pub IsTermIn : Forest → ℕ → Type 0
IsTermIn f id = (id < length f.trees) × IsTerm (tree_at f id)

-- each id is in the bank
abbrev pub AreIds : Forest → List ℕ → Type 0
AreIds f ids = All (λ id. id < length f.trees) ids

-- the literal of trees that a literal of ids stands for
abbrev pub literal_tree : Forest → Signed ℕ → Signed Tree
literal_tree f l = record { positive = l.positive; atom = tree_at f l.atom }

-- the clause of trees that a clause of ids stands for
abbrev pub clause_at : Forest → List (Signed ℕ) → List (Signed Tree)
clause_at f c = map (λ l. record { positive = l.positive; atom = tree_at f l.atom }) c

-- each atom's id is in the bank
abbrev pub IsClauseOf : Forest → List (Signed ℕ) → Type 0
IsClauseOf f c = All (λ l. l.atom < length f.trees) c

-- the atoms' ids are in the bank, and the clause stands for this one
abbrev pub IsClauseAt : Forest → List (Signed ℕ) → List (Signed Tree) → Type 0
IsClauseAt f c ts = IsClauseOf f c × (clause_at f c ≡ ts)

-- each item of the first list has its place in the second
abbrev pub KeepsPlaces : {A : Type 0} → A → List A → List A → Type 0
KeepsPlaces x xs ys = (length xs ≤ length ys) × ((i : ℕ) → i < length xs → slice_index_or ys i x ≡ slice_index_or xs i x)

abbrev pub no_symbol : Sym
no_symbol = record { kind = Function; name = []; arity = 0 }

-- the symbol of the number
abbrev pub symbol_at : List Sym → ℕ → Sym
symbol_at ss i = slice_index_or ss i no_symbol

-- the number of the symbol
abbrev pub number_of : List Sym → Sym → ℕ
number_of ss s = position_or_len (λ r. sym_eq s r) ss

abbrev pub ExtendsTrees : List Tree → List Tree → Type 0
ExtendsTrees ts us = KeepsPlaces (var 0) ts us

-- the trees of the first keep their ids in the second, and the symbols their numbers
pub record Extends (f g : Forest) : Type 0 where
  pub trees : ExtendsTrees f.trees g.trees
  pub symbols : KeepsPlaces no_symbol f.symbols g.symbols

-- equal trees have equal ids
abbrev pub AreDistinct : List Tree → Type 0
AreDistinct ts = (i j : ℕ) → i < length ts → j < length ts → nth ts i ≡ nth ts j → i ≡ j

-- a term or an atom
abbrev pub is_formed : Tree → Bool
is_formed t = tree_is_formed t || atom_is_formed t

abbrev pub IsFormed : Tree → Type 0
IsFormed t = IsTrue (is_formed t)

abbrev pub AreFormedTrees : List Tree → Type 0
AreFormedTrees ts = (i : ℕ) → i < length ts → IsFormed (nth ts i)

-- each tree of the bank is a term or an atom
abbrev pub AreFormed : Forest → Type 0
AreFormed f = AreFormedTrees f.trees

-- the second extends the first, and its trees are terms and atoms where those of the first are
abbrev pub Grows : Forest → Forest → Type 0
Grows f g = Extends f g × (AreFormed f → AreFormed g)

abbrev pub symbol_of : Tree → Option Sym
symbol_of (var v) = None
symbol_of (app s ts) = Some s

abbrev pub arguments_of : Tree → List Tree
arguments_of (var v) = []
arguments_of (app s ts) = to_list ts

-- the same at the root, with these arguments
abbrev pub with_arguments : Tree → List Tree → Tree
with_arguments (var v) us = var v
with_arguments (app s ts) us = app s (of_list us)

-- a tree without variables
abbrev mutual
  pub is_ground : Tree → Bool
  is_ground (var v) = false
  is_ground (app s ts) = are_ground ts

  pub are_ground : Trees → Bool
  are_ground none = true
  are_ground (more t ts) = is_ground t && are_ground ts
