-- What the fields of a bank say of the tree of an id.
use Rattle.std.proofs.Common.{◌≡◌, ℕ, ◌<◌, List, [], ◌∷◌, length, map, true, refl, ap, sym, ◌∙◌, subst, arith, nat_lt, Some, Option, slice_get, Bool, false}
use Rattle.std.specs.Prelude.{option_map}
use Rattle.std.proofs.lemmas.List.Sums.{position_or_len_is}
use Rattle.inst_logic.specs.Equal.{sym_eq}
use Rattle.inst_logic.proofs.SameLemmas.{sym_eq_decides}
use Rattle.std.specs.List.{All, list_all}
use Rattle.std.proofs.lemmas.List.Elements.{All-nil, All-cons}
use Rattle.std.proofs.lemmas.Option.{slice_get-get_or}
use Rattle.inst_logic.proofs.SameLemmas.{and_left, and_right}
use Rattle.inst_logic.proofs.Applications.{same_list}
use Rattle.inst_logic.specs.declared.symbol.Sym.{Sym}
use Rattle.inst_logic.specs.Tree.{Tree, var, app, of_list}
use Rattle.inst_logic.specs.Unifiers.{IsApplication}
use Rattle.term_bank.specs.declared.node.Node.{Node}
use Rattle.term_bank.specs.declared.node.Measures.{Measures}
use Rattle.term_bank.specs.declared.node.Parts.{Parts}
use Rattle.term_bank.specs.declared.node.Parts.TheVariants.{Var as Variable, App as Application}
use denote.Bor.{Bor}
use Rattle.term_bank.specs.Forest.{Forest, tree_at, number_of, symbol_of, arguments_of, with_arguments, no_symbol, symbol_at, nth}
use Rattle.term_bank.specs.Nodes.{AreParts, Reading, variable, application, reading, node_in, measures_in, reading_tree, node_tree, trees_of, reading_fits, AreMeasuresOf, IsBank}
use Rattle.term_bank.proofs.Nodes.{below, length_trees, tree_at_node}

below_all : (n : ℕ) (args : List ℕ) → list_all (λ i. nat_lt i n) args ≡ true → All (λ i. i < n) args
below_all n [] h = All-nil (λ i. i < n)
below_all n (a ∷ args) h = All-cons (λ i. i < n) a args (below a n (and_left (nat_lt a n) _ h)) (below_all n args (and_right (nat_lt a n) _ h))

-- a symbol's number is its place
number_is_place : (ss : List Sym) → ((i j : ℕ) → i < length ss → j < length ss → symbol_at ss i ≡ symbol_at ss j → i ≡ j) → (s : ℕ) → s < length ss → number_of ss (symbol_at ss s) ≡ s
number_is_place ss once s h = position_or_len_is (λ r. sym_eq (symbol_at ss s) r) ss s no_symbol (omega arith) (λ k p. differs k p (sym_eq (symbol_at ss s) (symbol_at ss k)) refl)
    (λ p. (sym_eq_decides (symbol_at ss s) (symbol_at ss s)).1 refl)
  where
    differs : (k : ℕ) → k < s → (b : Bool) → sym_eq (symbol_at ss s) (symbol_at ss k) ≡ b → sym_eq (symbol_at ss s) (symbol_at ss k) ≡ false
    differs k p true e = let i : s ≡ k = once s k h (omega arith) ((sym_eq_decides (symbol_at ss s) (symbol_at ss k)).0 e) in absurd (omega arith)
    differs k p false e = e

-- what the parts say of the node
pub read_variable : (n m : Node) (p : Parts) (v : ℕ) → m ≡ n → AreParts m p → p ≡ Variable v → reading n ≡ variable v
read_variable n m p v e parts is = ap reading (sym e) ∙ subst (λ (q : Parts). AreParts m q) is parts

pub read_application : (n m : Node) (p : Parts) (s : ℕ) (args : Bor (List ℕ)) → m ≡ n → AreParts m p → p ≡ Application s args → reading n ≡ application s args.now
read_application n m p s args e parts is = ap reading (sym e) ∙ subst (λ (q : Parts). AreParts m q) is parts

module _ (ss : List Sym) (ns : List Node) (ms : List Measures) (f : Forest) (b : IsBank ss ns ms) (is : trees_of ss ns ≡ f.trees) (id : ℕ) (h : id < length f.trees) where
  pub within : id < length ns
  within = omega (arith, length_trees ss ns, ap (λ (ts : List Tree). length ts) is)

  pub beside : id < length ms
  beside = omega (arith, within, b.beside)

  pub measures : AreMeasuresOf (tree_at f id) (measures_in ms id)
  measures = subst (λ (ts : List Tree). AreMeasuresOf (nth ts id) (measures_in ms id)) is (b.measures id within)

  tree : (r : Reading) → reading (node_in ns id) ≡ r → tree_at f id ≡ reading_tree ss f.trees r
  tree r e = subst (λ (ts : List Tree). nth ts id ≡ node_tree ss ts (node_in ns id)) is (tree_at_node ss ns id within (b.fits id within)) ∙ ap (reading_tree ss f.trees) e

  fits : (r : Reading) → reading (node_in ns id) ≡ r → reading_fits (length ss) id r ≡ true
  fits r e = subst (λ (q : Reading). reading_fits (length ss) id q ≡ true) e (b.fits id within)

  pub at_variable : (v : ℕ) → reading (node_in ns id) ≡ variable v → tree_at f id ≡ var v
  at_variable v e = tree (variable v) e

  pub at_application : (s : ℕ) (args : List ℕ) → reading (node_in ns id) ≡ application s args → tree_at f id ≡ app (symbol_at ss s) (of_list (map (nth f.trees) args))
  at_application s args e = tree (application s args) e

  pub no_variable : (v : ℕ) → reading (node_in ns id) ≡ variable v → IsApplication (tree_at f id) → ⊥
  no_variable v e h = subst (λ (t : Tree). IsApplication t) (at_variable v e) h

  -- the application of the same symbol to other arguments
  pub like_is : (s : ℕ) (args : List ℕ) → reading (node_in ns id) ≡ application s args → (ids : List ℕ)
      → app (symbol_at ss s) (of_list (map (nth (trees_of ss ns)) ids)) ≡ with_arguments (tree_at f id) (map (tree_at f) ids)
  like_is s args e ids =
      ap (λ (ts : List Tree). app (symbol_at ss s) (of_list (map (nth ts) ids))) is ∙ ap (λ (t : Tree). with_arguments t (map (tree_at f) ids)) (sym (at_application s args e))

  pub symbol_within : (s : ℕ) (args : List ℕ) → reading (node_in ns id) ≡ application s args → s < length ss
  symbol_within s args e = below s (length ss) (and_left (nat_lt s (length ss)) _ (fits (application s args) e))

  pub symbol_is : (s : ℕ) (args : List ℕ) → reading (node_in ns id) ≡ application s args → slice_get ss s ≡ symbol_of (tree_at f id)
  symbol_is s args e = slice_get-get_or ss s no_symbol (symbol_within s args e) ∙ ap symbol_of (sym (at_application s args e))

  pub number_is : (us : List Sym) → ss ≡ us → (s : ℕ) (args : List ℕ) → reading (node_in ns id) ≡ application s args → Some s ≡ option_map (number_of us) (symbol_of (tree_at f id))
  number_is us e s args p =
      ap Some (sym (number_is_place ss b.symbols_once s (symbol_within s args p)))
      ∙ ap (λ (o : Option Sym). option_map (number_of ss) o) (sym (ap symbol_of (at_application s args p))) ∙ ap (λ (xs : List Sym). option_map (number_of xs) (symbol_of (tree_at f id))) e

  pub symbol_numbered : (us : List Sym) → ss ≡ us → (s : ℕ) (args : List ℕ) → reading (node_in ns id) ≡ application s args → Some (symbol_at us s) ≡ symbol_of (tree_at f id)
  symbol_numbered us e s args p = ap (λ (xs : List Sym). Some (symbol_at xs s)) (sym e) ∙ ap symbol_of (sym (at_application s args p))

  pub arguments_are : (s : ℕ) (args : List ℕ) → reading (node_in ns id) ≡ application s args → map (tree_at f) args ≡ arguments_of (tree_at f id)
  arguments_are s args e = sym (same_list (map (nth f.trees) args)) ∙ ap arguments_of (sym (at_application s args e))

  pub arguments_below : (s : ℕ) (args : List ℕ) → reading (node_in ns id) ≡ application s args → All (λ i. i < id) args
  arguments_below s args e = below_all id args (and_right (nat_lt s (length ss)) _ (fits (application s args) e))
