-- The measures of an application, and what an insertion makes of a bank.
use Rattle.std.proofs.Common.{◌≡◌, ℕ, ◌+◌, ◌-◌, ◌^◌, ◌<◌, min, List, [], ◌∷◌, ◌++◌, length, map, fold, Option, Some, None, Bool, true, false, refl, ap, sym, ◌∙◌, subst, arith, nat_lt, ◌⊎◌, inl, inr}
use Rattle.std.specs.Prelude.{sum_by}
use Rattle.std.specs.List.{All, list_all}
use Rattle.std.proofs.lemmas.List.{get_or_append_left, get_or_push, length_push}
use Rattle.std.proofs.lemmas.List.Sums.{sum_by-cons}
use Rattle.std.proofs.lemmas.List.Elements.{All-head, All-tail}
use Rattle.std.proofs.lemmas.Bool.{lt-ltb}
use Rattle.inst_logic.proofs.SameLemmas.{and_left, and_right, and_both}
use Rattle.inst_logic.specs.declared.symbol.Sym.{Sym}
use Rattle.inst_logic.specs.Tree.{Tree, var, app, of_list}
use Rattle.inst_logic.specs.Measure.{tree_size, trees_size, tree_weight, trees_weight, function_count}
use Rattle.term_bank.specs.declared.node.Node.{Node}
use Rattle.term_bank.specs.declared.node.Node.TheVariants.{Var}
use Rattle.term_bank.specs.declared.node.Measures.{Measures}
use Rattle.term_bank.specs.Forest.{ExtendsTrees, KeepsPlaces, IsFormed, AreFormedTrees, no_symbol, symbol_at, nth}
use Rattle.term_bank.specs.Greatest.{greater, greatest_variable, greatest_variables}
use Rattle.term_bank.specs.Nodes.{reading, stored, node_of, measures_in, reading_tree, node_tree, trees_of, reading_fits, node_fits, AreMeasuresOf, IsBank, IsNumbered, SymbolsGrow}
use Rattle.term_bank.proofs.Greatest.{greater_none, greater_assoc}
use Rattle.term_bank.proofs.Nodes.{below, last_or_before, node_agree, length_trees, tree_at_node, trees_push, trees_symbol, bank_symbol, bank_node, reading_of}

pub all_below : (n : ℕ) (args : List ℕ) → All (λ i. i < n) args → list_all (λ i. nat_lt i n) args ≡ true
all_below n [] h = refl
all_below n (a ∷ args) h =
    let first : a < n = All-head (λ i. i < n) a args h in
    and_both (nat_lt a n) _ (lt-ltb a n first) (all_below n args (All-tail (λ i. i < n) a args h))

add_capped : (x y s t c m : ℕ) → x ≡ min y m → min (s + c) m ≡ min (t + c) m → min (x + s + c) m ≡ min (y + t + c) m
add_capped x y s t c m p q = omega arith

module _ (ts : List Tree) (n m : ℕ) where
  sizes : (g : ℕ → ℕ) → ((i : ℕ) → i < n → g i ≡ min (tree_size (nth ts i)) m) → (args : List ℕ) → list_all (λ i. nat_lt i n) args ≡ true → (c : ℕ)
      → min (sum_by g args + c) m ≡ min (trees_size (of_list (map (nth ts) args)) + c) m
  sizes g same [] h c = refl
  sizes g same (a ∷ args) h c =
      rw (sum_by-cons g a args) (add_capped (g a) (tree_size (nth ts a)) (sum_by g args) (trees_size (of_list (map (nth ts) args))) c m
      (same a (below a n (and_left (nat_lt a n) _ h))) (sizes g same args (and_right (nat_lt a n) _ h) c))

  weights : (g : ℕ → ℕ) → ((i : ℕ) → i < n → g i ≡ min (tree_weight (nth ts i)) m) → (args : List ℕ) → list_all (λ i. nat_lt i n) args ≡ true → (c : ℕ)
      → min (sum_by g args + c) m ≡ min (trees_weight (of_list (map (nth ts) args)) + c) m
  weights g same [] h c = refl
  weights g same (a ∷ args) h c =
      rw (sum_by-cons g a args) (add_capped (g a) (tree_weight (nth ts a)) (sum_by g args) (trees_weight (of_list (map (nth ts) args))) c m
      (same a (below a n (and_left (nat_lt a n) _ h))) (weights g same args (and_right (nat_lt a n) _ h) c))

  greatests : (g : ℕ → Option ℕ) → ((i : ℕ) → i < n → g i ≡ greatest_variable (nth ts i)) → (a : Option ℕ) (args : List ℕ) → list_all (λ i. nat_lt i n) args ≡ true
      → fold (λ b i. greater b (g i)) a args ≡ greater a (greatest_variables (of_list (map (nth ts) args)))
  greatests g same a [] h = sym (greater_none a)
  greatests g same a (i ∷ args) h =
      greatests g same (greater a (g i)) args (and_right (nat_lt i n) _ h) ∙ greater_assoc a (g i) _
      ∙ ap (λ b. greater a (greater b (greatest_variables (of_list (map (nth ts) args))))) (same i (below i n (and_left (nat_lt i n) _ h)))

-- the node of an application
pub node_of_tree : (ss : List Sym) (ts : List Tree) (s : ℕ) (args : List ℕ) → node_tree ss ts (node_of s args) ≡ app (symbol_at ss s) (of_list (map (nth ts) args))
node_of_tree ss ts s args = ap (reading_tree ss ts) (reading_of s args)

pub node_of_fits : (n k s : ℕ) (args : List ℕ) → s < n → All (λ i. i < k) args → node_fits n k (node_of s args) ≡ true
node_of_fits n k s args h all = ap (reading_fits n k) (reading_of s args) ∙ and_both (nat_lt s n) _ (lt-ltb s n h) (all_below k args all)

pub application_measures : (ss : List Sym) (ns : List Node) (ms : List Measures) → IsBank ss ns ms → (s : ℕ) (f : Sym) (args : List ℕ) (x : Measures) → symbol_at ss s ≡ f → All (λ i. i < length ns) args
    → x.size ≡ min (sum_by (λ i. (measures_in ms i).size) args + 1) (2 ^ 64 - 1)
    → x.weight ≡ min (sum_by (λ i. (measures_in ms i).weight) args + function_count f.kind) (2 ^ 64 - 1)
    → x.greatest ≡ fold (λ g i. greater g (measures_in ms i).greatest) None args → AreMeasuresOf (app (symbol_at ss s) (of_list (map (nth (trees_of ss ns)) args))) x
application_measures ss ns ms b s f args x is within size weight greatest =
    let all = all_below (length ns) args within in
    let ts = trees_of ss ns in
    let m : ℕ = 2 ^ 64 - 1 in
    record {
      size = size ∙ sizes ts (length ns) m (λ i. (measures_in ms i).size) (λ i h. (b.measures i h).size) args all 1;
      weight = weight ∙ weights ts (length ns) m (λ i. (measures_in ms i).weight) (λ i h. (b.measures i h).weight) args all (function_count f.kind)
          ∙ ap (λ (g : Sym). min (trees_weight (of_list (map (nth ts) args)) + function_count g.kind) m) (sym is);
      greatest = greatest ∙ greatests ts (length ns) m (λ i. (measures_in ms i).greatest) (λ i h. (b.measures i h).greatest) None args all;
    }

pub variable_measures : (ss : List Sym) (ts : List Tree) (v : ℕ) → AreMeasuresOf (node_tree ss ts (Var v)) (record { size = 1; weight = 0; greatest = Some v })
variable_measures ss ts v = record { size = refl; weight = refl; greatest = refl }

-- symbols keep their numbers
pub symbols_kept : (ss rs : List Sym) (s : Sym) → SymbolsGrow ss rs s → KeepsPlaces no_symbol ss rs
symbols_kept ss rs s (inl e) = subst (λ (xs : List Sym). KeepsPlaces no_symbol ss xs) (sym e) (omega arith, λ i h. refl)
symbols_kept ss rs s (inr p) = subst (λ (xs : List Sym). KeepsPlaces no_symbol ss xs) (sym p.0) (omega (arith, length_push ss s), λ i h. get_or_append_left ss (s ∷ []) no_symbol i h)

pub record IsSameBank (ss : List Sym) (ns : List Node) (ms : List Measures) (rs : List Sym) : Type 0 where
  pub bank : IsBank rs ns ms
  pub trees : trees_of rs ns ≡ trees_of ss ns

pub symbol_step : (ss rs : List Sym) (s : Sym) (ns : List Node) (ms : List Measures) → IsBank ss ns ms → SymbolsGrow ss rs s → IsSameBank ss ns ms rs
symbol_step ss rs s ns ms b (inl e) = record { bank = subst (λ (xs : List Sym). IsBank xs ns ms) (sym e) b; trees = ap (λ (xs : List Sym). trees_of xs ns) e }
symbol_step ss rs s ns ms b (inr p) = record {
  bank = subst (λ (xs : List Sym). IsBank xs ns ms) (sym p.0) (bank_symbol ss s ns ms b p.1);
  trees = ap (λ (xs : List Sym). trees_of xs ns) p.0 ∙ trees_symbol ss s ns ms b;
}

-- the node stands at the number in a bank that extends the first
pub record IsBankWith (ss : List Sym) (ns os : List Node) (ps : List Measures) (n : Node) (i : ℕ) : Type 0 where
  pub bank : IsBank ss os ps
  pub extends : ExtendsTrees (trees_of ss ns) (trees_of ss os)
  pub formed : AreFormedTrees (trees_of ss ns) → IsFormed (node_tree ss (trees_of ss ns) n) → AreFormedTrees (trees_of ss os)
  pub at : (i < length (trees_of ss os)) × (nth (trees_of ss os) i ≡ node_tree ss (trees_of ss ns) n)

-- one more formed tree
formed_push : (ts : List Tree) (t : Tree) → AreFormedTrees ts → IsFormed t → AreFormedTrees (ts ++ t ∷ [])
formed_push ts t old new i h = by (last_or_before i (length ts) (omega (arith, length_push ts t)))
  where
    by : (i < length ts) ⊎ (i ≡ length ts) → IsFormed (nth (ts ++ t ∷ []) i)
    by (inl p) = subst IsFormed (sym (get_or_append_left ts (t ∷ []) (var 0) i p)) (old i p)
    by (inr p) = subst IsFormed (sym (get_or_push ts t (var 0) i (sym p))) new

module _ (ss : List Sym) (ns os : List Node) (ms : List Measures) (n : Node) (i : ℕ) (new : Bool) (b : IsBank ss ns ms) (fits : node_fits (length ss) (length ns) n ≡ true) (numbered : IsNumbered ns os n i new) where
  stands : (ps : List Measures) → IsBank ss os ps → ExtendsTrees (trees_of ss ns) (trees_of ss os) → (i < length (trees_of ss os)) × (nth (trees_of ss os) i ≡ node_tree ss (trees_of ss ns) n)
  stands ps grown extends = (
    omega (arith, length_trees ss os, numbered.within),
    tree_at_node ss os i numbered.within (grown.fits i numbered.within) ∙ ap (node_tree ss (trees_of ss os)) numbered.at
        ∙ node_agree ss (trees_of ss os) (trees_of ss ns) (length ns) n fits (λ j k. extends.1 j (omega (arith, length_trees ss ns))),
  )

  -- a node that was there
  pub known_step : new ≡ false → IsBankWith ss ns os ms n i
  known_step h =
      let e : os ≡ ns = numbered.known h in
      let bank : IsBank ss os ms = subst (λ (xs : List Node). IsBank ss xs ms) (sym e) b in
      let extends : ExtendsTrees (trees_of ss ns) (trees_of ss os) = subst (λ (xs : List Node). ExtendsTrees (trees_of ss ns) (trees_of ss xs)) (sym e) (omega arith, λ i h. refl) in
      record {
        bank = bank;
        extends = extends;
        formed = λ old made. subst (λ (xs : List Node). AreFormedTrees (trees_of ss xs)) (sym e) old;
        at = stands ms bank extends;
      }

  -- a new node, and its measures
  pub new_step : new ≡ true → (x : Measures) → stored (reading n) ≡ n → AreMeasuresOf (node_tree ss (trees_of ss ns) n) x → IsBankWith ss ns os (ms ++ x ∷ []) n i
  new_step h x exact measures =
      let p = numbered.grown h in
      let trees : trees_of ss os ≡ trees_of ss ns ++ node_tree ss (trees_of ss ns) n ∷ [] = ap (λ (xs : List Node). trees_of ss xs) p.0 ∙ trees_push ss ns n in
      let bank : IsBank ss os (ms ++ x ∷ []) = subst (λ (xs : List Node). IsBank ss xs (ms ++ x ∷ [])) (sym p.0) (bank_node ss ns ms n x b fits exact measures p.1) in
      let extends : ExtendsTrees (trees_of ss ns) (trees_of ss os) = subst (λ (us : List Tree). ExtendsTrees (trees_of ss ns) us) (sym trees)
      (omega (arith, length_push (trees_of ss ns) (node_tree ss (trees_of ss ns) n)), λ i h. get_or_append_left (trees_of ss ns) (node_tree ss (trees_of ss ns) n ∷ []) (var 0) i h) in
      record {
        bank = bank;
        extends = extends;
        formed = λ old made. subst AreFormedTrees (sym trees) (formed_push (trees_of ss ns) (node_tree ss (trees_of ss ns) n) old made);
        at = stands (ms ++ x ∷ []) bank extends;
      }
