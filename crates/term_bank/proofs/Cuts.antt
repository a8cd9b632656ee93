-- A bank that is cut back to its first trees.
use Rattle.std.proofs.Common.{◌≡◌, ℕ, suc, ◌≤◌, ◌<◌, List, [], ◌∷◌, length, take, drop, refl, ap, ap₂, sym, ◌∙◌, subst, arith, true, false, Result, Ok, Err, OnErr, ◌⊎◌, inl, inr}
use Rattle.std.specs.Prelude.{is_err}
use Rattle.std.proofs.lemmas.List.{take_all, take-append-drop, length-take, length-take-le, get_or-take}
use Rattle.inst_logic.specs.declared.symbol.Sym.{Sym}
use Rattle.inst_logic.specs.Tree.{Tree, var}
use Rattle.term_bank.specs.Forest.{Forest, KeepsPlaces, Extends, ExtendsTrees, AreFormed, IsFormed, nth, no_symbol}
use Rattle.term_bank.specs.declared.node.Node.{Node}
use Rattle.term_bank.specs.declared.node.Node.TheVariants.{Var}
use Rattle.term_bank.specs.declared.node.Measures.{Measures}
use Rattle.term_bank.specs.Nodes.{reading, stored, node_in, no_measures, measures_in, trees_of, node_fits, AreMeasuresOf, IsBank}
use Rattle.term_bank.proofs.Nodes.{length_trees, trees_more}

-- what keeps its places stands first
pub keeps_take : {A : Type 0} (d : A) (xs ys : List A) → KeepsPlaces d xs ys → take (length xs) ys ≡ xs
keeps_take d [] ys k = refl
keeps_take d (x ∷ xs) [] k = absurd (omega (arith, k.0))
keeps_take d (x ∷ xs) (y ∷ ys) k = ap₂ (λ z zs. z ∷ zs) (k.1 0 (omega arith)) (keeps_take d xs ys (omega (arith, k.0), λ i h. k.1 (suc i) (omega arith)))

at_most_or_more : (n m : ℕ) → (n ≤ m) ⊎ (m ≤ n)
at_most_or_more n m = grind arith

module _ (ss : List Sym) (ns : List Node) (k : ℕ) where
  -- the trees of the first nodes
  pub trees_take : trees_of ss (take k ns) ≡ take k (trees_of ss ns)
  trees_take = by (at_most_or_more k (length ns))
    where
      by : (k ≤ length ns) ⊎ (length ns ≤ k) → trees_of ss (take k ns) ≡ take k (trees_of ss ns)
      by (inl p) =
          let first : ExtendsTrees (trees_of ss (take k ns)) (trees_of ss ns) =
          subst (λ (xs : List Node). ExtendsTrees (trees_of ss (take k ns)) (trees_of ss xs)) (take-append-drop k ns) (trees_more ss (take k ns) (drop k ns)) in
          sym (keeps_take (var 0) (trees_of ss (take k ns)) (trees_of ss ns) first) ∙ ap (λ n. take n (trees_of ss ns)) (length_trees ss (take k ns) ∙ length-take-le k ns p)
      by (inr p) = ap (trees_of ss) (take_all k ns p) ∙ sym (take_all k (trees_of ss ns) (omega (arith, length_trees ss ns, p)))

  node_kept : (j : ℕ) → j < length (take k ns) → node_in (take k ns) j ≡ node_in ns j
  node_kept j h = get_or-take k ns j (Var 0) (omega (arith, length-take k ns))

  measures_kept : (ms : List Measures) → (j : ℕ) → j < length (take k ns) → measures_in (take k ms) j ≡ measures_in ms j
  measures_kept ms j h = get_or-take k ms j no_measures (omega (arith, length-take k ns))

  tree_kept : (j : ℕ) → j < length (take k ns) → nth (trees_of ss (take k ns)) j ≡ nth (trees_of ss ns) j
  tree_kept j h = ap (λ (us : List Tree). nth us j) trees_take ∙ get_or-take k (trees_of ss ns) j (var 0) (omega (arith, length-take k ns))

  -- the first nodes and their measures are a bank
  pub bank_take : (ms : List Measures) → IsBank ss ns ms → IsBank ss (take k ns) (take k ms)
  bank_take ms b = record {
    symbols_once = b.symbols_once;
    fits = λ j h. subst (λ (m : Node). node_fits (length ss) j m ≡ true) (sym (node_kept j h)) (b.fits j (omega (arith, length-take k ns)));
    exact = λ j h. subst (λ (m : Node). stored (reading m) ≡ m) (sym (node_kept j h)) (b.exact j (omega (arith, length-take k ns)));
    beside = omega (arith, length-take k ns, length-take k ms, b.beside);
    measures = λ j h. subst (λ (t : Tree). AreMeasuresOf t (measures_in (take k ms) j)) (sym (tree_kept j h))
        (subst (λ (x : Measures). AreMeasuresOf (nth (trees_of ss ns) j) x) (sym (measures_kept ms j h)) (b.measures j (omega (arith, length-take k ns))));
    distinct = λ i j p q e. b.distinct i j (omega (arith, length_trees ss ns, length_trees ss (take k ns), length-take k ns)) (omega (arith, length_trees ss ns, length_trees ss (take k ns), length-take k ns))
        (sym (tree_kept i (omega (arith, length_trees ss (take k ns)))) ∙ e ∙ tree_kept j (omega (arith, length_trees ss (take k ns))));
  }

-- what extended the bank goes
pub cut_back : (f g h : Forest) (len : ℕ) → len ≡ length f.trees → Extends f g → h.trees ≡ take len g.trees → h.trees ≡ f.trees
cut_back f g h len is e cut = cut ∙ ap (λ n. take n g.trees) is ∙ keeps_take (var 0) f.trees g.trees e.trees

pub on_err : {T E : Type 0} (P : Type 0) (r : Result T E) → P → OnErr r P
on_err P (Ok x) p = tt
on_err P (Err e) p = p

pub no_err : {T E : Type 0} (P : Type 0) (r : Result T E) → false ≡ is_err r → OnErr r P
no_err P (Ok x) e = tt
no_err P (Err x) e = absurd (cc)

-- a bank that is cut back to the trees that it had extends what it was then
pub extends_cut : (f g h : Forest) → Extends f g → h.trees ≡ take (length f.trees) g.trees → h.symbols ≡ g.symbols → Extends f h
extends_cut f g h e cut same = record {
  trees = subst (λ ts. ExtendsTrees f.trees ts) (sym (cut ∙ keeps_take (var 0) f.trees g.trees e.trees)) (omega arith, λ i p. refl);
  symbols = subst (λ ss. KeepsPlaces no_symbol f.symbols ss) (sym same) e.symbols;
}

pub formed_cut : (f h : Forest) (len : ℕ) → AreFormed f → h.trees ≡ take len f.trees → AreFormed h
formed_cut f h len formed cut = λ i p.
    let q : i < length (take len f.trees) = subst (λ ts. i < length ts) cut p in
    subst (λ ts. IsFormed (nth ts i)) (sym cut) (subst IsFormed (sym (get_or-take len f.trees i (var 0) (omega (arith, length-take len f.trees)))) (formed i (omega (arith, length-take len f.trees))))
