-- The trees of a bank, as its nodes and its symbols grow.
use Rattle.std.proofs.Common.{◌≡◌, ℕ, zero, suc, ◌+◌, ◌<◌, ◌≤◌, List, [], ◌∷◌, ◌++◌, length, map, fold, true, refl, ap, ap₂, sym, ◌∙◌, subst, arith, nat_lt, ◌⊎◌, inl, inr, add-zero}
use Rattle.std.specs.Prelude.{◌&&◌}
use Rattle.std.specs.List.{list_all}
use Rattle.std.proofs.lemmas.List.{get_or_append_left, get_or_push, length_push}
use Rattle.std.proofs.lemmas.List.Sums.{fold_push, fold-append}
use Rattle.inst_logic.proofs.SameLemmas.{and_left, and_right}
use Rattle.inst_logic.specs.declared.symbol.Sym.{Sym}
use Rattle.inst_logic.specs.Tree.{Tree, var, app, of_list}
use Rattle.term_bank.specs.declared.node.Node.{Node}
use Rattle.term_bank.specs.declared.node.Node.TheVariants.{Var}
use Rattle.term_bank.specs.declared.node.Measures.{Measures}
use Rattle.term_bank.specs.Forest.{ExtendsTrees, AreDistinct, symbol_at, nth}
use Rattle.term_bank.specs.Nodes.{Reading, variable, application, reading, node_of, stored, node_in, no_measures, measures_in, reading_tree, node_tree, with_tree, trees_of, reading_fits, node_fits, AreMeasuresOf, IsBank}
use Rattle.std.proofs.lemmas.Bool.{ltb-true, lt-ltb}
pub use Rattle.inst_logic.proofs.Numbers.{last_or_before}

pub below : (i k : ℕ) → nat_lt i k ≡ true → i < k
below i k h = ltb-true i k h

pub map_agree : {A : Type 0} (f g : ℕ → A) (k : ℕ) (args : List ℕ) → list_all (λ i. nat_lt i k) args ≡ true → ((i : ℕ) → i < k → f i ≡ g i) → map f args ≡ map g args
map_agree f g k [] h same = refl
map_agree f g k (a ∷ args) h same =
    ap₂ (λ x xs. x ∷ xs) (same a (below a k (and_left (nat_lt a k) _ h))) (map_agree f g k args (and_right (nat_lt a k) _ h) same)

pub map_once : {A : Type 0} (f : ℕ → A) (k : ℕ) (xs ys : List ℕ) → list_all (λ i. nat_lt i k) xs ≡ true → list_all (λ i. nat_lt i k) ys ≡ true
    → ((i j : ℕ) → i < k → j < k → f i ≡ f j → i ≡ j) → map f xs ≡ map f ys → xs ≡ ys
map_once f k [] [] p q once e = refl
map_once f k [] (b ∷ ys) p q once e = absurd (cc)
map_once f k (a ∷ xs) [] p q once e = absurd (cc)
map_once f k (a ∷ xs) (b ∷ ys) p q once e =
    let first : f a ≡ f b = cc in
    let rest : map f xs ≡ map f ys = cc in
    ap₂ (λ x xs. x ∷ xs) (once a b (below a k (and_left (nat_lt a k) _ p)) (below b k (and_left (nat_lt b k) _ q)) first)
    (map_once f k xs ys (and_right (nat_lt a k) _ p) (and_right (nat_lt b k) _ q) once rest)

-- the arguments of a node are read back
pub reading_of : (s : ℕ) (args : List ℕ) → reading (node_of s args) ≡ application s args
reading_of s [] = refl
reading_of s (a ∷ []) = refl
reading_of s (a ∷ b ∷ []) = refl
reading_of s (a ∷ b ∷ c ∷ args) = refl

pub exact_of : (s : ℕ) (args : List ℕ) → stored (reading (node_of s args)) ≡ node_of s args
exact_of s args = ap stored (reading_of s args)

-- what is read over trees that agree on the arguments
reading_agree : (ss : List Sym) (ts us : List Tree) (k : ℕ) (r : Reading) → reading_fits (length ss) k r ≡ true → ((i : ℕ) → i < k → nth ts i ≡ nth us i)
    → reading_tree ss ts r ≡ reading_tree ss us r
reading_agree ss ts us k (variable v) fits same = refl
reading_agree ss ts us k (application s args) fits same =
    ap (λ xs. app (symbol_at ss s) (of_list xs)) (map_agree (nth ts) (nth us) k args (and_right (nat_lt s (length ss)) _ fits) same)

pub node_agree : (ss : List Sym) (ts us : List Tree) (k : ℕ) (n : Node) → node_fits (length ss) k n ≡ true → ((i : ℕ) → i < k → nth ts i ≡ nth us i) → node_tree ss ts n ≡ node_tree ss us n
node_agree ss ts us k n fits same = reading_agree ss ts us k (reading n) fits same

from_list : (xs ys : List Tree) → of_list xs ≡ of_list ys → xs ≡ ys
from_list [] [] e = refl
from_list [] (y ∷ ys) e = absurd (cc)
from_list (x ∷ xs) [] e = absurd (cc)
from_list (x ∷ xs) (y ∷ ys) e =
    let first : x ≡ y = cc in
    let rest : of_list xs ≡ of_list ys = cc in
    ap₂ (λ a b. a ∷ b) first (from_list xs ys rest)

-- equal trees are read alike
reading_once : (ss : List Sym) (ts : List Tree) → ((i j : ℕ) → i < length ss → j < length ss → symbol_at ss i ≡ symbol_at ss j → i ≡ j) → AreDistinct ts
    → (n m : Reading) → reading_fits (length ss) (length ts) n ≡ true → reading_fits (length ss) (length ts) m ≡ true → reading_tree ss ts n ≡ reading_tree ss ts m → n ≡ m
reading_once ss ts symbols once (variable v) (variable w) p q e = let i : v ≡ w = cc in ap (λ x. variable x) i
reading_once ss ts symbols once (variable v) (application s xs) p q e = absurd (cc)
reading_once ss ts symbols once (application s xs) (variable v) p q e = absurd (cc)
reading_once ss ts symbols once (application s xs) (application r ys) p q e =
    let f : symbol_at ss s ≡ symbol_at ss r = cc in
    let trees : of_list (map (nth ts) xs) ≡ of_list (map (nth ts) ys) = cc in
    let same : s ≡ r = symbols s r (below s (length ss) (and_left (nat_lt s (length ss)) _ p)) (below r (length ss) (and_left (nat_lt r (length ss)) _ q)) f in
    let args : xs ≡ ys = map_once (nth ts) (length ts) xs ys (and_right (nat_lt s (length ss)) _ p) (and_right (nat_lt r (length ss)) _ q) once (from_list _ _ trees) in
    ap₂ (λ x y. application x y) same args

-- equal trees are of equal nodes
pub node_once : (ss : List Sym) (ts : List Tree) → ((i j : ℕ) → i < length ss → j < length ss → symbol_at ss i ≡ symbol_at ss j → i ≡ j) → AreDistinct ts
    → (n m : Node) → stored (reading n) ≡ n → stored (reading m) ≡ m → node_fits (length ss) (length ts) n ≡ true → node_fits (length ss) (length ts) m ≡ true
    → node_tree ss ts n ≡ node_tree ss ts m → n ≡ m
node_once ss ts symbols once n m exact_n exact_m p q e = sym exact_n ∙ ap stored (reading_once ss ts symbols once (reading n) (reading m) p q e) ∙ exact_m

module _ (ss : List Sym) where
  length_built : (ts : List Tree) (ns : List Node) → length (fold (with_tree ss) ts ns) ≡ length ts + length ns
  length_built ts [] = omega arith
  length_built ts (e ∷ ns) = omega (arith, length_built (with_tree ss ts e) ns, length_push ts (node_tree ss ts e))

  built_keeps : (ts : List Tree) (ns : List Node) (k : ℕ) → k < length ts → nth (fold (with_tree ss) ts ns) k ≡ nth ts k
  built_keeps ts [] k h = refl
  built_keeps ts (e ∷ ns) k h =
      built_keeps (with_tree ss ts e) ns k (omega (arith, length_push ts (node_tree ss ts e))) ∙ get_or_append_left ts (node_tree ss ts e ∷ []) (var 0) k h

  built_at : (ts : List Tree) (ns : List Node) (k : ℕ) → k < length ns → node_fits (length ss) (length ts + k) (node_in ns k) ≡ true
      → nth (fold (with_tree ss) ts ns) (length ts + k) ≡ node_tree ss (fold (with_tree ss) ts ns) (node_in ns k)
  built_at ts [] k h fits = absurd (omega arith)
  built_at ts (e ∷ ns) zero h fits =
      let all = fold (with_tree ss) (with_tree ss ts e) ns in
      let grown : length (with_tree ss ts e) ≡ length ts + 1 = length_push ts (node_tree ss ts e) in
      let fits' : node_fits (length ss) (length ts) e ≡ true = subst (λ (n : ℕ). node_fits (length ss) n e ≡ true) (add-zero (length ts)) fits in
      subst (λ (n : ℕ). nth all n ≡ node_tree ss all e) (sym (add-zero (length ts)))
      (built_keeps (with_tree ss ts e) ns (length ts) (omega arith) ∙ get_or_push ts (node_tree ss ts e) (var 0) (length ts) refl
      ∙ node_agree ss ts all (length ts) e fits' (λ i b. sym (built_keeps (with_tree ss ts e) ns i (omega arith) ∙ get_or_append_left ts (node_tree ss ts e ∷ []) (var 0) i b)))
  built_at ts (e ∷ ns) (suc k) h fits =
      let all = fold (with_tree ss) (with_tree ss ts e) ns in
      let step : length (with_tree ss ts e) + k ≡ length ts + suc k = omega (arith, length_push ts (node_tree ss ts e)) in
      subst (λ (n : ℕ). nth all n ≡ node_tree ss all (node_in ns k)) step
      (built_at (with_tree ss ts e) ns k (omega arith) (subst (λ (n : ℕ). node_fits (length ss) n (node_in ns k) ≡ true) (sym step) fits))

  pub length_trees : (ns : List Node) → length (trees_of ss ns) ≡ length ns
  unfolding trees_of
  length_trees ns = omega (arith, length_built [] ns)

  -- the tree of a node is over all the trees
  pub tree_at_node : (ns : List Node) (k : ℕ) → k < length ns → node_fits (length ss) k (node_in ns k) ≡ true
      → nth (trees_of ss ns) k ≡ node_tree ss (trees_of ss ns) (node_in ns k)
  unfolding trees_of
  tree_at_node ns k h fits =
      let e : 0 + k ≡ k = omega arith in
      subst (λ (n : ℕ). nth (fold (with_tree ss) [] ns) n ≡ node_tree ss (fold (with_tree ss) [] ns) (node_in ns k)) e
      (built_at [] ns k h (subst (λ (n : ℕ). node_fits (length ss) n (node_in ns k) ≡ true) (sym e) fits))

  pub trees_push : (ns : List Node) (e : Node) → trees_of ss (ns ++ e ∷ []) ≡ with_tree ss (trees_of ss ns) e
  unfolding trees_of
  trees_push ns e = fold_push (with_tree ss) [] ns e

  -- more entries change no tree
  pub trees_more : (ns ms : List Node) → ExtendsTrees (trees_of ss ns) (trees_of ss (ns ++ ms))
  unfolding trees_of
  trees_more ns ms = subst (λ (us : List Tree). ExtendsTrees (fold (with_tree ss) [] ns) us) (sym (fold-append (with_tree ss) [] ns ms))
      (omega (arith, length_built (fold (with_tree ss) [] ns) ms), λ i h. built_keeps (fold (with_tree ss) [] ns) ms i h)

-- another symbol changes no tree
reading_kept : (ss : List Sym) (s : Sym) (ts : List Tree) (k : ℕ) (n : Reading) → reading_fits (length ss) k n ≡ true → reading_tree (ss ++ s ∷ []) ts n ≡ reading_tree ss ts n
reading_kept ss s ts k (variable v) fits = refl
reading_kept ss s ts k (application r args) fits =
    ap (λ x. app x (of_list (map (nth ts) args))) (get_or_append_left ss (s ∷ []) _ r (below r (length ss) (and_left (nat_lt r (length ss)) _ fits)))

symbol_kept : (ss : List Sym) (s : Sym) (ts : List Tree) (k : ℕ) (n : Node) → node_fits (length ss) k n ≡ true → node_tree (ss ++ s ∷ []) ts n ≡ node_tree ss ts n
symbol_kept ss s ts k n fits = reading_kept ss s ts k (reading n) fits

built_symbol : (ss : List Sym) (s : Sym) (ts : List Tree) (ns : List Node) → ((k : ℕ) → k < length ns → node_fits (length ss) (length ts + k) (node_in ns k) ≡ true)
    → fold (with_tree (ss ++ s ∷ [])) ts ns ≡ fold (with_tree ss) ts ns
built_symbol ss s ts [] fits = refl
built_symbol ss s ts (e ∷ ns) fits =
    let first : with_tree (ss ++ s ∷ []) ts e ≡ with_tree ss ts e = ap (λ (t : Tree). ts ++ t ∷ []) (symbol_kept ss s ts (length ts + 0) e (fits 0 (omega arith))) in
    ap (λ (us : List Tree). fold (with_tree (ss ++ s ∷ [])) us ns) first
    ∙ built_symbol ss s (with_tree ss ts e) ns (λ k h.
    let step : length ts + suc k ≡ length (with_tree ss ts e) + k = omega (arith, length_push ts (node_tree ss ts e)) in
    subst (λ (n : ℕ). node_fits (length ss) n (node_in ns k) ≡ true) step (fits (suc k) (omega arith)))

pub trees_symbol : (ss : List Sym) (s : Sym) (ns : List Node) (ms : List Measures) → IsBank ss ns ms → trees_of (ss ++ s ∷ []) ns ≡ trees_of ss ns
unfolding trees_of
trees_symbol ss s ns ms b = built_symbol ss s [] ns (λ k h. let e : k ≡ 0 + k = omega arith in subst (λ (n : ℕ). node_fits (length ss) n (node_in ns k) ≡ true) e (b.fits k h))

more_symbols : (m n k : ℕ) (x : Reading) → m ≤ n → reading_fits m k x ≡ true → reading_fits n k x ≡ true
more_symbols m n k (variable v) le fits = refl
more_symbols m n k (application s args) le fits =
    let h : s < m = below s m (and_left (nat_lt s m) _ fits) in
    ap₂ (λ a b. a && b) (lt-ltb s n (omega arith)) (and_right (nat_lt s m) _ fits)

pub bank_symbol : (ss : List Sym) (s : Sym) (ns : List Node) (ms : List Measures) → IsBank ss ns ms → ((i : ℕ) → i < length ss → ¬ (symbol_at ss i ≡ s)) → IsBank (ss ++ s ∷ []) ns ms
bank_symbol ss s ns ms b absent = record {
  symbols_once = λ i j p q e. once i j (last_or_before i (length ss) (omega (arith, length_push ss s))) (last_or_before j (length ss) (omega (arith, length_push ss s))) e;
  fits = λ k h. more_symbols (length ss) (length (ss ++ s ∷ [])) k (reading (node_in ns k)) (omega (arith, length_push ss s)) (b.fits k h);
  exact = b.exact;
  beside = b.beside;
  measures = λ k h. subst (λ (ts : List Tree). AreMeasuresOf (nth ts k) (measures_in ms k)) (sym (trees_symbol ss s ns ms b)) (b.measures k h);
  distinct = subst (λ (ts : List Tree). AreDistinct ts) (sym (trees_symbol ss s ns ms b)) b.distinct;
}
  where
    old : (i : ℕ) → i < length ss → symbol_at (ss ++ s ∷ []) i ≡ symbol_at ss i
    old i h = get_or_append_left ss (s ∷ []) _ i h

    new : (i : ℕ) → i ≡ length ss → symbol_at (ss ++ s ∷ []) i ≡ s
    new i h = get_or_push ss s _ i (sym h)

    once : (i j : ℕ) → (i < length ss) ⊎ (i ≡ length ss) → (j < length ss) ⊎ (j ≡ length ss) → symbol_at (ss ++ s ∷ []) i ≡ symbol_at (ss ++ s ∷ []) j → i ≡ j
    once i j (inl p) (inl q) e = b.symbols_once i j p q (sym (old i p) ∙ e ∙ old j q)
    once i j (inl p) (inr q) e = absurd (absent i p (sym (old i p) ∙ e ∙ new j q))
    once i j (inr p) (inl q) e = absurd (absent j q (sym (old j q) ∙ sym e ∙ new i p))
    once i j (inr p) (inr q) e = p ∙ sym q

-- another node, and its measures
pub bank_node : (ss : List Sym) (ns : List Node) (ms : List Measures) (n : Node) (x : Measures) → IsBank ss ns ms → node_fits (length ss) (length ns) n ≡ true → stored (reading n) ≡ n
    → AreMeasuresOf (node_tree ss (trees_of ss ns) n) x → ((i : ℕ) → i < length ns → ¬ (node_in ns i ≡ n)) → IsBank ss (ns ++ n ∷ []) (ms ++ x ∷ [])
bank_node ss ns ms n x b fits exact measures absent = record {
  symbols_once = b.symbols_once;
  fits = λ k h. fits_all k (last_or_before k (length ns) (omega (arith, length_push ns n)));
  exact = λ k h. exact_all k (last_or_before k (length ns) (omega (arith, length_push ns n)));
  beside = omega (arith, length_push ns n, length_push ms x, b.beside);
  measures = λ k h. measures_all k (last_or_before k (length ns) (omega (arith, length_push ns n)));
  distinct = λ i j p q same. once i j (last_or_before i (length ns) (omega (arith, all_length))) (last_or_before j (length ns) (omega (arith, all_length))) same;
}
  where
    len : length (trees_of ss ns) ≡ length ns
    len = length_trees ss ns

    all_length : length (trees_of ss (ns ++ n ∷ [])) ≡ length ns + 1
    all_length = length_trees ss (ns ++ n ∷ []) ∙ length_push ns n

    old_node : (k : ℕ) → k < length ns → node_in (ns ++ n ∷ []) k ≡ node_in ns k
    old_node k h = get_or_append_left ns (n ∷ []) (Var 0) k h

    new_node : (k : ℕ) → k ≡ length ns → node_in (ns ++ n ∷ []) k ≡ n
    new_node k h = get_or_push ns n (Var 0) k (sym h)

    old_measures : (k : ℕ) → k < length ns → measures_in (ms ++ x ∷ []) k ≡ measures_in ms k
    old_measures k h = get_or_append_left ms (x ∷ []) no_measures k (omega (arith, b.beside))

    new_measures : (k : ℕ) → k ≡ length ns → measures_in (ms ++ x ∷ []) k ≡ x
    new_measures k h = get_or_push ms x no_measures k (b.beside ∙ sym h)

    old_tree : (k : ℕ) → k < length ns → nth (trees_of ss (ns ++ n ∷ [])) k ≡ nth (trees_of ss ns) k
    old_tree k h = ap (λ (us : List Tree). nth us k) (trees_push ss ns n) ∙ get_or_append_left (trees_of ss ns) (node_tree ss (trees_of ss ns) n ∷ []) (var 0) k (omega (arith, len))

    new_tree : (k : ℕ) → k ≡ length ns → nth (trees_of ss (ns ++ n ∷ [])) k ≡ node_tree ss (trees_of ss ns) n
    new_tree k h = ap (λ (us : List Tree). nth us k) (trees_push ss ns n) ∙ get_or_push (trees_of ss ns) (node_tree ss (trees_of ss ns) n) (var 0) k (len ∙ sym h)

    fits_all : (k : ℕ) → (k < length ns) ⊎ (k ≡ length ns) → node_fits (length ss) k (node_in (ns ++ n ∷ []) k) ≡ true
    fits_all k (inl h) = subst (λ (m : Node). node_fits (length ss) k m ≡ true) (sym (old_node k h)) (b.fits k h)
    fits_all k (inr h) = subst (λ (m : Node). node_fits (length ss) k m ≡ true) (sym (new_node k h)) (subst (λ (i : ℕ). node_fits (length ss) i n ≡ true) (sym h) fits)

    exact_all : (k : ℕ) → (k < length ns) ⊎ (k ≡ length ns) → stored (reading (node_in (ns ++ n ∷ []) k)) ≡ node_in (ns ++ n ∷ []) k
    exact_all k (inl h) = subst (λ (m : Node). stored (reading m) ≡ m) (sym (old_node k h)) (b.exact k h)
    exact_all k (inr h) = subst (λ (m : Node). stored (reading m) ≡ m) (sym (new_node k h)) exact

    measures_all : (k : ℕ) → (k < length ns) ⊎ (k ≡ length ns) → AreMeasuresOf (nth (trees_of ss (ns ++ n ∷ [])) k) (measures_in (ms ++ x ∷ []) k)
    measures_all k (inl h) = subst (λ (t : Tree). AreMeasuresOf t (measures_in (ms ++ x ∷ []) k)) (sym (old_tree k h)) (subst (λ (y : Measures). AreMeasuresOf (nth (trees_of ss ns) k) y) (sym (old_measures k h)) (b.measures k h))
    measures_all k (inr h) = subst (λ (t : Tree). AreMeasuresOf t (measures_in (ms ++ x ∷ []) k)) (sym (new_tree k h)) (subst (λ (y : Measures). AreMeasuresOf (node_tree ss (trees_of ss ns) n) y) (sym (new_measures k h)) measures)

    at_len : (k : ℕ) (m : Node) → k ≤ length ns → node_fits (length ss) k m ≡ true → node_fits (length ss) (length (trees_of ss ns)) m ≡ true
    at_len k m h f = more_arguments (length ss) k (length (trees_of ss ns)) (reading m) (omega (arith, len)) f
      where
        all_below_more : (m n : ℕ) (args : List ℕ) → m ≤ n → list_all (λ i. nat_lt i m) args ≡ true → list_all (λ i. nat_lt i n) args ≡ true
        all_below_more m n [] le p = refl
        all_below_more m n (a ∷ args) le p =
            let q : a < m = below a m (and_left (nat_lt a m) _ p) in
            ap₂ (λ x y. x && y) (lt-ltb a n (omega arith)) (all_below_more m n args le (and_right (nat_lt a m) _ p))

        more_arguments : (s m n : ℕ) (y : Reading) → m ≤ n → reading_fits s m y ≡ true → reading_fits s n y ≡ true
        more_arguments s m n (variable v) le p = refl
        more_arguments s m n (application r args) le p = ap₂ (λ x y. x && y) (and_left (nat_lt r s) _ p) (all_below_more m n args le (and_right (nat_lt r s) _ p))

    differs : (i : ℕ) → i < length ns → ¬ (nth (trees_of ss ns) i ≡ node_tree ss (trees_of ss ns) n)
    differs i h same = absent i h (node_once ss (trees_of ss ns) b.symbols_once b.distinct (node_in ns i) n (b.exact i h) exact (at_len i _ (omega arith) (b.fits i h)) (at_len (length ns) _ (omega arith) fits)
        (sym (tree_at_node ss ns i h (b.fits i h)) ∙ same))

    once : (i j : ℕ) → (i < length ns) ⊎ (i ≡ length ns) → (j < length ns) ⊎ (j ≡ length ns) → nth (trees_of ss (ns ++ n ∷ [])) i ≡ nth (trees_of ss (ns ++ n ∷ [])) j → i ≡ j
    once i j (inl p) (inl q) same = b.distinct i j (omega (arith, len)) (omega (arith, len)) (sym (old_tree i p) ∙ same ∙ old_tree j q)
    once i j (inl p) (inr q) same = absurd (differs i p (sym (old_tree i p) ∙ same ∙ new_tree j q))
    once i j (inr p) (inl q) same = absurd (differs j q (sym (old_tree j q) ∙ sym same ∙ new_tree i p))
    once i j (inr p) (inr q) same = p ∙ sym q

pub bank_empty : IsBank [] [] []
unfolding trees_of
bank_empty = record {
  symbols_once = λ i j p q e. absurd (omega arith);
  fits = λ k h. absurd (omega arith);
  exact = λ k h. absurd (omega arith);
  beside = refl;
  measures = λ k h. absurd (omega arith);
  distinct = λ i j p q e. absurd (omega arith);
}
