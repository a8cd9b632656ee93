-- Labels that are those of one term, or of so many.
use Rattle.std.proofs.Common.{◌≡◌, ◌+◌, ℕ, zero, suc, List, [], ◌∷◌, ◌++◌, Some, refl, sym, ap, ap₂, subst, arith}
use Rattle.inst_logic.specs.Tree.{Tree, var, app, Trees, none, more}
use Rattle.inst_logic.specs.WellFormed.{count_of}
use Rattle.term_bank.specs.Forest.{Forest}
use Rattle.term_index.specs.declared.view.View.{View}
use Rattle.term_index.specs.declared.label.Label.{Label}
use Rattle.term_index.specs.declared.node.Edge.{Edge}
use Rattle.term_index.specs.Labels.{arity_of, labels, all_labels}
use Rattle.term_index.specs.Paths.{Passes, Leads, Spans}
use Rattle.term_index.specs.Run.{Graph, run, nothing_left}

pub passes_append : (ls ms : List Label) (k m n : ℕ) → Passes k ls m → Passes m ms n → Passes k (ls ++ ms) n
passes_append [] ms k m n p q = subst (λ x. Passes x ms n) (sym p) q
passes_append (l ∷ ls) ms zero m n p q = absurd p
passes_append (l ∷ ls) ms (suc k) m n p q = passes_append ls ms (k + arity_of l) m n p q

pub passes_split : (ls ms : List Label) (k n : ℕ) → Passes k (ls ++ ms) n → (m : ℕ) × Passes k ls m × Passes m ms n
passes_split [] ms k n p = (k, refl, p)
passes_split (l ∷ ls) ms zero n p = absurd p
passes_split (l ∷ ls) ms (suc k) n p = passes_split ls ms (k + arity_of l) n p

-- one more label
pub passes_on : (ls : List Label) (l : Label) (k m n : ℕ) → Passes k ls m → m ≡ suc n → Passes k (ls ++ l ∷ []) (n + arity_of l)
passes_on ls l k m n p e = passes_append ls (l ∷ []) k m (n + arity_of l) p (subst (λ x. Passes x (l ∷ []) (n + arity_of l)) (sym e) refl)

-- the first terms of more
pub first_terms : (ls : List Label) (t j k : ℕ) → t ≡ j + k → Passes t ls 0 → (ks : List Label) × (ms : List Label) × (ls ≡ ks ++ ms) × Passes j ks 0 × Passes k ms 0
first_terms [] t j k e p = let z : t ≡ 0 = p in let a : j ≡ 0 = omega arith in let b : k ≡ 0 = omega arith in ([], [], refl, a, b)
first_terms (l ∷ ls) zero j k e p = absurd p
first_terms (l ∷ ls) (suc t) zero k e p = let h : suc t ≡ k = omega arith in ([], l ∷ ls, refl, refl, subst (λ x. Passes x (l ∷ ls) 0) h p)
first_terms (l ∷ ls) (suc t) (suc j) k e p =
    let r = first_terms ls (t + arity_of l) (j + arity_of l) k (omega arith) p in
    (l ∷ r.0, r.1, ap (λ xs. l ∷ xs) r.2, r.3, r.4)

-- no terms are the front of others
pub prefix_free : (xs ys bs cs : List Label) (k : ℕ) → xs ++ bs ≡ ys ++ cs → Passes k xs 0 → Passes k ys 0 → xs ≡ ys
prefix_free [] [] bs cs k e p q = refl
prefix_free [] (y ∷ ys) bs cs k e p q = absurd (subst (λ x. Passes x (y ∷ ys) 0) p q)
prefix_free (x ∷ xs) [] bs cs k e p q = absurd (subst (λ z. Passes z (x ∷ xs) 0) q p)
prefix_free (x ∷ xs) (y ∷ ys) bs cs zero e p q = absurd p
prefix_free (x ∷ xs) (y ∷ ys) bs cs (suc k) e p q =
    let h : x ≡ y = cc in
    let t : xs ++ bs ≡ ys ++ cs = cc in
    ap₂ (λ z zs. z ∷ zs) h (prefix_free xs ys bs cs (k + arity_of x) t p (subst (λ z. Passes (k + arity_of z) ys 0) (sym h) q))

-- the labels of a tree are those of one term
mutual
  pub passes_labels : (f : Forest) (t : Tree) (k : ℕ) → Passes (suc k) (labels f t) k
  passes_labels f (var x) k = let e : k + 0 ≡ k = omega arith in e
  passes_labels f (app s ts) k = passes_all f ts k

  passes_all : (f : Forest) (ts : Trees) (k : ℕ) → Passes (k + count_of ts) (all_labels f ts) k
  passes_all f none k = let e : k + 0 ≡ k = omega arith in e
  passes_all f (more t ts) k =
      let e : suc (k + count_of ts) ≡ k + (count_of ts + 1) = omega arith in
      passes_append (labels f t) (all_labels f ts) (k + (count_of ts + 1)) (k + count_of ts) k (subst (λ x. Passes x (labels f t) (k + count_of ts)) e (passes_labels f t (k + count_of ts))) (passes_all f ts k)

pub spans_labels : (f : Forest) (es : List Edge) (t : Tree) (n : ℕ) → Leads es 0 (labels f t) n → Spans es 0 n
spans_labels f es t n h = (labels f t, h, passes_labels f t 0)

module _ (v : View) (g : Graph) where
  -- terms are passed over
  pub passes_run : (ls : List Label) (j : ℕ) (rest : List ℕ) → Passes j ls 0 → run v g ls (Some (j, rest)) ≡ Some (0, rest)
  passes_run [] j rest p = ap (λ n. Some (n, rest)) p
  passes_run (l ∷ ls) zero rest p = absurd p
  passes_run (l ∷ ls) (suc j) rest p = passes_run ls (j + arity_of l) rest p

  -- and where all is met, they were
  pub run_passes : (ls : List Label) (j : ℕ) (rest : List ℕ) → run v g ls (Some (j, rest)) ≡ Some nothing_left
      → (ks : List Label) × (ms : List Label) × (ls ≡ ks ++ ms) × Passes j ks 0 × (run v g ms (Some (0, rest)) ≡ Some nothing_left)
  run_passes ls zero rest h = ([], ls, refl, refl, h)
  run_passes [] (suc j) rest h = let e : (suc j, rest) ≡ nothing_left = cc in let z : suc j ≡ 0 = ap (λ (t : ℕ × List ℕ). t.0) e in absurd (omega arith)
  run_passes (l ∷ ls) (suc j) rest h =
      let r = run_passes ls (j + arity_of l) rest h in
      (l ∷ r.0, r.1, ap (λ xs. l ∷ xs) r.2, r.3, r.4)
