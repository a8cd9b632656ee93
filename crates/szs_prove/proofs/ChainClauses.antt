-- The clauses of a chain, one by one.
use Rattle.std.proofs.Common.{◌≡◌, ℕ, ◌+◌, ◌-◌, ◌^◌, ◌<◌, ◌≤◌, zero, suc, true, false, List, [], ◌∷◌, ◌++◌, length, refl, sym, ap, ◌∙◌, subst, arith, inl, inr, ◌⊎◌, length-append, lit<}
use Rattle.std.specs.Prelude.{IsTrue, All, IfOk, Result, Ok, Err, decimal}
use Rattle.std.specs.List.{list_all}
use Rattle.std.proofs.lemmas.Fmt.{decimal_nonempty}
use Rattle.inst_logic.specs.Clauses.{TreeClause}
use Rattle.inst_logic.specs.Measure.{clause_applies, is_function_free}
use Rattle.inst_logic.specs.Printing.{is_readable_name, is_between}
use Rattle.inst_logic.proofs.Membership.{◌∈◌, in_left, in_either, in_last, in_push, in_all, none_passes}
use Rattle.cert_format.specs.Printable.{IsPrintableClause}
use Rattle.szs_prove.specs.Chains.{edge_clause, edge_clauses, first_clause, rule_clause, last_clause, chain_clauses}
use Rattle.inst_logic.proofs.Printed.{decimal_readable}

-- ---- edges

-- one more edge
pub edges_more : (i : ℕ) → 0 < i → edge_clauses (i + 1 - 1) ≡ edge_clauses (i - 1) ++ edge_clause i ∷ []
edges_more zero h = absurd (omega arith)
edges_more (suc k) h =
    let e : suc k + 1 - 1 ≡ suc k = omega arith in
    let f : suc k - 1 ≡ k = omega arith in
    ap edge_clauses e ∙ ap (λ m. edge_clauses m ++ edge_clause (suc k) ∷ []) (sym f)

pub length_edges : (k : ℕ) → length (edge_clauses k) ≡ k
length_edges zero = refl
length_edges (suc k) = length-append (edge_clauses k) (edge_clause (suc k) ∷ []) ∙ (let h = length_edges k in omega (arith, h))

below_or_last : (i k : ℕ) → i ≤ suc k → (i ≤ k) ⊎ (suc k ≡ i)
below_or_last zero k l = inl (omega arith)
below_or_last (suc i) zero l = inr (omega arith)
below_or_last (suc i) (suc k) l = elim (below_or_last i k (omega arith)) [ inl a ↦ inl (omega (arith, a)) | inr b ↦ inr (ap suc b) ]

pub edge_in : (k i : ℕ) → 0 < i → i ≤ k → edge_clause i ∈ edge_clauses k
edge_in zero i h l = absurd (omega arith)
edge_in (suc k) i h l = elim (below_or_last i k l) [
  | inl a ↦ in_left (edge_clause i) (edge_clauses k) (edge_clause (suc k) ∷ []) (edge_in k i h a)
  | inr b ↦ subst (λ j. edge_clause j ∈ (edge_clauses k ++ edge_clause (suc k) ∷ [])) b (in_last (edge_clause (suc k)) (edge_clauses k))
]

pub from_edges : (k : ℕ) (c : TreeClause) → c ∈ edge_clauses k → (i : ℕ) × (0 < i) × (i ≤ k) × (c ≡ edge_clause i)
from_edges zero c h = absurd h
from_edges (suc k) c h = elim (in_push c (edge_clause (suc k)) (edge_clauses k) h) [
  | inl a ↦ let (i, p, l, e) = from_edges k c a in (i, p, omega (arith, l), e)
  | inr e ↦ (suc k, omega arith, omega arith, e)
]

-- ---- the whole list

pub length_chain : (n : ℕ) → 0 < n → length (chain_clauses n) ≡ n + 2
length_chain n h = length-append (edge_clauses (n - 1)) (first_clause ∷ rule_clause ∷ last_clause n ∷ []) ∙ (let e = length_edges (n - 1) in omega (arith, e))

module _ (P : TreeClause → Type 0) where
  pub each_of_chain : (n : ℕ) → ((i : ℕ) → 0 < i → i < n → P (edge_clause i)) → P first_clause → P rule_clause → P (last_clause n)
      → (c : TreeClause) → c ∈ chain_clauses n → P c
  each_of_chain n edges first rule last c h = go (in_either c (edge_clauses (n - 1)) (first_clause ∷ rule_clause ∷ last_clause n ∷ []) h)
    where
      go : (c ∈ edge_clauses (n - 1)) ⊎ (c ∈ (first_clause ∷ rule_clause ∷ last_clause n ∷ [])) → P c
      go (inl a) = let (i, p, l, e) = from_edges (n - 1) c a in subst P (sym e) (edges i p (omega (arith, l, p)))
      go (inr (inl e)) = subst P (sym e) first
      go (inr (inr (inl e))) = subst P (sym e) rule
      go (inr (inr (inr (inl e)))) = subst P (sym e) last
      go (inr (inr (inr (inr b)))) = absurd b

-- ---- no function has arguments

pub chain_function_free : (n : ℕ) → IsTrue (is_function_free (chain_clauses n))
chain_function_free n = rw (none_passes clause_applies (chain_clauses n) (each_of_chain (λ c. clause_applies c ≡ false) n (λ i p l. refl) refl refl refl)) refl

-- ---- names

-- the decimal text of a number can be the name of a statement
pub number_is_name : (n : ℕ) → n < 2 ^ 64 → IsTrue (is_readable_name (decimal n))
number_is_name n h = go (decimal n) (decimal_nonempty n h) (decimal_readable n h)
  where
    go : (ds : List ℕ) → 0 < length ds → list_all (is_between 32 126) ds ≡ true → IsTrue (is_readable_name ds)
    go [] l r = absurd (omega arith)
    go (d ∷ ds) l r = r

pub named_by_number : {E : Type 0} (r : Result (List ℕ) E) (text : List ℕ) (n : ℕ) → n < 2 ^ 64 → text ≡ decimal n → IfOk r (λ name. name ≡ text)
    → IfOk r (λ name. IsTrue (is_readable_name name))
named_by_number (Ok name) text n h e k = subst (λ ds. IsTrue (is_readable_name ds)) (sym (k ∙ e)) (number_is_name n h)
named_by_number (Err e) text n h q k = tt

-- ---- printing

pub chain_printable : (n : ℕ) → n < 2 ^ 64 → All IsPrintableClause (chain_clauses n)
chain_printable n h = in_all IsPrintableClause (chain_clauses n) (each_of_chain IsPrintableClause n edges first rule last)
  where
    edges : (i : ℕ) → 0 < i → i < n → IsPrintableClause (edge_clause i)
    edges i p l = record { formed = refl; canonical = refl; readable = rw (decimal_readable i (omega arith), decimal_readable (i + 1) (omega arith)) refl }

    first : IsPrintableClause first_clause
    first = record { formed = refl; canonical = refl; readable = rw (decimal_readable 1 (lit< tt)) refl }

    rule : IsPrintableClause rule_clause
    rule = record { formed = refl; canonical = refl; readable = refl }

    last : IsPrintableClause (last_clause n)
    last = record { formed = refl; canonical = refl; readable = rw (decimal_readable n h) refl }
