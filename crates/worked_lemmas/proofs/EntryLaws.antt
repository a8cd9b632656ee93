-- The entries by their ids are those of the worked example, and may be unrolled.
use Rattle.std.proofs.Common.{◌≡◌, ℕ, zero, ◌<◌, List, [], ◌∷◌, true, false, refl, sym, subst, arith, length}
use Rattle.std.specs.Prelude.{Some, All, Contains}
use Rattle.inst_logic.specs.Clauses.{TreeClause, IsCanonical}
use Rattle.inst_logic.specs.declared.signed.Signed.{Signed}
use Rattle.inst_logic.specs.Derivations.{at_number}
use Rattle.inst_logic.specs.Substitution.{tree_vars, clause_vars}
use Rattle.inst_logic.specs.Tree.{var}
use Rattle.inst_logic.specs.Examples as trees
use Rattle.inst_calculus.specs.Unrolling as unrolling
use Rattle.inst_calculus.specs.Examples.{p_or_q, not_p, q_always, three_made}
use Rattle.inst_calculus.proofs.ShortLists.{Each, each_all, each_number}
use Rattle.term_bank.specs.Forest.{Forest, AreIds, IsAt, IsClauseOf, clause_at}
use Rattle.global_subs.specs.declared.made.Made.{Made}
use Rattle.global_subs.specs.Unrolls.{AreEntriesOf, HasAllTerms, entries_at, terms_of}
use Rattle.worked_lemmas.specs.Entries.{literal, implied_by_two}

-- what is asked of an entry with this number
abbrev MayBeUnrolled : List unrolling.Made → ℕ → unrolling.Made → Type 0
MayBeUnrolled made n m = unrolling.CitesBelow n m.how × unrolling.HasOwnVariables m.clause m.how × HasAllTerms made m.how

-- canonical, with its ids in the bank
abbrev Stands : Forest → Made → Type 0
Stands f m = IsClauseOf f m.clause × AreIds f (terms_of m.how) × IsCanonical (clause_at f m.clause)

no_terms : (c : TreeClause) → All (λ u. All (Contains (clause_vars c)) (tree_vars u)) []
no_terms c = each_all (λ u. All (Contains (clause_vars c)) (tree_vars u)) [] tt

each_may : (n : ℕ) (m : unrolling.Made) → at_number three_made n ≡ Some m → MayBeUnrolled three_made n m
each_may = each_number (MayBeUnrolled three_made) three_made ((tt, no_terms p_or_q, tt), ((tt, no_terms not_p, tt), ((cited, own, tt), tt)))
  where
    cited : All (λ k. (0 < k) × (k < 3)) (1 ∷ 2 ∷ [])
    cited = each_all (λ k. (0 < k) × (k < 3)) (1 ∷ 2 ∷ []) ((omega arith, omega arith), ((omega arith, omega arith), tt))

    own : unrolling.HasOwnVariables q_always (unrolling.implied_by (1 ∷ 2 ∷ []) (var 0 ∷ []))
    own = each_all (λ u. All (Contains (clause_vars q_always)) (tree_vars u)) (var 0 ∷ []) (each_all (Contains (clause_vars q_always)) (0 ∷ []) ((zero, omega arith, refl), tt), tt)

module _ (f : Forest) (x p q : ℕ) (x_at : IsAt f x (var 0)) (p_at : IsAt f p (trees.p (var 0))) (q_at : IsAt f q (trees.q (var 0))) where
  same : entries_at f (implied_by_two x p q) ≡ three_made
  same = rw p_at.1 (rw q_at.1 (rw x_at.1 refl))

  atoms : (c : List (Signed ℕ)) → Each (λ l. l.atom < length f.trees) c → IsClauseOf f c
  atoms = each_all (λ l. l.atom < length f.trees)

  terms : (is : List ℕ) → Each (λ i. i < length f.trees) is → AreIds f is
  terms = each_all (λ i. i < length f.trees)

  each_stands : All (Stands f) (implied_by_two x p q)
  each_stands = each_all (Stands f) (implied_by_two x p q) (
    (atoms (literal true p ∷ literal true q ∷ []) (p_at.0, (q_at.0, tt)), terms [] tt, rw p_at.1 (rw q_at.1 refl)),
    (
      (atoms (literal false p ∷ []) (p_at.0, tt), terms [] tt, rw p_at.1 refl),
      ((atoms (literal true q ∷ []) (q_at.0, tt), terms (x ∷ []) (x_at.0, tt), rw q_at.1 refl), tt),
    ),
  )

  pub may_be_unrolled : AreEntriesOf f (implied_by_two x p q)
  may_be_unrolled =
      let each = subst (λ es. (n : ℕ) (m : unrolling.Made) → at_number es n ≡ Some m → MayBeUnrolled es n m) (sym same) each_may in
      record {
        clauses = λ i d low. (each_stands i d low).0;
        ids = λ i d low. (each_stands i d low).1;
        canonical = λ i d low. (each_stands i d low).2;
        cites = λ n m e. (each n m e).0;
        own = λ n m e. (each n m e).1;
        all_terms = λ n m e. (each n m e).2;
      }
