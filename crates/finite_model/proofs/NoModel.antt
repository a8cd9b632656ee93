-- By a model every ground instance of the flattened form is true, so none of their lists is refuted.
use Rattle.std.proofs.Common.{◌≡◌, ℕ, ◌+◌, ◌-◌, ◌^◌, ◌<◌, ◌⊎◌, inl, inr, List, [], ◌∷◌, ◌++◌, refl, sym, ap, ◌∙◌, subst as transport, map, length, Bool, true, false, not, nat_eq, arith, All, Any, Contains}
use Rattle.std.specs.List.{flat_map, range_with_len}
use Rattle.std.proofs.lemmas.Bool.Decides.{Decides-eqb}
use Rattle.std.proofs.lemmas.Bool.{false≢true}
use mathlib.Core.Bool.{Bool-discrete}
use Rattle.std.proofs.lemmas.List.FromFn.{length-range_with_len}
use Rattle.inst_logic.specs.declared.symbol.Sym.{Sym}
use Rattle.inst_logic.specs.declared.symbol.Kind.{Kind}
use Rattle.inst_logic.specs.declared.symbol.Kind.TheVariants.{Predicate, Equality, Function}
use Rattle.inst_logic.specs.declared.signed.Signed.{Signed}
use Rattle.inst_logic.specs.Signed.{signed}
use Rattle.inst_logic.specs.Tree.{Tree, var, app, Trees, none, more, of_list, to_list}
use Rattle.inst_logic.specs.Substitution.{Substitution, subst, subst_literal, followed_by}
use Rattle.inst_logic.specs.Clauses.{TreeClause, IsGround, IsInstance, instance, canonical_form, numbered, order_of}
use Rattle.inst_logic.specs.Truth.{IsTrueLiteral, IsTrueClause, IsRefuted}
use Rattle.inst_logic.specs.WellFormed.{AreFormedClauses, is_function_kind}
use Rattle.inst_logic.proofs.Membership.{◌∈◌, contains_in, in_all, all_in, any_in, in_any, in_left, in_right, in_either, in_map, from_map, some_or_none}
use Rattle.inst_calculus.specs.Axioms.{is_predicate_kind}
use Rattle.inst_calculus.proofs.Distinct.{map_append, length_map}
use Rattle.inst_calculus.proofs.Clauses.{literal_followed, in_instance}
use Rattle.inst_calculus.proofs.CanonicalForms.{within_canonical}
use Rattle.inst_calculus.proofs.Instances.{HasAtomsOver}
use Rattle.inst_calculus.proofs.Terms.{IsTermOver, IsAtomOver}
use Rattle.inst_calculus.proofs.NotRefuted.{true_by_test, signed_to}
use Rattle.finite_model.specs.declared.tables.Tables.{Tables}
use Rattle.finite_model.specs.Tables.{IsElement, cell_at, Assignment, value, values, AreSame, HoldsAt, IsTrueAtom, IsTrueIn, IsModel, functions_of, predicates_of}
use Rattle.finite_model.specs.Flattening.{numbers_of, identity, element, applied, identity_clause, identity_clauses, value_literal, total_clause, unique_clause, function_clauses, function_predicate, predicate_for, clause_parts, stands_for, value_denial, flat_atom, flat_literal, flat_clause, plain_clauses, flattened}
use Rattle.finite_model.specs.Reading.{AreArguments}
use Rattle.inst_calculus.proofs.MadeLists.{in_flat_map, from_flat_map, in_range, from_range}
use Rattle.finite_model.proofs.Parts.{IsOwnFunction, IsOwnPredicate, own_atoms, part_of_clause, argument_of_clause_part, argument_of_literal}
use Rattle.finite_model.proofs.Cells.{tables_have_elements}
use Rattle.inst_logic.proofs.Numbering.{substs_of_list}
use Rattle.finite_model.proofs.Interpreted.{element_of, element_of_is_element, element_of_element, same_test, atom_test, test_of_identity, test_of_predicate, test_of_function}

signed_test : (b test : Bool) → test ≡ b → signed b (test ≡ true)
signed_test true test e = e
signed_test false test e = λ q. false≢true (sym e ∙ q)

same_test_to : (es : List ℕ) → same_test es ≡ true → AreSame es
same_test_to [] e = absurd (cc)
same_test_to (d ∷ []) e = absurd (cc)
same_test_to (d ∷ b ∷ []) e = (Decides-eqb d b).0 e
same_test_to (d ∷ b ∷ _ ∷ _) e = absurd (cc)

same_test_from : (es : List ℕ) → AreSame es → same_test es ≡ true
same_test_from [] h = absurd h
same_test_from (d ∷ []) h = absurd h
same_test_from (d ∷ b ∷ []) h = (Decides-eqb d b).1 h
same_test_from (d ∷ b ∷ _ ∷ _) h = absurd h

not_false_is : (b : Bool) → ¬ (b ≡ false) → b ≡ true
not_false_is true n = refl
not_false_is false n = absurd (n refl)

module _ (k : ℕ) (cs : List TreeClause) (ts : Tables) (positive : 0 < k) (small : k < 2 ^ 64) (few_functions : length (functions_of cs) < 2 ^ 64) (few_predicates : length (predicates_of cs) < 2 ^ 64)
    (formed : AreFormedClauses cs) (model : IsModel k cs ts) where
  abbrev IsTested : Signed Tree → Type 0
  IsTested l = IsTrueLiteral (λ a. atom_test k cs ts a ≡ true) l

  -- some literal of the clause is true by the test
  abbrev IsTestedUnder : Substitution → TreeClause → Type 0
  IsTestedUnder s c = (l : Signed Tree) × (l ∈ c) × IsTested (subst_literal s l)

  abbrev elements_under : Substitution → List Tree → List ℕ
  elements_under s us = map (element_of k) (map (subst s) us)

  identity_tested : (s : Substitution) (i j : ℕ) → IsElement k i → IsElement k j → IsTestedUnder s (identity_clause i j)
  identity_tested s i j g h = (
    record { positive = nat_eq i j; atom = applied identity (element i ∷ element j ∷ []) },
    inl refl,
    signed_test (nat_eq i j) (atom_test k cs ts (applied identity (element i ∷ element j ∷ []))) (λ n. nat_eq (element_of_element k i g small n) (element_of_element k j h small n)),
  )

  module _ (s : Substitution) (f : Sym) (i : f ∈ functions_of cs) where
    value_test : (us : List Tree) (u : Tree)
        → atom_test k cs ts (subst s (applied (function_predicate (numbers_of cs) f) (us ++ u ∷ []))) ≡ nat_eq (cell_at k ts.functions f (elements_under s us)) (element_of k (subst s u))
    value_test us u =
        ap (λ xs. atom_test k cs ts (app (function_predicate (numbers_of cs) f) xs)) (substs_of_list s (us ++ u ∷ []) ∙ ap of_list (map_append (subst s) us (u ∷ [])))
        ∙ test_of_function k cs ts f i few_functions (map (subst s) us) (subst s u)

    -- the arguments that the variables stand for
    abbrev arguments : List ℕ
    arguments = elements_under s (map var (range_with_len 0 f.arity))

    are_arguments : AreArguments k f arguments
    are_arguments = record {
      elements = in_all (IsElement k) arguments (λ e j.
          let (t, m, q) = from_map (element_of k) e (map (subst s) (map var (range_with_len 0 f.arity))) j in transport (IsElement k) q (element_of_is_element k t positive));
      count = length_map (element_of k) (map (subst s) (map var (range_with_len 0 f.arity))) ∙ length_map (subst s) (map var (range_with_len 0 f.arity)) ∙ length_map var (range_with_len 0 f.arity) ∙ length-range_with_len 0 f.arity;
    }

    element_test : (e : ℕ) → IsElement k e → atom_test k cs ts (subst s (value_literal (function_predicate (numbers_of cs) f) f.arity true e).atom) ≡ nat_eq (cell_at k ts.functions f arguments) e
    element_test e h = value_test (map var (range_with_len 0 f.arity)) (element e) ∙ ap (nat_eq (cell_at k ts.functions f arguments)) (element_of_element k e h small)

    total_tested : IsTestedUnder s (total_clause k (function_predicate (numbers_of cs) f) f.arity)
    total_tested =
        let e : ℕ = cell_at k ts.functions f arguments in
        let h : IsElement k e = tables_have_elements k cs ts model.tables f i arguments are_arguments in
        (value_literal (function_predicate (numbers_of cs) f) f.arity true e, in_map (value_literal (function_predicate (numbers_of cs) f) f.arity true) e (range_with_len 1 k) (in_range 1 k e h.above (omega (arith, h.within))), element_test e h ∙ (Decides-eqb e e).1 refl)

    unique_tested : (d e : ℕ) → IsElement k d → IsElement k e → d < e → IsTestedUnder s (unique_clause (function_predicate (numbers_of cs) f) f.arity d e)
    unique_tested d e g h less = go (nat_eq (cell_at k ts.functions f arguments) d) refl
      where
        go : (b : Bool) → nat_eq (cell_at k ts.functions f arguments) d ≡ b → IsTestedUnder s (unique_clause (function_predicate (numbers_of cs) f) f.arity d e)
        go false q = (value_literal (function_predicate (numbers_of cs) f) f.arity false d, inl refl, λ t. false≢true (sym q ∙ sym (element_test d g) ∙ t))
        go true q = (
          value_literal (function_predicate (numbers_of cs) f) f.arity false e,
          inr (inl refl),
          λ t.
              let one : cell_at k ts.functions f arguments ≡ d = (Decides-eqb (cell_at k ts.functions f arguments) d).0 q in
              let other : cell_at k ts.functions f arguments ≡ e = (Decides-eqb (cell_at k ts.functions f arguments) e).0 (sym (element_test e h) ∙ t) in
              omega arith,
        )

    function_tested : (c : TreeClause) → c ∈ function_clauses k (numbers_of cs) f → IsTestedUnder s c
    function_tested c (inl e) = transport (IsTestedUnder s) (sym e) total_tested
    function_tested c (inr j) =
        let (d, m, n) = from_flat_map (λ d. map (unique_clause (function_predicate (numbers_of cs) f) f.arity d) (range_with_len (d + 1) (k - d))) c (range_with_len 1 k) j in
        let (e, o, q) = from_map (unique_clause (function_predicate (numbers_of cs) f) f.arity d) c (range_with_len (d + 1) (k - d)) n in
        let (low, high) = from_range 1 k d m in
        let (above, below) = from_range (d + 1) (k - d) e o in
        transport (IsTestedUnder s) q (unique_tested d e (record { above = low; within = omega arith }) (record { above = omega arith; within = omega arith }) (omega arith))

  -- The flat form of a clause

  module _ (s : Substitution) (c : TreeClause) (own : HasAtomsOver (IsOwnPredicate cs) (IsOwnFunction cs) c) where
    -- the element that stands for a part
    abbrev stood : Tree → ℕ
    stood t = element_of k (subst s (stands_for (clause_parts c) t))

    abbrev assigned : Assignment
    assigned v = stood (var v)

    terms : (t : Tree) → t ∈ clause_parts c → IsTermOver (IsOwnFunction cs) t
    terms = part_of_clause (IsOwnFunction cs) (IsOwnPredicate cs) c own

    module _ (valid : (l : Signed Tree) → l ∈ flat_map (value_denial (numbers_of cs) (clause_parts c)) (clause_parts c) → atom_test k cs ts (subst s l.atom) ≡ true) where
      mutual
        value_stood : (t : Tree) → t ∈ clause_parts c → value k ts.functions assigned t ≡ stood t
        value_stood (var v) i = refl
        value_stood (app f us) i =
            ap (cell_at k ts.functions f) (values_stood us (argument_of_clause_part c f us i))
            ∙ (Decides-eqb (cell_at k ts.functions f (elements_under s (map (stands_for (clause_parts c)) (to_list us)))) (stood (app f us))).0
            (sym (value_test s f (terms (app f us) i).0 (map (stands_for (clause_parts c)) (to_list us)) (stands_for (clause_parts c) (app f us)))
            ∙ valid
            (record { positive = false; atom = applied (function_predicate (numbers_of cs) f) (map (stands_for (clause_parts c)) (to_list us) ++ stands_for (clause_parts c) (app f us) ∷ []) })
            (in_flat_map (value_denial (numbers_of cs) (clause_parts c)) (app f us) _ (clause_parts c) i (inl refl)))

        values_stood : (us : Trees) → ((u : Tree) → u ∈ to_list us → u ∈ clause_parts c) → values k ts.functions assigned us ≡ elements_under s (map (stands_for (clause_parts c)) (to_list us))
        values_stood none h = refl
        values_stood (more u us) h = λ j. value_stood u (h u (inl refl)) j ∷ values_stood us (λ t m. h t (inr m)) j

      by_kind : (p : Sym) (us : List Tree) (kind : Kind) → p.kind ≡ kind → IsOwnPredicate cs p
          → (atom_test k cs ts (applied (predicate_for (numbers_of cs) kind p) us) ≡ true → HoldsAt k ts.predicates kind p (map (element_of k) us))
          × (HoldsAt k ts.predicates kind p (map (element_of k) us) → atom_test k cs ts (applied (predicate_for (numbers_of cs) kind p) us) ≡ true)
      by_kind p us Predicate e q =
          let same = test_of_predicate k cs ts p (q.1 (ap is_predicate_kind e)) few_predicates us in
          (λ t. (Decides-eqb (cell_at k ts.predicates p (map (element_of k) us)) 1).0 (sym same ∙ t), λ h. same ∙ (Decides-eqb (cell_at k ts.predicates p (map (element_of k) us)) 1).1 h)
      by_kind p us Equality e q =
          let same = test_of_identity k cs ts us in
          (λ t. same_test_to (map (element_of k) us) (sym same ∙ t), λ h. same ∙ same_test_from (map (element_of k) us) h)
      by_kind p us Function e q = absurd (false≢true (ap (λ (j : Kind). not (is_function_kind j)) (sym e) ∙ q.0.0))

      atom_tested : (t : Tree) → IsAtomOver (IsOwnPredicate cs) (IsOwnFunction cs) t → ((p : Sym) (us : Trees) → t ≡ app p us → (u : Tree) → u ∈ to_list us → u ∈ clause_parts c)
          → (IsTrueAtom k ts assigned t → atom_test k cs ts (subst s (flat_atom (numbers_of cs) (clause_parts c) t)) ≡ true) × (atom_test k cs ts (subst s (flat_atom (numbers_of cs) (clause_parts c) t)) ≡ true → IsTrueAtom k ts assigned t)
      atom_tested (var v) h inside = absurd h
      atom_tested (app p us) h inside =
          let names : List Tree = map (stands_for (clause_parts c)) (to_list us) in
          let (to, from) = by_kind p (map (subst s) names) p.kind refl h.0 in
          let put : atom_test k cs ts (subst s (applied (predicate_for (numbers_of cs) p.kind p) names)) ≡ atom_test k cs ts (applied (predicate_for (numbers_of cs) p.kind p) (map (subst s) names)) =
          ap (λ xs. atom_test k cs ts (app (predicate_for (numbers_of cs) p.kind p) xs)) (substs_of_list s names) in
          let same : values k ts.functions assigned us ≡ map (element_of k) (map (subst s) names) = values_stood us (inside p us refl) in
          (λ t. put ∙ from (transport (HoldsAt k ts.predicates p.kind p) same t), λ t. transport (HoldsAt k ts.predicates p.kind p) (sym same) (to (sym put ∙ t)))

      own_tested : c ∈ cs → IsTestedUnder s (flat_clause (numbers_of cs) c)
      own_tested i =
          let true_clause = all_in (IsTrueIn k ts) cs model.clauses c i assigned (λ v. element_of_is_element k (subst s (stands_for (clause_parts c) (var v))) positive) in
          let (d, m, t) = any_in (IsTrueLiteral (IsTrueAtom k ts assigned)) c true_clause in
          let (to, from) = atom_tested d.atom (own d m) (argument_of_literal c d m) in (
            flat_literal (numbers_of cs) (clause_parts c) d,
            in_right (flat_literal (numbers_of cs) (clause_parts c) d) (flat_map (value_denial (numbers_of cs) (clause_parts c)) (clause_parts c)) (map (flat_literal (numbers_of cs) (clause_parts c)) c) (in_map (flat_literal (numbers_of cs) (clause_parts c)) d c m),
            signed_to (IsTrueAtom k ts assigned d.atom) (atom_test k cs ts (subst s (flat_atom (numbers_of cs) (clause_parts c) d.atom)) ≡ true) d.positive to from t,
          )

    -- a denial is true by the test where the test of its atom is false
    denies : (t : Tree) (l : Signed Tree) → l ∈ value_denial (numbers_of cs) (clause_parts c) t → atom_test k cs ts (subst s l.atom) ≡ false → IsTested (subst_literal s l)
    denies (var v) l i e = absurd i
    denies (app f us) l (inr i) e = absurd i
    denies (app f us) l (inl q) e = transport (λ (m : Signed Tree). IsTested (subst_literal s m)) (sym q) (λ t. false≢true (sym (ap (λ (m : Signed Tree). atom_test k cs ts (subst s m.atom)) (sym q) ∙ e) ∙ t))

    abbrev denials : TreeClause
    denials = flat_map (value_denial (numbers_of cs) (clause_parts c)) (clause_parts c)

    flat_tested : c ∈ cs → IsTestedUnder s (flat_clause (numbers_of cs) c)
    flat_tested i = go (some_or_none (λ (l : Signed Tree). atom_test k cs ts (subst s l.atom) ≡ false) (λ l. Bool-discrete (atom_test k cs ts (subst s l.atom)) false) denials)
      where
        go : ((l : Signed Tree) × (l ∈ denials) × (atom_test k cs ts (subst s l.atom) ≡ false)) ⊎ ((l : Signed Tree) → l ∈ denials → ¬ (atom_test k cs ts (subst s l.atom) ≡ false)) → IsTestedUnder s (flat_clause (numbers_of cs) c)
        go (inl (l, j, e)) = let (t, m, n) = from_flat_map (value_denial (numbers_of cs) (clause_parts c)) l (clause_parts c) j in
            (l, in_left l (flat_map (value_denial (numbers_of cs) (clause_parts c)) (clause_parts c)) (map (flat_literal (numbers_of cs) (clause_parts c)) c) j, denies t l n e)
        go (inr none_of) = own_tested (λ l j. not_false_is (atom_test k cs ts (subst s l.atom)) (none_of l j)) i

  -- Every clause of the flattened form

  plain_tested : (s : Substitution) (c : TreeClause) → c ∈ plain_clauses k cs → IsTestedUnder s c
  plain_tested s c i =
      elim (in_either c (identity_clauses k ++ flat_map (function_clauses k (numbers_of cs)) (functions_of cs)) (map (flat_clause (numbers_of cs)) cs) i) [
        | inl j ↦ elim (in_either c (identity_clauses k) (flat_map (function_clauses k (numbers_of cs)) (functions_of cs)) j) [
          | inl m ↦
              let (d, n, o) = from_flat_map (λ (d : ℕ). map (identity_clause d) (range_with_len 1 k)) c (range_with_len 1 k) m in
              let (e, q, r) = from_map (identity_clause d) c (range_with_len 1 k) o in
              transport (IsTestedUnder s) r (identity_tested s d e (in_elements d n) (in_elements e q))
          | inr m ↦ let (f, n, o) = from_flat_map (function_clauses k (numbers_of cs)) c (functions_of cs) m in function_tested s f n c o
        ]
        | inr j ↦
            let (d, m, e) = from_map (flat_clause (numbers_of cs)) c cs j in
            transport (IsTestedUnder s) e (flat_tested s d (own_atoms cs formed d m) m)
      ]
    where
      in_elements : (e : ℕ) → e ∈ range_with_len 1 k → IsElement k e
      in_elements e n = let (low, high) = from_range 1 k e n in record { above = low; within = omega arith }

  instance_tested : (g : TreeClause) → Any (IsInstance g) (flattened k cs) → IsTrueClause (λ a. atom_test k cs ts a ≡ true) g
  instance_tested g some =
      let (d, i, (s, there, back)) = any_in (IsInstance g) (flattened k cs) some in
      let (c, j, e) = from_map canonical_form d (plain_clauses k cs) i in
      let (l, m, t) = plain_tested (followed_by (numbered (order_of c)) s) c j in
      let inside : subst_literal s (subst_literal (numbered (order_of c)) l) ∈ instance s d =
      in_instance s (subst_literal (numbered (order_of c)) l) d (transport (λ x. subst_literal (numbered (order_of c)) l ∈ x) e (within_canonical c l m)) in
      in_any IsTested (subst_literal s (subst_literal (numbered (order_of c)) l)) g
      (contains_in (subst_literal s (subst_literal (numbered (order_of c)) l)) g (all_in (Contains g) (instance s d) back (subst_literal s (subst_literal (numbered (order_of c)) l)) inside))
      (transport IsTested (sym (literal_followed (numbered (order_of c)) s l)) t)

  pub not_refuted : (gs : List TreeClause) → All (λ g. IsGround g × Any (IsInstance g) (flattened k cs)) gs → ¬ IsRefuted gs
  not_refuted gs instances = true_by_test (atom_test k cs ts) gs (in_all (IsTrueClause (λ a. atom_test k cs ts a ≡ true)) gs
      (λ g i. instance_tested g (all_in (λ g. IsGround g × Any (IsInstance g) (flattened k cs)) gs instances g i).1))
