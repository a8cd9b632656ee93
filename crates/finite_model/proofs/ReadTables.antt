-- Tables that are read off by the truth test of clauses which make the flattened form true are a model.
use Rattle.std.proofs.Common.{◌≡◌, ℕ, ◌+◌, ◌-◌, ◌<◌, ◌⊎◌, inl, inr, List, [], ◌∷◌, ◌++◌, suc, refl, sym, ap, ap₂, ◌∙◌, subst as transport, map, length, get_or, Bool, true, false, not, ◌&&◌, nat_eq, arith, All}
use Rattle.std.specs.List.{flat_map, range_with_len}
use Rattle.std.specs.Str.{bytes_eq}
use Rattle.std.proofs.lemmas.Bool.Decides.{Decides-eqb}
use Rattle.std.proofs.lemmas.Bool.{false≢true}
use native.Mathlib.Decide.{dec_lt}
use Rattle.inst_logic.specs.declared.symbol.Sym.{Sym}
use Rattle.inst_logic.specs.declared.symbol.Kind.{Kind}
use Rattle.inst_logic.specs.declared.symbol.Kind.TheVariants.{Predicate, Equality, Function}
use Rattle.inst_logic.specs.declared.signed.Signed.{Signed}
use Rattle.inst_logic.specs.Signed.{signed}
use Rattle.inst_logic.specs.Tree.{Tree, var, app, Trees, none, more, of_list, to_list}
use Rattle.inst_logic.specs.Equal.{tree_eq}
use Rattle.inst_logic.specs.Substitution.{Substitution, subst, subst_literal}
use Rattle.inst_logic.specs.Clauses.{TreeClause, canonical_form}
use Rattle.inst_logic.specs.Truth.{IsTrueLiteral, IsTrueClause}
use Rattle.inst_logic.specs.WellFormed.{AreFormedClauses, fits_kind, is_function_kind}
use Rattle.inst_logic.proofs.SameLemmas.{tree_eq_decides, and_right}
use Rattle.inst_logic.proofs.Membership.{◌∈◌, in_contains, in_all, all_in, in_any, in_left, in_right, in_either, in_map, from_map}
use Rattle.inst_calculus.specs.Axioms.{is_predicate_kind}
use Rattle.inst_calculus.specs.Models.{SelectedClause, IsTrueBy, Makes}
use Rattle.inst_calculus.proofs.Distinct.{map_append}
use Rattle.inst_calculus.proofs.Instances.{HasAtomsOver}
use Rattle.inst_calculus.proofs.NotRefuted.{signed_to}
use Rattle.inst_calculus.proofs.Terms.{IsTermOver, IsAtomOver}
use Rattle.finite_model.specs.declared.tables.Tables.{Tables}
use Rattle.finite_model.specs.Tables.{IsElement, cell_at, Assignment, value, values, AreSame, HoldsAt, IsTrueAtom, IsTrueIn, functions_of, predicates_of}
use Rattle.finite_model.specs.Flattening.{numbers_of, identity, element, applied, identity_clause, identity_clauses, total_clause, unique_clause, unique_clauses, function_clauses, function_predicate, value_literal, predicate_for, clause_parts, stands_for, value_denial, flat_atom, flat_literal, flat_clause, plain_clauses, flattened}
use Rattle.finite_model.specs.Reading.{AreArguments, value_atom, predicate_atom, AreRead}
use Rattle.inst_calculus.proofs.MadeLists.{in_flat_map, from_flat_map, in_range, from_range, item_at_position}
use Rattle.finite_model.proofs.Parts.{IsOwnFunction, IsOwnPredicate, own_atoms, part_of_clause, argument_of_clause_part, argument_of_literal}
use Rattle.finite_model.proofs.Cells.{values_are_arguments}
use Rattle.inst_logic.proofs.Numbering.{substs_of_list}
use Rattle.finite_model.proofs.Grounding.{true_literal}

module _ (k : ℕ) (cs : List TreeClause) (ms : List SelectedClause) (makes : (c : TreeClause) → c ∈ plain_clauses k cs → Makes ms (canonical_form c)) where
  identity_is_plain : (c : TreeClause) → c ∈ identity_clauses k → c ∈ plain_clauses k cs
  identity_is_plain c i = in_left c (identity_clauses k ++ flat_map (function_clauses k (numbers_of cs)) (functions_of cs)) (map (flat_clause (numbers_of cs)) cs)
      (in_left c (identity_clauses k) (flat_map (function_clauses k (numbers_of cs)) (functions_of cs)) i)

  pub function_is_plain : (f : Sym) → f ∈ functions_of cs → (c : TreeClause) → c ∈ function_clauses k (numbers_of cs) f → c ∈ plain_clauses k cs
  function_is_plain f i c j = in_left c (identity_clauses k ++ flat_map (function_clauses k (numbers_of cs)) (functions_of cs)) (map (flat_clause (numbers_of cs)) cs)
      (in_right c (identity_clauses k) (flat_map (function_clauses k (numbers_of cs)) (functions_of cs)) (in_flat_map (function_clauses k (numbers_of cs)) f c (functions_of cs) i j))

  flat_is_plain : (c : TreeClause) → c ∈ cs → flat_clause (numbers_of cs) c ∈ plain_clauses k cs
  flat_is_plain c i = in_right (flat_clause (numbers_of cs) c) (identity_clauses k ++ flat_map (function_clauses k (numbers_of cs)) (functions_of cs)) (map (flat_clause (numbers_of cs)) cs) (in_map (flat_clause (numbers_of cs)) c cs i)

  in_elements : (e : ℕ) → IsElement k e → e ∈ range_with_len 1 k
  in_elements e h = in_range 1 k e h.above (omega (arith, h.within))

  -- `id` is true of equal elements only
  identity_truth : (d e : ℕ) → IsElement k d → IsElement k e → signed (nat_eq d e) (IsTrueBy ms (applied identity (element d ∷ element e ∷ [])))
  identity_truth d e g h =
      let i : identity_clause d e ∈ identity_clauses k =
      in_flat_map (λ (j : ℕ). map (identity_clause j) (range_with_len 1 k)) d (identity_clause d e) (range_with_len 1 k) (in_elements d g) (in_map (identity_clause d) e (range_with_len 1 k) (in_elements e h)) in
      let (l, j, t) = true_literal ms (identity_clause d e) (makes (identity_clause d e) (identity_is_plain (identity_clause d e) i)) (λ v. element 1) (λ v. refl) in
      only l j t
    where
      only : (l : Signed Tree) → l ∈ identity_clause d e → IsTrueLiteral (IsTrueBy ms) (subst_literal (λ v. element 1) l) → signed (nat_eq d e) (IsTrueBy ms (applied identity (element d ∷ element e ∷ [])))
      only l (inl q) t = transport (λ (m : Signed Tree). IsTrueLiteral (IsTrueBy ms) (subst_literal (λ v. element 1) m)) q t
      only l (inr i) t = absurd i

  same_to : (d e : ℕ) → IsElement k d → IsElement k e → IsTrueBy ms (applied identity (element d ∷ element e ∷ [])) → d ≡ e
  same_to d e g h t = go (nat_eq d e) (identity_truth d e g h) (Decides-eqb d e).0
    where
      go : (b : Bool) → signed b (IsTrueBy ms (applied identity (element d ∷ element e ∷ []))) → (b ≡ true → d ≡ e) → d ≡ e
      go true s q = q refl
      go false s q = absurd (s t)

  same_from : (d e : ℕ) → IsElement k d → IsElement k e → d ≡ e → IsTrueBy ms (applied identity (element d ∷ element e ∷ []))
  same_from d e g h q = go (nat_eq d e) (identity_truth d e g h) ((Decides-eqb d e).1 q)
    where
      go : (b : Bool) → signed b (IsTrueBy ms (applied identity (element d ∷ element e ∷ []))) → b ≡ true → IsTrueBy ms (applied identity (element d ∷ element e ∷ []))
      go true s e = s
      go false s e = absurd (cc)

  module _ (ts : Tables) (read : AreRead k cs ms ts) (a : Assignment) (elements : (v : ℕ) → IsElement k (a v)) (c : TreeClause) where
    -- for the variable of a part the element that is the part's value
    abbrev named : Substitution
    named n = element (value k ts.functions a (get_or (clause_parts c) n (var 0)))

    abbrev values_of : Trees → List ℕ
    values_of us = values k ts.functions a us

    named_part : (t : Tree) → t ∈ clause_parts c → subst named (stands_for (clause_parts c) t) ≡ element (value k ts.functions a t)
    named_part t i = ap (λ u. element (value k ts.functions a u)) (item_at_position tree_eq tree_eq_decides t (var 0) (clause_parts c) i)

    named_parts : (us : Trees) → ((u : Tree) → u ∈ to_list us → u ∈ clause_parts c) → map (subst named) (map (stands_for (clause_parts c)) (to_list us)) ≡ map element (values_of us)
    named_parts none h = refl
    named_parts (more u us) h = λ i. named_part u (h u (inl refl)) i ∷ named_parts us (λ t j. h t (inr j)) i

    named_arguments : (s : Sym) (us : Trees) → ((u : Tree) → u ∈ to_list us → u ∈ clause_parts c)
        → subst named (applied s (map (stands_for (clause_parts c)) (to_list us))) ≡ applied s (map element (values_of us))
    named_arguments s us h = ap (app s) (substs_of_list named (map (stands_for (clause_parts c)) (to_list us)) ∙ ap of_list (named_parts us h))

    named_value : (f : Sym) (us : Trees) → app f us ∈ clause_parts c
        → subst named (applied (function_predicate (numbers_of cs) f) (map (stands_for (clause_parts c)) (to_list us) ++ stands_for (clause_parts c) (app f us) ∷ []))
        ≡ value_atom cs f (values_of us) (value k ts.functions a (app f us))
    named_value f us i =
        ap (app (function_predicate (numbers_of cs) f))
        (substs_of_list named (map (stands_for (clause_parts c)) (to_list us) ++ stands_for (clause_parts c) (app f us) ∷ [])
        ∙ ap of_list (map_append (subst named) (map (stands_for (clause_parts c)) (to_list us)) (stands_for (clause_parts c) (app f us) ∷ [])
        ∙ (λ j. named_parts us (argument_of_clause_part c f us i) j ++ named_part (app f us) i j ∷ [])))

    has : (f : Sym) → IsOwnFunction cs f → (es : List ℕ) → AreArguments k f es → IsElement k (cell_at k ts.functions f es)
    has f i es h = read.element f (in_contains f (functions_of cs) i) es h

    module _ (terms : (t : Tree) → t ∈ clause_parts c → IsTermOver (IsOwnFunction cs) t) where
      -- the denial for a term is false
      no_denial : (t : Tree) → t ∈ clause_parts c → (l : Signed Tree) → l ∈ value_denial (numbers_of cs) (clause_parts c) t → ¬ IsTrueLiteral (IsTrueBy ms) (subst_literal named l)
      no_denial (var v) i l j h = j
      no_denial (app f us) i l (inr j) h = j
      no_denial (app f us) i l (inl e) h =
          let whole : IsTermOver (IsOwnFunction cs) (app f us) = terms (app f us) i in
          let arguments : AreArguments k f (values_of us) = values_are_arguments k cs ts.functions has a elements f us whole.1 whole.2 in
          let denied = transport (λ (m : Signed Tree). IsTrueLiteral (IsTrueBy ms) (subst_literal named m)) e h in
          denied (transport (IsTrueBy ms) (sym (named_value f us i)) (read.value f (in_contains f (functions_of cs) whole.0) (values_of us) arguments))

      -- equality at two arguments
      equality_to : (es : List ℕ) → ((e : ℕ) → e ∈ es → IsElement k e) → length es ≡ 2 → (IsTrueBy ms (applied identity (map element es)) → AreSame es) × (AreSame es → IsTrueBy ms (applied identity (map element es)))
      equality_to [] h e = absurd (omega arith)
      equality_to (d ∷ []) h e = absurd (omega arith)
      equality_to (d ∷ e ∷ []) h q = (same_to d e (h d (inl refl)) (h e (inr (inl refl))), same_from d e (h d (inl refl)) (h e (inr (inl refl))))
      equality_to (d ∷ e ∷ _ ∷ _) h q = absurd (omega arith)

      -- the flat atom with elements is true by the test exactly where the atom is in the tables
      by_kind : (p : Sym) (es : List ℕ) (kind : Kind) → p.kind ≡ kind → IsOwnPredicate cs p → AreArguments k p es
          → (IsTrueBy ms (applied (predicate_for (numbers_of cs) kind p) (map element es)) → HoldsAt k ts.predicates kind p es) × (HoldsAt k ts.predicates kind p es → IsTrueBy ms (applied (predicate_for (numbers_of cs) kind p) (map element es)))
      by_kind p es Predicate e own h = go (read.truth p (in_contains p (predicates_of cs) (own.1 (ap is_predicate_kind e))) es h)
        where
          go : ((cell_at k ts.predicates p es ≡ 1) × IsTrueBy ms (predicate_atom cs p es)) ⊎ ((cell_at k ts.predicates p es ≡ 0) × ¬ IsTrueBy ms (predicate_atom cs p es))
              → (IsTrueBy ms (predicate_atom cs p es) → cell_at k ts.predicates p es ≡ 1) × (cell_at k ts.predicates p es ≡ 1 → IsTrueBy ms (predicate_atom cs p es))
          go (inl (one, t)) = (λ x. one, λ x. t)
          go (inr (none_of, n)) = (λ x. absurd (n x), λ x. absurd (omega arith))
      by_kind p es Equality e own h =
          let q : (bytes_eq p.name (61 ∷ []) && nat_eq p.arity 2) ≡ true = ap (λ (j : Kind). fits_kind j p.name p.arity) (sym e) ∙ own.0.1 in
          equality_to es (all_in (IsElement k) es h.elements) (h.count ∙ (Decides-eqb p.arity 2).0 (and_right (bytes_eq p.name (61 ∷ [])) (nat_eq p.arity 2) q))
      by_kind p es Function e own h = absurd (false≢true (ap (λ (j : Kind). not (is_function_kind j)) (sym e) ∙ own.0.0))

      atom_truth : (t : Tree) → IsAtomOver (IsOwnPredicate cs) (IsOwnFunction cs) t → ((p : Sym) (us : Trees) → t ≡ app p us → (u : Tree) → u ∈ to_list us → u ∈ clause_parts c)
          → (IsTrueBy ms (subst named (flat_atom (numbers_of cs) (clause_parts c) t)) → IsTrueAtom k ts a t) × (IsTrueAtom k ts a t → IsTrueBy ms (subst named (flat_atom (numbers_of cs) (clause_parts c) t)))
      atom_truth (var v) h inside = absurd h
      atom_truth (app p us) h inside =
          let arguments : AreArguments k p (values_of us) = values_are_arguments k cs ts.functions has a elements p us h.1 h.2 in
          let same = named_arguments (predicate_for (numbers_of cs) p.kind p) us (inside p us refl) in
          let (to, from) = by_kind p (values_of us) p.kind refl h.0 arguments in
          (λ t. to (transport (IsTrueBy ms) same t), λ t. transport (IsTrueBy ms) (sym same) (from t))

      clause_truth : HasAtomsOver (IsOwnPredicate cs) (IsOwnFunction cs) c → c ∈ cs → IsTrueClause (IsTrueAtom k ts a) c
      clause_truth own i =
          let (l, j, t) = true_literal ms (flat_clause (numbers_of cs) c) (makes (flat_clause (numbers_of cs) c) (flat_is_plain c i)) named (λ v. refl) in
          elim (in_either l (flat_map (value_denial (numbers_of cs) (clause_parts c)) (clause_parts c)) (map (flat_literal (numbers_of cs) (clause_parts c)) c) j) [
            | inl m ↦ let (u, n, o) = from_flat_map (value_denial (numbers_of cs) (clause_parts c)) l (clause_parts c) m in absurd (no_denial u n l o t)
            | inr m ↦
                let (d, n, e) = from_map (flat_literal (numbers_of cs) (clause_parts c)) l c m in
                let (to, from) = atom_truth d.atom (own d n) (argument_of_literal c d n) in
                in_any (IsTrueLiteral (IsTrueAtom k ts a)) d c n
                (signed_to (IsTrueBy ms (subst named (flat_atom (numbers_of cs) (clause_parts c) d.atom))) (IsTrueAtom k ts a d.atom) d.positive to from
                (transport (λ (x : Signed Tree). IsTrueLiteral (IsTrueBy ms) (subst_literal named x)) (sym e) t))
          ]

  pub read_tables_are_a_model : AreFormedClauses cs → (ts : Tables) → AreRead k cs ms ts → All (IsTrueIn k ts) cs
  read_tables_are_a_model formed ts read = in_all (IsTrueIn k ts) cs (λ c i a elements.
      let own = own_atoms cs formed c i in
      clause_truth ts read a elements c (part_of_clause (IsOwnFunction cs) (IsOwnPredicate cs) c own) own i)

  -- The value of a function is one element

  module _ (f : Sym) (i : f ∈ functions_of cs) (es : List ℕ) (arguments : AreArguments k f es) where
    -- the arguments for the variables
    abbrev put : Substitution
    put v = element (get_or es v 1)

    put_variables : (from : ℕ) (ds : List ℕ) → ((j : ℕ) → get_or ds j 1 ≡ get_or es (from + j) 1) → map (subst put) (map var (range_with_len from (length ds))) ≡ map element ds
    put_variables from [] h = refl
    put_variables from (d ∷ ds) h = ap₂ (λ x xs. x ∷ xs)
        (ap element (let now : from + 0 ≡ from = omega arith in ap (λ n. get_or es n 1) (sym now) ∙ sym (h 0)))
        (put_variables (from + 1) ds (λ j. h (suc j) ∙ (let next : from + suc j ≡ from + 1 + j = omega arith in ap (λ n. get_or es n 1) next)))

    put_value : (sign : Bool) (e : ℕ) → subst_literal put (value_literal (function_predicate (numbers_of cs) f) f.arity sign e) ≡ record { positive = sign; atom = value_atom cs f es e }
    put_value sign e = ap (λ ts. record { positive = sign; atom = app (function_predicate (numbers_of cs) f) ts })
        (substs_of_list put (map var (range_with_len 0 f.arity) ++ element e ∷ [])
        ∙ ap of_list (map_append (subst put) (map var (range_with_len 0 f.arity)) (element e ∷ [])
        ∙ ap (λ xs. xs ++ element e ∷ []) (ap (λ n. map (subst put) (map var (range_with_len 0 n))) (sym arguments.count) ∙ put_variables 0 es (λ j. let same : j ≡ 0 + j = omega arith in ap (λ n. get_or es n 1) same))))

    some_value : (e : ℕ) × IsElement k e × IsTrueBy ms (value_atom cs f es e)
    some_value =
        let (l, j, t) = true_literal ms (total_clause k (function_predicate (numbers_of cs) f) f.arity) (makes (total_clause k (function_predicate (numbers_of cs) f) f.arity) (function_is_plain f i (total_clause k (function_predicate (numbers_of cs) f) f.arity) (inl refl))) put (λ v. refl) in
        let (e, m, q) = from_map (value_literal (function_predicate (numbers_of cs) f) f.arity true) l (range_with_len 1 k) j in
        let (low, high) = from_range 1 k e m in
        (e, record { above = low; within = omega arith }, transport (IsTrueLiteral (IsTrueBy ms)) (ap (subst_literal put) (sym q) ∙ put_value true e) t)

    not_both : (d e : ℕ) → IsElement k d → IsElement k e → d < e → IsTrueBy ms (value_atom cs f es d) → IsTrueBy ms (value_atom cs f es e) → ⊥
    not_both d e g h less s t =
        let m : unique_clause (function_predicate (numbers_of cs) f) f.arity d e ∈ unique_clauses k (function_predicate (numbers_of cs) f) f.arity =
        in_flat_map (λ n. map (unique_clause (function_predicate (numbers_of cs) f) f.arity n) (range_with_len (n + 1) (k - n))) d (unique_clause (function_predicate (numbers_of cs) f) f.arity d e) (range_with_len 1 k) (in_elements d g)
        (in_map (unique_clause (function_predicate (numbers_of cs) f) f.arity d) e (range_with_len (d + 1) (k - d)) (in_range (d + 1) (k - d) e (omega arith) (omega (arith, h.within)))) in
        let (l, j, u) = true_literal ms (unique_clause (function_predicate (numbers_of cs) f) f.arity d e) (makes (unique_clause (function_predicate (numbers_of cs) f) f.arity d e) (function_is_plain f i (unique_clause (function_predicate (numbers_of cs) f) f.arity d e) (inr m))) put (λ v. refl) in
        false_both l j u
      where
        false_both : (l : Signed Tree) → l ∈ unique_clause (function_predicate (numbers_of cs) f) f.arity d e → ¬ IsTrueLiteral (IsTrueBy ms) (subst_literal put l)
        false_both l (inl q) u = transport (IsTrueLiteral (IsTrueBy ms)) (ap (subst_literal put) q ∙ put_value false d) u s
        false_both l (inr (inl q)) u = transport (IsTrueLiteral (IsTrueBy ms)) (ap (subst_literal put) q ∙ put_value false e) u t
        false_both l (inr (inr n)) u = n

    pub one_value : (e : ℕ) × IsElement k e × IsTrueBy ms (value_atom cs f es e) × ((d : ℕ) → IsElement k d → IsTrueBy ms (value_atom cs f es d) → d ≡ e)
    one_value = let (e, h, t) = some_value in (e, h, t, λ d g s. by_order e h t d g s (dec_lt d e) (dec_lt e d))
      where
        by_order : (e : ℕ) → IsElement k e → IsTrueBy ms (value_atom cs f es e) → (d : ℕ) → IsElement k d → IsTrueBy ms (value_atom cs f es d) → Dec (d < e) → Dec (e < d) → d ≡ e
        by_order e h t d g s (yes less) n = absurd (not_both d e g h less s t)
        by_order e h t d g s (no n) (yes less) = absurd (not_both e d h g less t s)
        by_order e h t d g s (no n) (no m) = omega arith

pub makes_plain : (k : ℕ) (cs : List TreeClause) (ms : List SelectedClause) → All (Makes ms) (flattened k cs) → (c : TreeClause) → c ∈ plain_clauses k cs → Makes ms (canonical_form c)
makes_plain k cs ms makes c i = all_in (Makes ms) (flattened k cs) makes (canonical_form c) (in_map canonical_form c (plain_clauses k cs) i)
