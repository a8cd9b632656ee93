-- The clauses of a translation have predicates over variables and constants. So they are well formed, no function is applied in
-- them, they have no axioms of equality, and where their names are readable they are.
use Rattle.std.proofs.Common.{◌≡◌, ℕ, suc, ◌+◌, ◌<◌, ◌≤◌, ◌^◌, ◌⊎◌, inl, inr, List, [], ◌∷◌, ◌++◌, refl, sym, ap, ◌∙◌, subst as transport, map, Bool, true, false, not, ◌&&◌, ◌||◌, nat_eq, length, arith}
use Rattle.std.specs.Prelude.{codes, decimal, All, IsTrue}
use Rattle.std.specs.List.{list_all}
use Rattle.std.proofs.lemmas.List.{length-map}
use Rattle.inst_logic.specs.declared.signed.Signed.{Signed}
use Rattle.inst_logic.specs.declared.symbol.Sym.{Sym}
use Rattle.inst_logic.specs.declared.symbol.Kind.{Kind}
use Rattle.inst_logic.specs.declared.symbol.Kind.TheVariants.{Predicate, Function}
use Rattle.inst_logic.specs.Tree.{Tree, var, app, Trees, none, more, of_list}
use Rattle.inst_logic.specs.Equal.{sym_eq}
use Rattle.inst_logic.specs.Clauses.{TreeClause, IsCanonical, canonical_form}
use Rattle.inst_logic.specs.Measure.{tree_applies, trees_apply, clause_applies, is_function_free}
use Rattle.inst_logic.specs.WellFormed.{count_of, fits_kind, is_function_kind, clause_is_formed, AreFormedClauses}
use Rattle.inst_logic.specs.Printing.{is_between, is_readable_name}
use Rattle.inst_logic.specs.Readable.{kind_is_readable, tree_is_readable, trees_are_readable, clause_is_readable}
use Rattle.inst_logic.proofs.SameLemmas.{sym_eq_decides, and_both}
use Rattle.inst_logic.proofs.Printed.{decimal_readable}
use Rattle.inst_logic.proofs.Membership.{◌∈◌, in_all, all_in, all_pass, none_passes, from_map}
use Rattle.inst_calculus.specs.Axioms.{occurrences, is_equality_kind, equality_axioms}
use Rattle.inst_calculus.proofs.Distinct.{from_distinct}
use Rattle.inst_calculus.proofs.Terms.{IsTermOver, AreTermsOver, IsAtomOver, IsFunction, IsPredicate}
use Rattle.inst_calculus.proofs.Instances.{HasAtomsOver, clause_over_formed, canonical_over}
use Rattle.inst_calculus.proofs.CanonicalForms.{canonical_of_canonical}
use Rattle.inst_calculus.proofs.Symbols.{symbols_over, clause_of_symbol}
use Rattle.qbf_logic.specs.declared.quant.Quant.{Quant}
use Rattle.qbf_logic.specs.Formulas.{Matrix, IsFormula}
use Rattle.qbf_logic.specs.Translation.{Role, universal, existential, role, atom_of_role, translated_literal, translated_clause, true_is_true, false_is_not_true, translation, numbered_names, translation_names}

-- a predicate, and a constant, of whose name N holds
abbrev pub IsPredicateNamed : (List ℕ → Type 0) → Sym → Type 0
IsPredicateNamed N p = (p.kind ≡ Predicate) × N p.name

abbrev pub IsConstantNamed : (List ℕ → Type 0) → Sym → Type 0
IsConstantNamed N f = (f.kind ≡ Function) × (f.arity ≡ 0) × N f.name

-- such predicates over variables and such constants
abbrev pub IsFlat : (List ℕ → Type 0) → TreeClause → Type 0
IsFlat N c = HasAtomsOver (IsPredicateNamed N) (IsConstantNamed N) c

module _ (N : List ℕ → Type 0) where
  variables_over : (ds : List ℕ) → (count_of (of_list (map var ds)) ≡ length ds) × AreTermsOver (IsConstantNamed N) (of_list (map var ds))
  variables_over [] = (refl, tt)
  variables_over (d ∷ ds) = let h = variables_over ds in (ap (λ n. n + 1) h.0 ∙ omega arith, (tt, h.1))

  atom_over : N (codes "v") → (n : ℕ) → N (codes "e" ++ decimal (n + 1)) → (r : Role) → IsAtomOver (IsPredicateNamed N) (IsConstantNamed N) (atom_of_role n r)
  atom_over v n e universal = ((refl, v), refl, (tt, tt))
  atom_over v n e (existential ds) = let h = variables_over ds in ((refl, e), h.0, h.1)

  pub translation_flat : (prefix : List Quant) (matrix : Matrix) → N (codes "v") → N (codes "t") → N (codes "f") → ((d : List (Signed ℕ)) → d ∈ matrix → (l : Signed ℕ) → l ∈ d → N (codes "e" ++ decimal (l.atom + 1)))
      → (c : TreeClause) → c ∈ translation prefix matrix → IsFlat N c
  translation_flat prefix matrix v t f e c (inl h) = transport (IsFlat N) (sym h) one
    where
      one : IsFlat N true_is_true
      one l (inl g) = transport (λ (x : Signed Tree). IsAtomOver (IsPredicateNamed N) (IsConstantNamed N) x.atom) (sym g) ((refl, v), refl, (((refl, refl, t), refl, tt), tt))
      one l (inr i) = absurd i
  translation_flat prefix matrix v t f e c (inr (inl h)) = transport (IsFlat N) (sym h) one
    where
      one : IsFlat N false_is_not_true
      one l (inl g) = transport (λ (x : Signed Tree). IsAtomOver (IsPredicateNamed N) (IsConstantNamed N) x.atom) (sym g) ((refl, v), refl, (((refl, refl, f), refl, tt), tt))
      one l (inr i) = absurd i
  translation_flat prefix matrix v t f e c (inr (inr i)) =
      let (d, j, h) = from_map (λ x. canonical_form (translated_clause prefix x)) c matrix i in
      transport (IsFlat N) h (canonical_over (IsPredicateNamed N) (IsConstantNamed N) (translated_clause prefix d) (λ l k.
      let (x, m, g) = from_map (translated_literal prefix) l d k in
      transport (λ (y : Signed Tree). IsAtomOver (IsPredicateNamed N) (IsConstantNamed N) y.atom) g (atom_over v x.atom (e d j x m) (role prefix x.atom))))

  -- well formed
  mutual
    formed_term : (t : Tree) → IsTermOver (IsConstantNamed N) t → IsTermOver IsFunction t
    formed_term (var v) h = tt
    formed_term (app f ts) h = (ap is_function_kind h.0.0, h.1, formed_terms ts h.2)

    formed_terms : (ts : Trees) → AreTermsOver (IsConstantNamed N) ts → AreTermsOver IsFunction ts
    formed_terms none h = tt
    formed_terms (more t ts) h = (formed_term t h.0, formed_terms ts h.1)

  formed_atom : (t : Tree) → IsAtomOver (IsPredicateNamed N) (IsConstantNamed N) t → IsAtomOver IsPredicate IsFunction t
  formed_atom (var v) h = absurd h
  formed_atom (app p ts) h = ((ap (λ (k : Kind). not (is_function_kind k)) h.0.0, ap (λ (k : Kind). fits_kind k p.name p.arity) h.0.0), h.1, formed_terms ts h.2)

  pub flat_is_formed : (c : TreeClause) → IsFlat N c → clause_is_formed c ≡ true
  flat_is_formed c h = clause_over_formed c (λ l i. formed_atom l.atom (h l i))

  -- without functions that are applied
  neither : (a b : Bool) → a ≡ false → b ≡ false → (a || b) ≡ false
  neither a b p q = rw p q

  mutual
    term_applies_none : (t : Tree) → IsTermOver (IsConstantNamed N) t → tree_applies t ≡ false
    term_applies_none (var v) h = refl
    term_applies_none (app f ts) h =
        neither (is_function_kind f.kind && not (nat_eq f.arity 0)) (trees_apply ts)
        (ap (λ (k : Kind). is_function_kind k && not (nat_eq f.arity 0)) h.0.0 ∙ ap (λ n. not (nat_eq n 0)) h.0.1) (terms_apply_none ts h.2)

    terms_apply_none : (ts : Trees) → AreTermsOver (IsConstantNamed N) ts → trees_apply ts ≡ false
    terms_apply_none none h = refl
    terms_apply_none (more t ts) h = neither (tree_applies t) (trees_apply ts) (term_applies_none t h.0) (terms_apply_none ts h.1)

  atom_applies_none : (t : Tree) → IsAtomOver (IsPredicateNamed N) (IsConstantNamed N) t → tree_applies t ≡ false
  atom_applies_none (var v) h = refl
  atom_applies_none (app p ts) h =
      neither (is_function_kind p.kind && not (nat_eq p.arity 0)) (trees_apply ts) (ap (λ (k : Kind). is_function_kind k && not (nat_eq p.arity 0)) h.0.0) (terms_apply_none ts h.2)

  pub flat_applies_none : (c : TreeClause) → IsFlat N c → clause_applies c ≡ false
  flat_applies_none c h = none_passes (λ (l : Signed Tree). tree_applies l.atom) c (λ l i. atom_applies_none l.atom (h l i))

  -- without equality
  not_equality : (s : Sym) → IsPredicateNamed N s ⊎ IsConstantNamed N s → is_equality_kind s.kind ≡ false
  not_equality s (inl h) = ap is_equality_kind h.0
  not_equality s (inr h) = ap is_equality_kind h.0

  pub flat_has_no_axioms : (cs : List TreeClause) → ((c : TreeClause) → c ∈ cs → IsFlat N c) → equality_axioms cs ≡ []
  flat_has_no_axioms cs h = rw (none_passes (λ (s : Sym). is_equality_kind s.kind) _ (λ s i.
      let (c, j, k) = clause_of_symbol s cs (from_distinct sym_eq sym_eq_decides s (occurrences cs) i) in
      not_equality s (symbols_over (IsPredicateNamed N) (IsConstantNamed N) c (h c j) s k))) refl

-- readable names
abbrev pub IsReadable : List ℕ → Type 0
IsReadable n = is_readable_name n ≡ true

mutual
  readable_term : (t : Tree) → IsTermOver (IsConstantNamed IsReadable) t → tree_is_readable t ≡ true
  readable_term (var v) h = refl
  readable_term (app f ts) h = and_both (kind_is_readable f.kind f.name) (trees_are_readable ts) (ap (λ (k : Kind). kind_is_readable k f.name) h.0.0 ∙ h.0.2) (readable_terms ts h.2)

  readable_terms : (ts : Trees) → AreTermsOver (IsConstantNamed IsReadable) ts → trees_are_readable ts ≡ true
  readable_terms none h = refl
  readable_terms (more t ts) h = and_both (tree_is_readable t) (trees_are_readable ts) (readable_term t h.0) (readable_terms ts h.1)

readable_atom : (t : Tree) → IsAtomOver (IsPredicateNamed IsReadable) (IsConstantNamed IsReadable) t → tree_is_readable t ≡ true
readable_atom (var v) h = refl
readable_atom (app p ts) h = and_both (kind_is_readable p.kind p.name) (trees_are_readable ts) (ap (λ (k : Kind). kind_is_readable k p.name) h.0.0 ∙ h.0.1) (readable_terms ts h.2)

flat_is_readable : (c : TreeClause) → IsFlat IsReadable c → clause_is_readable c ≡ true
flat_is_readable c h = all_pass (λ (l : Signed Tree). tree_is_readable l.atom) c (λ l i. readable_atom l.atom (h l i))

letter_then_number : (b n : ℕ) → is_between 32 126 b ≡ true → n < 2 ^ 64 → is_readable_name (b ∷ decimal n) ≡ true
letter_then_number b n h k = and_both (is_between 32 126 b) (list_all (is_between 32 126) (decimal n)) h (decimal_readable n k)

module _ (prefix : List Quant) (matrix : Matrix) where
  any_names : (c : TreeClause) → c ∈ translation prefix matrix → IsFlat (λ n. Unit {0}) c
  any_names = translation_flat (λ n. Unit {0}) prefix matrix tt tt tt (λ d i l j. tt)

  pub translation_formed : AreFormedClauses (translation prefix matrix)
  translation_formed = all_pass clause_is_formed (translation prefix matrix) (λ c i. flat_is_formed (λ n. Unit {0}) c (any_names c i))

  pub translation_function_free : IsTrue (is_function_free (translation prefix matrix))
  translation_function_free = ap not (none_passes clause_applies (translation prefix matrix) (λ c i. flat_applies_none (λ n. Unit {0}) c (any_names c i)))

  pub translation_has_no_axioms : equality_axioms (translation prefix matrix) ≡ []
  translation_has_no_axioms = flat_has_no_axioms (λ n. Unit {0}) (translation prefix matrix) any_names

  pub translation_canonical : All IsCanonical (translation prefix matrix)
  translation_canonical = in_all IsCanonical (translation prefix matrix) by
    where
      by : (c : TreeClause) → c ∈ translation prefix matrix → IsCanonical c
      by c (inl e) = transport IsCanonical (sym e) refl
      by c (inr (inl e)) = transport IsCanonical (sym e) refl
      by c (inr (inr i)) = let (d, j, e) = from_map (λ x. canonical_form (translated_clause prefix x)) c matrix i in transport IsCanonical e (canonical_of_canonical (translated_clause prefix d))

  pub translation_readable : (vars : ℕ) → IsFormula vars prefix matrix → All (λ c. IsTrue (clause_is_readable c)) (translation prefix matrix)
  translation_readable vars formula = in_all (λ c. IsTrue (clause_is_readable c)) (translation prefix matrix) (λ c i.
      flat_is_readable c (translation_flat IsReadable prefix matrix refl refl refl (λ d j l k.
      let fits = formula.fits in
      let below : l.atom < vars = all_in (λ (m : Signed ℕ). m.atom < vars) d (all_in (λ e. All (λ (m : Signed ℕ). m.atom < vars) e) matrix formula.matrix_below d j) l k in
      letter_then_number 101 (l.atom + 1) refl (omega arith)) c i))

length_numbered : (k : ℕ) (matrix : Matrix) → length (numbered_names k matrix) ≡ length matrix
length_numbered k [] = refl
length_numbered k (c ∷ cs) = ap suc (length_numbered (k + 1) cs)

pub one_name_each : (prefix : List Quant) (matrix : Matrix) → length (translation_names matrix) ≡ length (translation prefix matrix)
one_name_each prefix matrix = ap (λ n. suc (suc n)) (length_numbered 1 matrix ∙ sym (length-map matrix (λ c. canonical_form (translated_clause prefix c))))

numbered_readable : (k : ℕ) (matrix : Matrix) → k + length matrix ≤ 2 ^ 64 → (n : List ℕ) → n ∈ numbered_names k matrix → IsReadable n
numbered_readable k [] h n i = absurd i
numbered_readable k (c ∷ cs) h n (inl e) = transport IsReadable (sym e) (letter_then_number 99 k refl (omega arith))
numbered_readable k (c ∷ cs) h n (inr i) = numbered_readable (k + 1) cs (omega arith) n i

pub names_readable : (matrix : Matrix) → length matrix < 2 ^ 64 → All (λ n. IsTrue (is_readable_name n)) (translation_names matrix)
names_readable matrix h = in_all (λ n. IsTrue (is_readable_name n)) (translation_names matrix) by
  where
    by : (n : List ℕ) → n ∈ translation_names matrix → IsReadable n
    by n (inl e) = transport IsReadable (sym e) refl
    by n (inr (inl e)) = transport IsReadable (sym e) refl
    by n (inr (inr i)) = numbered_readable 1 matrix (omega arith) n i
