-- The atoms of the flattened form: predicates of variables and constants for elements. So it is well formed, function free,
-- readable and without equality.
use Rattle.std.proofs.Common.{◌≡◌, ℕ, ◌+◌, ◌-◌, ◌^◌, ◌<◌, ◌≤◌, ◌⊎◌, inl, inr, List, [], ◌∷◌, ◌++◌, refl, sym, ap, ap₂, ◌∙◌, subst as transport, map, length, length-append, Bool, true, false, not, ◌&&◌, ◌||◌, nat_eq, arith, All}
use Rattle.std.specs.Prelude.{IsTrue, decimal, codes}
use Rattle.std.specs.List.{flat_map, range_with_len, list_any}
use Rattle.std.proofs.lemmas.Bool.Decides.{Decides-eqb}
use Rattle.std.proofs.lemmas.List.{append-nil}
use Rattle.std.proofs.lemmas.Bool.{false≢true}
use Rattle.std.proofs.lemmas.List.FromFn.{length-range_with_len}
use Rattle.inst_logic.specs.declared.symbol.Sym.{Sym}
use Rattle.inst_logic.specs.declared.symbol.Kind.{Kind}
use Rattle.inst_logic.specs.declared.symbol.Kind.TheVariants.{Predicate, Equality, Function}
use Rattle.inst_logic.specs.declared.signed.Signed.{Signed}
use Rattle.inst_logic.specs.Tree.{Tree, var, app, Trees, none, more, of_list, to_list}
use Rattle.inst_logic.specs.Equal.{sym_eq}
use Rattle.inst_logic.specs.Measure.{tree_applies, trees_apply, clause_applies, is_function_free}
use Rattle.inst_logic.specs.Codes as byte
use Rattle.inst_logic.specs.Printing.{is_between, is_readable_name}
use Rattle.inst_logic.specs.Readable.{kind_is_readable, tree_is_readable, trees_are_readable, clause_is_readable}
use Rattle.inst_logic.specs.Substitution.{subst}
use Rattle.inst_logic.specs.Clauses.{TreeClause, canonical_form, numbered, order_of, IsCanonical}
use Rattle.inst_logic.specs.WellFormed.{AreFormedClauses, clause_is_formed, atom_is_formed, tree_is_formed, trees_are_formed, fits_kind, symbol_is_formed, is_function_kind, count_of}
use Rattle.inst_logic.proofs.SameLemmas.{and_right, and_both, sym_eq_decides}
use Rattle.inst_logic.proofs.Membership.{◌∈◌, in_all, all_in, in_either, from_map, all_pass, none_passes}
use Rattle.inst_logic.proofs.Printed.{decimal_readable}
use Rattle.inst_calculus.specs.Axioms.{tree_symbols, trees_symbols, occurrences, symbols_of, is_predicate_kind, is_equality_kind, equality_axioms, with_axioms}
use Rattle.inst_calculus.proofs.Distinct.{length_map, from_distinct}
use Rattle.inst_calculus.proofs.Clauses.{from_instance}
use Rattle.inst_calculus.proofs.CanonicalForms.{canonical_of_canonical}
use Rattle.inst_calculus.proofs.Symbols.{clause_of_symbol, literal_of_symbol}
use Rattle.inst_calculus.proofs.Terms.{IsAtomOver}
use Rattle.finite_model.specs.Tables.{functions_of, predicates_of}
use Rattle.finite_model.specs.Flattening.{numbers_of, identity, element, applied, identity_clause, identity_clauses, value_literal, unique_clause, function_clauses, function_predicate, numbered_predicate, predicate_for, clause_parts, stands_for, value_denial, flat_atom, flat_literal, flat_clause, plain_clauses, flattened, flattened_names, number_of}
use Rattle.inst_calculus.proofs.MadeLists.{from_flat_map, from_range, position_below}
use Rattle.finite_model.proofs.Parts.{IsOwnFunction, IsOwnPredicate, own_atoms, part_of_clause}
use Rattle.inst_logic.proofs.Numbering.{substs_of_list}

-- a variable, or the constant for a number up to k
abbrev IsFlatTerm : ℕ → Tree → Type 0
IsFlatTerm k (var v) = Unit {0}
IsFlatTerm k (app s us) = (e : ℕ) × (e ≤ k) × (app s us ≡ element e)

-- a predicate of which P holds, of such terms
record IsFlatAtom (k : ℕ) (P : Sym → Type 0) (t : Tree) : Type 0 where
  symbol : Sym
  arguments : List Tree
  atom : t ≡ applied symbol arguments
  kind : symbol.kind ≡ Predicate
  known : P symbol
  count : length arguments ≡ symbol.arity
  terms : (u : Tree) → u ∈ arguments → IsFlatTerm k u

length_to_list : (us : Trees) → length (to_list us) ≡ count_of us
length_to_list none = refl
length_to_list (more u us) = omega (arith, length_to_list us)

count_of_list : (us : List Tree) → count_of (of_list us) ≡ length us
count_of_list [] = refl
count_of_list (u ∷ us) = omega (arith, count_of_list us)

module _ (k : ℕ) (cs : List TreeClause) (P : Sym → Type 0) (of_identity : P identity)
    (of_function : (f : Sym) → f ∈ functions_of cs → P (function_predicate (numbers_of cs) f)) (of_predicate : (p : Sym) → p ∈ predicates_of cs → P (numbered_predicate (numbers_of cs) p))
    (formed : AreFormedClauses cs) where
  abbrev HasFlatAtoms : TreeClause → Type 0
  HasFlatAtoms c = (l : Signed Tree) → l ∈ c → IsFlatAtom k P l.atom

  flat_identity : (d e : ℕ) → d ≤ k → e ≤ k → HasFlatAtoms (identity_clause d e)
  flat_identity d e g h l (inr i) = absurd i
  flat_identity d e g h l (inl q) = transport (λ (m : Signed Tree). IsFlatAtom k P m.atom) (sym q) (record {
    symbol = identity;
    arguments = element d ∷ element e ∷ [];
    atom = refl;
    kind = refl;
    known = of_identity;
    count = refl;
    terms = terms;
  })
    where
      terms : (u : Tree) → u ∈ (element d ∷ element e ∷ []) → IsFlatTerm k u
      terms u (inl i) = transport (IsFlatTerm k) (sym i) (d, g, refl)
      terms u (inr (inl i)) = transport (IsFlatTerm k) (sym i) (e, h, refl)
      terms u (inr (inr i)) = absurd i

  flat_value : (f : Sym) → f ∈ functions_of cs → (sign : Bool) (e : ℕ) → e ≤ k → IsFlatAtom k P (value_literal (function_predicate (numbers_of cs) f) f.arity sign e).atom
  flat_value f i sign e h = record {
    symbol = function_predicate (numbers_of cs) f;
    arguments = map var (range_with_len 0 f.arity) ++ element e ∷ [];
    atom = refl;
    kind = refl;
    known = of_function f i;
    count = length-append (map var (range_with_len 0 f.arity)) (element e ∷ []) ∙ ap (λ n. n + 1) (length_map var (range_with_len 0 f.arity) ∙ length-range_with_len 0 f.arity);
    terms = λ u j. terms u (in_either u (map var (range_with_len 0 f.arity)) (element e ∷ []) j);
  }
    where
      terms : (u : Tree) → (u ∈ map var (range_with_len 0 f.arity)) ⊎ (u ∈ (element e ∷ [])) → IsFlatTerm k u
      terms u (inl j) = let (v, m, q) = from_map var u (range_with_len 0 f.arity) j in transport (IsFlatTerm k) q tt
      terms u (inr (inl q)) = transport (IsFlatTerm k) (sym q) (e, h, refl)
      terms u (inr (inr j)) = absurd j

  flat_function : (f : Sym) → f ∈ functions_of cs → (c : TreeClause) → c ∈ function_clauses k (numbers_of cs) f → HasFlatAtoms c
  flat_function f i c (inl q) l j =
      let (e, m, r) = from_map (value_literal (function_predicate (numbers_of cs) f) f.arity true) l (range_with_len 1 k) (transport (λ (d : TreeClause). l ∈ d) q j) in
      let (low, high) = from_range 1 k e m in
      transport (λ (m : Signed Tree). IsFlatAtom k P m.atom) r (flat_value f i true e (omega arith))
  flat_function f i c (inr n) l j =
      let (d, m, o) = from_flat_map (λ d. map (unique_clause (function_predicate (numbers_of cs) f) f.arity d) (range_with_len (d + 1) (k - d))) c (range_with_len 1 k) n in
      let (e, q, r) = from_map (unique_clause (function_predicate (numbers_of cs) f) f.arity d) c (range_with_len (d + 1) (k - d)) o in
      let (low, high) = from_range 1 k d m in
      let (above, below) = from_range (d + 1) (k - d) e q in
      both d e (omega arith) (omega arith) (transport (λ (x : TreeClause). l ∈ x) (sym r) j)
    where
      both : (d e : ℕ) → d ≤ k → e ≤ k → l ∈ unique_clause (function_predicate (numbers_of cs) f) f.arity d e → IsFlatAtom k P l.atom
      both d e g h (inl q) = transport (λ (m : Signed Tree). IsFlatAtom k P m.atom) (sym q) (flat_value f i false d g)
      both d e g h (inr (inl q)) = transport (λ (m : Signed Tree). IsFlatAtom k P m.atom) (sym q) (flat_value f i false e h)
      both d e g h (inr (inr n)) = absurd n

  only_variables : (ps us : List Tree) (u : Tree) → u ∈ map (stands_for ps) us → IsFlatTerm k u
  only_variables ps us u i = let (t, j, q) = from_map (stands_for ps) u us i in transport (IsFlatTerm k) q tt

  module _ (c : TreeClause) (i : c ∈ cs) where
    flat_denial : (t : Tree) → t ∈ clause_parts c → HasFlatAtoms (value_denial (numbers_of cs) (clause_parts c) t)
    flat_denial (var v) j l m = absurd m
    flat_denial (app f us) j l (inr m) = absurd m
    flat_denial (app f us) j l (inl q) =
        let term = part_of_clause (IsOwnFunction cs) (IsOwnPredicate cs) c (own_atoms cs formed c i) (app f us) j in
        transport (λ (m : Signed Tree). IsFlatAtom k P m.atom) (sym q) (record {
          symbol = function_predicate (numbers_of cs) f;
          arguments = map (stands_for (clause_parts c)) (to_list us) ++ stands_for (clause_parts c) (app f us) ∷ [];
          atom = refl;
          kind = refl;
          known = of_function f term.0;
          count = length-append (map (stands_for (clause_parts c)) (to_list us)) (stands_for (clause_parts c) (app f us) ∷ [])
              ∙ ap (λ n. n + 1) (length_map (stands_for (clause_parts c)) (to_list us) ∙ length_to_list us ∙ term.1);
          terms = λ u n. elim (in_either u (map (stands_for (clause_parts c)) (to_list us)) (stands_for (clause_parts c) (app f us) ∷ []) n) [
            | inl o ↦ only_variables (clause_parts c) (to_list us) u o
            | inr o ↦ elim o [ inl e ↦ transport (IsFlatTerm k) (sym e) tt | inr o ↦ absurd o ]
          ];
        })

    flat_own : (t : Tree) → IsAtomOver (IsOwnPredicate cs) (IsOwnFunction cs) t → IsFlatAtom k P (flat_atom (numbers_of cs) (clause_parts c) t)
    flat_own (var v) h = absurd h
    flat_own (app p us) h = by_kind p.kind refl
      where
        arguments_of : (q : Sym) → q.kind ≡ Predicate → P q → q.arity ≡ p.arity → IsFlatAtom k P (applied q (map (stands_for (clause_parts c)) (to_list us)))
        arguments_of q e known arity = record {
          symbol = q;
          arguments = map (stands_for (clause_parts c)) (to_list us);
          atom = refl;
          kind = e;
          known = known;
          count = length_map (stands_for (clause_parts c)) (to_list us) ∙ length_to_list us ∙ h.1 ∙ sym arity;
          terms = only_variables (clause_parts c) (to_list us);
        }

        by_kind : (kind : Kind) → p.kind ≡ kind → IsFlatAtom k P (applied (predicate_for (numbers_of cs) kind p) (map (stands_for (clause_parts c)) (to_list us)))
        by_kind Predicate e = arguments_of (numbered_predicate (numbers_of cs) p) refl (of_predicate p (h.0.1 (ap is_predicate_kind e))) refl
        by_kind Equality e =
            let two = ap (λ (j : Kind). fits_kind j p.name p.arity) (sym e) ∙ h.0.0.1 in
            arguments_of identity refl of_identity (sym ((Decides-eqb p.arity 2).0 (and_right _ (nat_eq p.arity 2) two)))
        by_kind Function e = absurd (false≢true (ap (λ (j : Kind). not (is_function_kind j)) (sym e) ∙ h.0.0.0))

    flat_of_clause : HasFlatAtoms (flat_clause (numbers_of cs) c)
    flat_of_clause l j = elim (in_either l (flat_map (value_denial (numbers_of cs) (clause_parts c)) (clause_parts c)) (map (flat_literal (numbers_of cs) (clause_parts c)) c) j) [
      | inl m ↦ let (t, n, o) = from_flat_map (value_denial (numbers_of cs) (clause_parts c)) l (clause_parts c) m in flat_denial t n l o
      | inr m ↦
          let (d, n, e) = from_map (flat_literal (numbers_of cs) (clause_parts c)) l c m in
          transport (λ (x : Signed Tree). IsFlatAtom k P x.atom) e (flat_own d.atom (own_atoms cs formed c i d n))
    ]

  flat_of_plain : (c : TreeClause) → c ∈ plain_clauses k cs → HasFlatAtoms c
  flat_of_plain c i =
      elim (in_either c (identity_clauses k ++ flat_map (function_clauses k (numbers_of cs)) (functions_of cs)) (map (flat_clause (numbers_of cs)) cs) i) [
        | inl j ↦ elim (in_either c (identity_clauses k) (flat_map (function_clauses k (numbers_of cs)) (functions_of cs)) j) [
          | inl m ↦
              let (d, n, o) = from_flat_map (λ (d : ℕ). map (identity_clause d) (range_with_len 1 k)) c (range_with_len 1 k) m in
              let (e, q, r) = from_map (identity_clause d) c (range_with_len 1 k) o in
              let (low, high) = from_range 1 k d n in
              let (above, below) = from_range 1 k e q in
              transport HasFlatAtoms r (flat_identity d e (omega arith) (omega arith))
          | inr m ↦ let (f, n, o) = from_flat_map (function_clauses k (numbers_of cs)) c (functions_of cs) m in flat_function f n c o
        ]
        | inr j ↦ let (d, m, e) = from_map (flat_clause (numbers_of cs)) c cs j in transport HasFlatAtoms e (flat_of_clause d m)
      ]

  renamed_term : (order : List ℕ) (u : Tree) → IsFlatTerm k u → IsFlatTerm k (subst (numbered order) u)
  renamed_term order (var v) h = tt
  renamed_term order (app s us) (e, h, q) = transport (IsFlatTerm k) (sym (ap (subst (numbered order)) q)) (e, h, refl)

  renamed_atom : (order : List ℕ) (t : Tree) → IsFlatAtom k P t → IsFlatAtom k P (subst (numbered order) t)
  renamed_atom order t h = record {
    symbol = h.symbol;
    arguments = map (subst (numbered order)) h.arguments;
    atom = ap (subst (numbered order)) h.atom ∙ ap (app h.symbol) (substs_of_list (numbered order) h.arguments);
    kind = h.kind;
    known = h.known;
    count = length_map (subst (numbered order)) h.arguments ∙ h.count;
    terms = λ u i. let (v, j, e) = from_map (subst (numbered order)) u h.arguments i in transport (IsFlatTerm k) e (renamed_term order v (h.terms v j));
  }

  flat_atoms : (c : TreeClause) → c ∈ flattened k cs → HasFlatAtoms c
  flat_atoms c i l j =
      let (d, m, e) = from_map canonical_form c (plain_clauses k cs) i in
      let (h, n, q) = from_instance (numbered (order_of d)) l d (transport (λ (x : TreeClause). l ∈ x) (sym e) j) in
      transport (λ (x : Signed Tree). IsFlatAtom k P x.atom) q (renamed_atom (order_of d) h.atom (flat_of_plain d m h n))

-- What flat atoms are

module _ (k : ℕ) (P : Sym → Type 0) where
  formed_term : (u : Tree) → IsFlatTerm k u → tree_is_formed u ≡ true
  formed_term (var v) h = refl
  formed_term (app s us) (e, h, q) = ap tree_is_formed q

  formed_terms : (us : List Tree) → ((u : Tree) → u ∈ us → IsFlatTerm k u) → trees_are_formed (of_list us) ≡ true
  formed_terms [] h = refl
  formed_terms (u ∷ us) h = and_both (tree_is_formed u) _ (formed_term u (h u (inl refl))) (formed_terms us (λ t i. h t (inr i)))

  formed_atom : (t : Tree) → IsFlatAtom k P t → atom_is_formed t ≡ true
  formed_atom t h = ap atom_is_formed h.atom ∙ whole
    where
      whole : atom_is_formed (applied h.symbol h.arguments) ≡ true
      whole =
          and_both (not (is_function_kind h.symbol.kind)) _ (ap (λ (j : Kind). not (is_function_kind j)) h.kind)
          (and_both (symbol_is_formed h.symbol) _ (ap (λ (j : Kind). fits_kind j h.symbol.name h.symbol.arity) h.kind)
          (and_both (nat_eq (count_of (of_list h.arguments)) h.symbol.arity) _ ((Decides-eqb (count_of (of_list h.arguments)) h.symbol.arity).1 (count_of_list h.arguments ∙ h.count)) (formed_terms h.arguments h.terms)))

  applies_term : (u : Tree) → IsFlatTerm k u → tree_applies u ≡ false
  applies_term (var v) h = refl
  applies_term (app s us) (e, h, q) = ap tree_applies q

  apply_terms : (us : List Tree) → ((u : Tree) → u ∈ us → IsFlatTerm k u) → trees_apply (of_list us) ≡ false
  apply_terms [] h = refl
  apply_terms (u ∷ us) h = λ i. applies_term u (h u (inl refl)) i || apply_terms us (λ t j. h t (inr j)) i

  applies_atom : (t : Tree) → IsFlatAtom k P t → tree_applies t ≡ false
  applies_atom t h =
      ap tree_applies h.atom ∙ (λ i. ((is_function_kind (h.kind i) && not (nat_eq h.symbol.arity 0)) || apply_terms h.arguments h.terms i))

  no_equality_in_term : (u : Tree) → IsFlatTerm k u → (f : Sym) → f ∈ tree_symbols u → is_equality_kind f.kind ≡ false
  no_equality_in_term (var v) h f i = absurd i
  no_equality_in_term (app s us) (e, h, q) f i = only (transport (λ t. f ∈ tree_symbols t) q i)
    where
      only : f ∈ tree_symbols (element e) → is_equality_kind f.kind ≡ false
      only (inl q) = ap (λ (g : Sym). is_equality_kind g.kind) q
      only (inr i) = absurd i

  no_equality_in_terms : (us : List Tree) → ((u : Tree) → u ∈ us → IsFlatTerm k u) → (f : Sym) → f ∈ trees_symbols (of_list us) → is_equality_kind f.kind ≡ false
  no_equality_in_terms [] h f i = absurd i
  no_equality_in_terms (u ∷ us) h f i = elim (in_either f (tree_symbols u) (trees_symbols (of_list us)) i) [
    | inl j ↦ no_equality_in_term u (h u (inl refl)) f j
    | inr j ↦ no_equality_in_terms us (λ t m. h t (inr m)) f j
  ]

  no_equality_in_atom : (t : Tree) → IsFlatAtom k P t → (f : Sym) → f ∈ tree_symbols t → is_equality_kind f.kind ≡ false
  no_equality_in_atom t h f i = either (transport (λ u. f ∈ tree_symbols u) h.atom i)
    where
      either : (f ≡ h.symbol) ⊎ (f ∈ trees_symbols (of_list h.arguments)) → is_equality_kind f.kind ≡ false
      either (inl e) = ap (λ (g : Sym). is_equality_kind g.kind) e ∙ ap is_equality_kind h.kind
      either (inr j) = no_equality_in_terms h.arguments h.terms f j

-- Names

lettered_readable : (letter n : ℕ) → is_between byte.space byte.tilde letter ≡ true → n < 2 ^ 64 → is_readable_name (letter ∷ decimal n) ≡ true
lettered_readable letter n h few = and_both (is_between byte.space byte.tilde letter) _ h (decimal_readable n few)

number_is_small : (ss : List Sym) (s : Sym) → s ∈ ss → length ss < 2 ^ 64 → number_of ss s < 2 ^ 64
number_is_small ss s i few = let below = position_below sym_eq sym_eq_decides s ss i in omega (arith, below)

abbrev pub IsReadablyNamed : Sym → Type 0
IsReadablyNamed s = is_readable_name s.name ≡ true

module _ (k : ℕ) (small : k < 2 ^ 64) where
  readable_term : (u : Tree) → IsFlatTerm k u → tree_is_readable u ≡ true
  readable_term (var v) h = refl
  readable_term (app s us) (e, h, q) = ap tree_is_readable q ∙ and_both (is_readable_name (codes "k" ++ decimal e)) true (lettered_readable 107 e refl (omega arith)) refl

  readable_terms : (us : List Tree) → ((u : Tree) → u ∈ us → IsFlatTerm k u) → trees_are_readable (of_list us) ≡ true
  readable_terms [] h = refl
  readable_terms (u ∷ us) h = and_both (tree_is_readable u) _ (readable_term u (h u (inl refl))) (readable_terms us (λ t i. h t (inr i)))

  readable_atom : (t : Tree) → IsFlatAtom k IsReadablyNamed t → tree_is_readable t ≡ true
  readable_atom t h =
      ap tree_is_readable h.atom
      ∙ and_both (kind_is_readable h.symbol.kind h.symbol.name) _ (ap (λ (j : Kind). kind_is_readable j h.symbol.name) h.kind ∙ h.known) (readable_terms h.arguments h.terms)

-- The laws

pub flattened_canonical : (k : ℕ) (cs : List TreeClause) → All IsCanonical (flattened k cs)
flattened_canonical k cs = in_all IsCanonical (flattened k cs) (λ c i. let (d, j, e) = from_map canonical_form c (plain_clauses k cs) i in transport IsCanonical e (canonical_of_canonical d))

abbrev Any_symbol : Sym → Type 0
Any_symbol s = Unit {0}

module _ (k : ℕ) (cs : List TreeClause) (formed : AreFormedClauses cs) where
  flat : (c : TreeClause) → c ∈ flattened k cs → (l : Signed Tree) → l ∈ c → IsFlatAtom k Any_symbol l.atom
  flat = flat_atoms k cs Any_symbol tt (λ f i. tt) (λ p i. tt) formed

  pub flattened_formed : AreFormedClauses (flattened k cs)
  flattened_formed = all_pass clause_is_formed (flattened k cs) (λ c i. all_pass (λ (l : Signed Tree). atom_is_formed l.atom) c (λ l j. formed_atom k Any_symbol l.atom (flat c i l j)))

  pub flattened_function_free : IsTrue (is_function_free (flattened k cs))
  flattened_function_free = ap not (none_passes clause_applies (flattened k cs) (λ c i. none_passes (λ (l : Signed Tree). tree_applies l.atom) c (λ l j. applies_atom k Any_symbol l.atom (flat c i l j))))

  no_equality : list_any (λ (s : Sym). is_equality_kind s.kind) (symbols_of (flattened k cs)) ≡ false
  no_equality = none_passes (λ (s : Sym). is_equality_kind s.kind) (symbols_of (flattened k cs)) (λ f i.
      let (c, j, m) = clause_of_symbol f (flattened k cs) (from_distinct sym_eq sym_eq_decides f (occurrences (flattened k cs)) i) in
      let (l, n, o) = literal_of_symbol f c m in
      no_equality_in_atom k Any_symbol l.atom (flat c j l n) f o)

  pub flattened_without_axioms : with_axioms (flattened k cs) ≡ flattened k cs
  flattened_without_axioms = let none_of : equality_axioms (flattened k cs) ≡ [] = rw no_equality refl in ap (λ ds. flattened k cs ++ ds) none_of ∙ append-nil (flattened k cs)

module _ (k : ℕ) (cs : List TreeClause) where
  pub flattened_readable : k < 2 ^ 64 → length (functions_of cs) < 2 ^ 64 → length (predicates_of cs) < 2 ^ 64 → AreFormedClauses cs → All (λ c. IsTrue (clause_is_readable c)) (flattened k cs)
  flattened_readable small few_functions few_predicates formed =
      in_all (λ c. IsTrue (clause_is_readable c)) (flattened k cs) (λ c i. all_pass (λ (l : Signed Tree). tree_is_readable l.atom) c (λ l j.
      readable_atom k small l.atom (flat_atoms k cs IsReadablyNamed refl
      (λ f m. lettered_readable 102 (number_of (functions_of cs) f) refl (number_is_small (functions_of cs) f m few_functions))
      (λ p m. lettered_readable 112 (number_of (predicates_of cs) p) refl (number_is_small (predicates_of cs) p m few_predicates)) formed c i l j)))

  as_many_names : (fs : List Sym) → length (flat_map (λ f. map (λ c. (function_predicate (numbers_of cs) f).name) (function_clauses k (numbers_of cs) f)) fs) ≡ length (flat_map (function_clauses k (numbers_of cs)) fs)
  as_many_names [] = refl
  as_many_names (f ∷ fs) =
      length-append (map (λ c. (function_predicate (numbers_of cs) f).name) (function_clauses k (numbers_of cs) f)) (flat_map (λ f. map (λ c. (function_predicate (numbers_of cs) f).name) (function_clauses k (numbers_of cs) f)) fs)
      ∙ ap₂ (λ m n. m + n) (length_map (λ c. (function_predicate (numbers_of cs) f).name) (function_clauses k (numbers_of cs) f)) (as_many_names fs)
      ∙ sym (length-append (function_clauses k (numbers_of cs) f) (flat_map (function_clauses k (numbers_of cs)) fs))

  pub names_count : (names : List (List ℕ)) → length names ≡ length cs → length (flattened_names k cs names) ≡ length (flattened k cs)
  names_count names e =
      length-append (map (λ c. codes "id") (identity_clauses k) ++ flat_map (λ f. map (λ c. (function_predicate (numbers_of cs) f).name) (function_clauses k (numbers_of cs) f)) (functions_of cs)) names
      ∙ ap₂ (λ m n. m + n)
      (length-append (map (λ c. codes "id") (identity_clauses k)) (flat_map (λ f. map (λ c. (function_predicate (numbers_of cs) f).name) (function_clauses k (numbers_of cs) f)) (functions_of cs))
      ∙ ap₂ (λ m n. m + n) (length_map (λ c. codes "id") (identity_clauses k)) (as_many_names (functions_of cs))
      ∙ sym (length-append (identity_clauses k) (flat_map (function_clauses k (numbers_of cs)) (functions_of cs))))
      (e ∙ sym (length_map (flat_clause (numbers_of cs)) cs))
      ∙ sym (length-append (identity_clauses k ++ flat_map (function_clauses k (numbers_of cs)) (functions_of cs)) (map (flat_clause (numbers_of cs)) cs))
      ∙ sym (length_map canonical_form (plain_clauses k cs))

  pub names_readable : (names : List (List ℕ)) → length (functions_of cs) < 2 ^ 64 → All (λ n. IsTrue (is_readable_name n)) names → All (λ n. IsTrue (is_readable_name n)) (flattened_names k cs names)
  names_readable names few h = in_all (λ n. IsTrue (is_readable_name n)) (flattened_names k cs names) (λ n i.
      elim (in_either n (map (λ c. codes "id") (identity_clauses k) ++ flat_map (λ f. map (λ c. (function_predicate (numbers_of cs) f).name) (function_clauses k (numbers_of cs) f)) (functions_of cs)) names i) [
        | inr j ↦ all_in (λ n. IsTrue (is_readable_name n)) names h n j
        | inl j ↦ elim (in_either n (map (λ c. codes "id") (identity_clauses k)) (flat_map (λ f. map (λ c. (function_predicate (numbers_of cs) f).name) (function_clauses k (numbers_of cs) f)) (functions_of cs)) j) [
          | inl m ↦ let (c, o, e) = from_map (λ c. codes "id") n (identity_clauses k) m in ap is_readable_name (sym e)
          | inr m ↦
              let (f, o, q) = from_flat_map (λ f. map (λ c. (function_predicate (numbers_of cs) f).name) (function_clauses k (numbers_of cs) f)) n (functions_of cs) m in
              let (c, r, e) = from_map (λ c. (function_predicate (numbers_of cs) f).name) n (function_clauses k (numbers_of cs) f) q in
              ap is_readable_name (sym e) ∙ lettered_readable 102 (number_of (functions_of cs) f) refl (number_is_small (functions_of cs) f o few)
        ]
      ])
