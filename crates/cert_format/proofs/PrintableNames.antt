-- What is named in a certificate can be printed where its clauses can: the terms are parts of literals, and the clauses of covers
-- are instances under most general unifiers.
use Rattle.std.proofs.Common.{◌≡◌, ℕ, zero, suc, ◌+◌, ◌<◌, List, [], ◌∷◌, ◌⊎◌, inl, inr, refl, sym, ap, ◌∙◌, subst as transport, Bool, true, false, cond, not, Option, Some, None, length, length-append, get_or, nat_eq, Decides, arith}
use Rattle.std.specs.Prelude.{All, IsTrue, slice_get}
use Rattle.std.specs.List.{list_all}
use Rattle.std.specs.Str.{bytes_eq}
use Rattle.std.proofs.lemmas.Bool.{and_parts, and_from}
use Rattle.std.proofs.lemmas.Bool.Decides.{Decides-eqb, nat_tests}
use Rattle.std.proofs.lemmas.List.{get_or_default}
use Rattle.inst_logic.specs.declared.symbol.Sym.{Sym}
use Rattle.inst_logic.specs.declared.symbol.Kind.{Kind}
use Rattle.inst_logic.specs.declared.symbol.Kind.TheVariants.{Predicate, Equality, Function}
use Rattle.inst_logic.specs.declared.signed.Signed.{Signed}
use Rattle.inst_logic.specs.Tree.{Tree, var, app, Trees, none, more}
use Rattle.inst_logic.specs.WellFormed.{count_of, is_function_kind}
use Rattle.inst_logic.specs.Substitution.{Substitution, subst, substs, subst_literal, tree_vars, trees_vars, clause_vars}
use Rattle.inst_logic.specs.Clauses.{TreeClause, instance, order_of, IsCanonical, IsPart}
use Rattle.inst_logic.specs.Readable.{tree_fits, trees_fit, clause_fits}
use Rattle.inst_logic.specs.Printing.{is_readable_name}
use Rattle.inst_logic.specs.Derivations.{at_number}
use Rattle.inst_logic.proofs.Items.{lists_equal}
use Rattle.inst_logic.proofs.Numbers.{number_is}
use Rattle.inst_logic.proofs.ShownLaws.{at_number_contains}
use Rattle.inst_calculus.specs.Axioms.{equality_axioms, with_axioms}
use Rattle.inst_calculus.specs.Entries.{Entry}
use Rattle.inst_calculus.specs.Models.{SelectedClause}
use Rattle.inst_calculus.proofs.Membership.{◌∈◌, contains_in, in_all, all_in, passes, all_pass, in_either, equal_in}
use Rattle.inst_logic.proofs.Membership.{get_or_in}
use Rattle.inst_calculus.proofs.Distinct.{IsDistinct, distinct_is_distinct, place, from_distinct}
use Rattle.inst_calculus.proofs.Terms.{IsTermOver, AreTermsOver, IsAtomOver}
use Rattle.inst_calculus.proofs.Unify.{most_general_terms}
use Rattle.inst_calculus.proofs.Instances.{HasAtomsOver, instance_over, canonical_over}
use Rattle.inst_calculus.proofs.CanonicalForms.{canonical_of_canonical}
use Rattle.inst_calculus.proofs.Clauses.{literal_of, part_within}
use Rattle.cert_format.specs.Certificate.{Base, FirstRefutation, GroundLine, Refutation, By, by_tautology, by_variant, by_part, Cover, Covered, first_refutation, refutation, saturation, covered}
use Rattle.cert_format.specs.Selected.{SelectsAt}
use Rattle.cert_format.specs.TermLists.{in_order, instance_in_order, IsPartBy}
use Rattle.cert_format.specs.LineMachine.{clause_eq}
use Rattle.cert_format.specs.Spelling.{is_printable, are_printable}
use Rattle.cert_format.specs.Formats.{symbol_is_printable, atom_is_printable, clause_is_printable}
use Rattle.cert_format.specs.Printable.{IsPrintableBase, IsPrintableStep, ArePrintableTerms, IsPrintableLine, IsPrintableBy, IsPrintableCover, IsPrintable, LinesFit, CoverFits, CoveredFits}
use Rattle.inst_logic.specs.WellFormed.{is_constant}
use Rattle.inst_calculus.specs.Steps.{Step}
use Rattle.inst_calculus.proofs.Membership.{in_map}
use Rattle.inst_calculus.proofs.Instances.{part_of_itself}
use Rattle.cert_format.specs.TermLists.{Justifies, HoldsBy}
use Rattle.cert_format.specs.Dues.{Due, pairs, AreDueOfSide, AreDueOfPair, apart, meeting, AreDue}
use Rattle.cert_format.specs.Upgrades.{IsUpgrade}
use Rattle.cert_format.specs.Validity.{JustifiesAt, CoversAt, IsRightAxiom, IsValidRefutation, IsNamed}
use Rattle.cert_format.specs.declared.complaint.Complaint.TheVariants.{Axiom, Ground, Input, Cover as Named}
use Rattle.cert_format.proofs.Numbers.{in_slice_get}
use Rattle.cert_format.proofs.DueLists.{of_left, of_right, dues_exist, due_from}
use Rattle.cert_format.proofs.Upgrades.{upgrade_is_valid}
use Rattle.cert_format.proofs.Writables.{IsWritableEntry, IsWritableBase, IsWritableRefutation, IsWritableSaturation, writable}
use Rattle.cert_format.proofs.ClauseForms.{IsWritableClause}
use Rattle.cert_format.proofs.Formats.{test_is, test_yes}
use Rattle.cert_format.proofs.LineMachine.{clause_eq_itself}

-- ---- symbols that can be printed

abbrev IsPrintedFunction : Sym → Type 0
IsPrintedFunction f = (is_function_kind f.kind ≡ true) × (is_readable_name f.name ≡ true)

abbrev IsPrintedPredicate : Sym → Type 0
IsPrintedPredicate p = symbol_is_printable p.kind p.name p.arity p.arity ≡ true

abbrev IsPrintedClause : TreeClause → Type 0
IsPrintedClause c = HasAtomsOver IsPrintedPredicate IsPrintedFunction c

same : (n : ℕ) → nat_eq n n ≡ true
same n = grind (arith, nat_tests)

mutual
  term_over : (t : Tree) → is_printable t ≡ true → IsTermOver IsPrintedFunction t
  term_over (var n) h = tt
  term_over (app s ts) h =
      let a = and_parts (is_function_kind s.kind) _ h in
      let b = and_parts (is_readable_name s.name) _ a.1 in
      let c = and_parts (nat_eq (count_of ts) s.arity) (are_printable ts) b.1 in
      ((a.0, b.0), number_is (count_of ts) s.arity c.0, terms_over ts c.1)

  terms_over : (ts : Trees) → are_printable ts ≡ true → AreTermsOver IsPrintedFunction ts
  terms_over none h = tt
  terms_over (more t ts) h = let a = and_parts (is_printable t) (are_printable ts) h in (term_over t a.0, terms_over ts a.1)

mutual
  over_term : (t : Tree) → IsTermOver IsPrintedFunction t → tree_fits t ≡ true → is_printable t ≡ true
  over_term (var n) h f = f
  over_term (app s ts) h f =
      and_from (is_function_kind s.kind) _ h.0.0 (and_from (is_readable_name s.name) _ h.0.1 (and_from (nat_eq (count_of ts) s.arity) (are_printable ts) (ap (λ n. nat_eq n s.arity) h.1 ∙ same s.arity) (over_terms ts h.2 f)))

  over_terms : (ts : Trees) → AreTermsOver IsPrintedFunction ts → trees_fit ts ≡ true → are_printable ts ≡ true
  over_terms none h f = refl
  over_terms (more t ts) h f = let a = and_parts (tree_fits t) (trees_fit ts) f in and_from (is_printable t) (are_printable ts) (over_term t h.0 a.0) (over_terms ts h.1 a.1)

-- as many arguments as the symbol takes
counted : (k : Kind) (name : List ℕ) (arity count : ℕ) → symbol_is_printable k name arity count ≡ true → (count ≡ arity) × (symbol_is_printable k name arity arity ≡ true)
counted Predicate name arity count h = let a = and_parts (is_readable_name name) (nat_eq count arity) h in (number_is count arity a.1, and_from (is_readable_name name) _ a.0 (same arity))
counted Equality name arity count h =
    let a = and_parts (bytes_eq name (61 ∷ [])) _ h in
    let b = and_parts (nat_eq arity 2) (nat_eq count 2) a.1 in
    (number_is count 2 b.1 ∙ sym (number_is arity 2 b.0), and_from (bytes_eq name (61 ∷ [])) _ a.0 (and_from (nat_eq arity 2) (nat_eq arity 2) b.0 b.0))
counted Function name arity count h = absurd cc

atom_over : (t : Tree) → atom_is_printable t ≡ true → IsAtomOver IsPrintedPredicate IsPrintedFunction t
atom_over (var n) h = absurd cc
atom_over (app s ts) h =
    let a = and_parts (symbol_is_printable s.kind s.name s.arity (count_of ts)) (are_printable ts) h in
    let b = counted s.kind s.name s.arity (count_of ts) a.0 in
    (b.1, b.0, terms_over ts a.1)

over_atom : (t : Tree) → IsAtomOver IsPrintedPredicate IsPrintedFunction t → tree_fits t ≡ true → atom_is_printable t ≡ true
over_atom (var n) h f = absurd h
over_atom (app s ts) h f =
    and_from (symbol_is_printable s.kind s.name s.arity (count_of ts)) (are_printable ts) (ap (symbol_is_printable s.kind s.name s.arity) h.1 ∙ h.0) (over_terms ts h.2 f)

clause_over : (c : TreeClause) → clause_is_printable c ≡ true → IsPrintedClause c
clause_over c h l i = atom_over l.atom (passes (λ (k : Signed Tree). atom_is_printable k.atom) c (and_parts (list_all (λ (k : Signed Tree). atom_is_printable k.atom) c) _ h).0 l i)

over_clause : (c : TreeClause) → IsPrintedClause c → clause_fits c ≡ true → IsCanonical c → clause_is_printable c ≡ true
over_clause c h f k =
    and_from (list_all (λ (l : Signed Tree). atom_is_printable l.atom) c) _
    (all_pass (λ (l : Signed Tree). atom_is_printable l.atom) c (λ l i. over_atom l.atom (h l i) (passes (λ (m : Signed Tree). tree_fits m.atom) c f l i)))
    (transport (λ (d : TreeClause). clause_eq d c ≡ true) (sym k) (clause_eq_itself c))

-- ---- terms that are parts of literals

mutual
  inside_term : (s : Substitution) (v : ℕ) (t : Tree) → v ∈ tree_vars t → is_printable (subst s t) ≡ true → is_printable (s v) ≡ true
  inside_term s v (var w) (inl e) h = transport (λ (x : ℕ). is_printable (s x) ≡ true) (sym e) h
  inside_term s v (var w) (inr i) h = absurd i
  inside_term s v (app f ts) i h =
      let a = and_parts (is_function_kind f.kind) _ h in
      let b = and_parts (is_readable_name f.name) _ a.1 in
      let c = and_parts (nat_eq (count_of (substs s ts)) f.arity) (are_printable (substs s ts)) b.1 in
      inside_terms s v ts i c.1

  inside_terms : (s : Substitution) (v : ℕ) (ts : Trees) → v ∈ trees_vars ts → are_printable (substs s ts) ≡ true → is_printable (s v) ≡ true
  inside_terms s v none i h = absurd i
  inside_terms s v (more t ts) i h =
      let a = and_parts (is_printable (subst s t)) (are_printable (substs s ts)) h in
      elim (in_either v (tree_vars t) (trees_vars ts) i) [ inl j ↦ inside_term s v t j a.0 | inr j ↦ inside_terms s v ts j a.1 ]

inside_atom : (s : Substitution) (v : ℕ) (t : Tree) → IsAtomOver IsPrintedPredicate IsPrintedFunction t → v ∈ tree_vars t → atom_is_printable (subst s t) ≡ true → is_printable (s v) ≡ true
inside_atom s v (var w) o i h = absurd o
inside_atom s v (app p ts) o i h = inside_terms s v ts i (and_parts _ (are_printable (substs s ts)) h).1

-- the place of an item of a list without repeats
place_of_item : (vs : List ℕ) → IsDistinct vs → (k : ℕ) → k < length vs → place (get_or vs k 0) vs ≡ k
place_of_item [] d k l = absurd (omega arith)
place_of_item (w ∷ vs) d zero l = ap (λ (b : Bool). cond (not b) (1 + place w vs) 0) (same w)
place_of_item (w ∷ vs) d (suc k) l = go (nat_eq w (get_or vs k 0)) (Decides-eqb w (get_or vs k 0)) (place_of_item vs d.1 k (omega arith)) (get_or_in vs k 0 (omega arith))
  where
    go : (b : Bool) → Decides b (w ≡ get_or vs k 0) → place (get_or vs k 0) vs ≡ k → get_or vs k 0 ∈ vs → cond (not b) (1 + place (get_or vs k 0) vs) 0 ≡ suc k
    go true e rest i = absurd (d.0 (equal_in (get_or vs k 0) w vs (sym (e.0 refl)) i))
    go false e rest i = omega arith

-- terms by which a clause is a part of a printable one can be printed
pub part_terms_printable : (e d : TreeClause) (ts : List Tree) → IsPrintedClause e → clause_is_printable d ≡ true → IsPartBy e d ts → ArePrintableTerms ts
part_terms_printable e d ts over printable h k x l =
    let order = order_of e in
    let v = get_or order k 0 in
    let below : k < length order = (let a = h.each in omega arith) in
    let i : v ∈ clause_vars e = from_distinct nat_eq Decides-eqb v (clause_vars e) (get_or_in order k 0 below) in
    let (m, j, w) = literal_of v e i in
    let s = in_order order ts in
    let there : subst_literal s m ∈ d = part_within s e d h.within m j in
    let atom = passes (λ (n : Signed Tree). atom_is_printable n.atom) d (and_parts (list_all (λ (n : Signed Tree). atom_is_printable n.atom) d) _ printable).0 (subst_literal s m) there in
    let one : is_printable (s v) ≡ true = inside_atom s v m.atom (over m j) w atom in
    let at : place v order ≡ k = place_of_item order (distinct_is_distinct nat_eq Decides-eqb (clause_vars e)) k below in
    transport (λ (t : Tree). is_printable t ≡ true) (ap (λ (n : ℕ). get_or ts n (var v)) at ∙ get_or_default ts k (var v) x l) one

-- ---- saturations that name their covers

same_length : (es : List Entry) (ds : List TreeClause) (bs : List By) → ((k : ℕ) → JustifiesAt es (slice_get ds k) (slice_get bs k)) → length bs ≡ length ds
same_length es [] [] h = refl
same_length es [] (b ∷ bs) h = absurd (h 0)
same_length es (d ∷ ds) [] h = absurd (h 0)
same_length es (d ∷ ds) (b ∷ bs) h = ap suc (same_length es ds bs (λ k. h (suc k)))

-- the inputs and axioms of a printable base whose axioms are right
base_printed : (b : Base) → IsWritableBase b → ((n : ℕ) → IsRightAxiom b n) → (d : TreeClause) → d ∈ with_axioms b.inputs → clause_is_printable d ≡ true
base_printed b w right d i = elim (in_either d b.inputs (equality_axioms b.inputs) i) [
  | inl j ↦ test_is d (all_in IsWritableClause b.inputs w.inputs d j)
  | inr j ↦ test_is d (all_in IsWritableClause b.axioms w.axioms d (transport (λ (cs : List TreeClause). d ∈ cs) (sym (lists_equal b.axioms (equality_axioms b.inputs) right)) j))
]

module _ (f : ℕ) (c : Covered) (named : IsNamed c) (p : IsPrintable f (saturation c.saturation)) (fits : CoveredFits c) where
  abbrev base : Base
  base = c.saturation.base

  w : IsWritableSaturation c.saturation
  w = writable (saturation c.saturation) p.parts p.numbers

  input_printed : (d : TreeClause) → d ∈ with_axioms base.inputs → clause_is_printable d ≡ true
  input_printed = base_printed base w.base (λ n. named (Axiom n))

  member_over : (j : ℕ) (e : Entry) → at_number base.members j ≡ Some e → IsPrintedClause e.clause
  member_over j e at = clause_over e.clause (test_is e.clause (all_in IsWritableEntry base.members w.base.members e (contains_in e base.members (at_number_contains base.members j e at))).clause)

  shown_printable : (b : By) → b ∈ c.shown → IsPrintableBy b
  shown_printable b i =
      let (k, at) = in_slice_get b c.shown i in
      go k (slice_get (with_axioms base.inputs) k) refl b (transport (λ (o : Option By). JustifiesAt base.members (slice_get (with_axioms base.inputs) k) o) at (named (Input (suc k))))
    where
      go : (k : ℕ) (o : Option TreeClause) → slice_get (with_axioms base.inputs) k ≡ o → (x : By) → JustifiesAt base.members (slice_get (with_axioms base.inputs) k) (Some x) → IsPrintableBy x
      go k None e x h = absurd (transport (λ (o : Option TreeClause). JustifiesAt base.members o (Some x)) e h)
      go k (Some d) e x h = by x (transport (λ (o : Option TreeClause). JustifiesAt base.members o (Some x)) e h)
        where
          by : (y : By) → Justifies base.members d y → IsPrintableBy y
          by by_tautology z = tt
          by (by_variant j) z = tt
          by (by_part j ts) (x, here, q) =
              part_terms_printable x.clause d ts (member_over j x here) (input_printed d (contains_in d (with_axioms base.inputs) (at_number_contains (with_axioms base.inputs) (suc k) d e))) q

  -- the selected literal of a member, and its clause
  selected_over : (n : ℕ) (m : SelectedClause) → SelectsAt c.saturation n m → IsPrintedClause m.clause × IsAtomOver IsPrintedPredicate IsPrintedFunction m.selected.atom
  selected_over n m h =
      let over = member_over n h.entry h.entry_at in (
        transport IsPrintedClause (sym h.clause) over,
        over m.selected (contains_in m.selected h.entry.clause (at_number_contains h.entry.clause h.place m.selected h.selected)),
      )

  due_printed : (ds : List Due) → AreDue c.saturation ds → (d : Due) → d ∈ ds → IsPrintedClause d.clause × IsCanonical d.clause
  due_printed ds due d i =
      let (q, here, k, a, j) = due_from c.saturation (pairs 1 (length base.members)) ds due d i in
      by_pair q.0 q.1 here a j
    where
      by_pair : (left right : ℕ) (here : List Due) → AreDueOfPair c.saturation left right here → d ∈ here → IsPrintedClause d.clause × IsCanonical d.clause
      by_pair left right here (apart x e) j = absurd (transport (λ (xs : List Due). d ∈ xs) e j)
      by_pair left right here (meeting m n u v o s g ls rs x y e) j =
          elim (in_either d ls rs (transport (λ (xs : List Due). d ∈ xs) e j)) [ inl z ↦ on_left x z | inr z ↦ on_right y z ]
        where
          terms : (a : ℕ) → IsTermOver IsPrintedFunction (s.left a) × IsTermOver IsPrintedFunction (s.right a)
          terms = most_general_terms IsPrintedPredicate IsPrintedFunction m.selected.atom n.selected.atom (selected_over left m u).1 (selected_over right n v).1 s g

          of_due : (b : Due) → d ≡ b → IsPrintedClause b.clause → IsCanonical b.clause → IsPrintedClause d.clause × IsCanonical d.clause
          of_due b e over canonical_ = (transport (λ (t : Due). IsPrintedClause t.clause) (sym e) over, transport (λ (t : Due). IsCanonical t.clause) (sym e) canonical_)

          on_left : AreDueOfSide (of_left left right m s) s.left m.selected.atom ls → d ∈ ls → IsPrintedClause d.clause × IsCanonical d.clause
          on_left (inl (r, e)) z = elim (transport (λ (xs : List Due). d ∈ xs) e z) [
            | inl t ↦ of_due (of_left left right m s) t
                (canonical_over IsPrintedPredicate IsPrintedFunction (instance s.left m.clause) (instance_over IsPrintedPredicate IsPrintedFunction s.left m.clause (λ a. (terms a).0) (selected_over left m u).0)) (canonical_of_canonical (instance s.left m.clause))
            | inr t ↦ absurd t
          ]
          on_left (inr (r, e)) z = absurd (transport (λ (xs : List Due). d ∈ xs) e z)

          on_right : AreDueOfSide (of_right left right n s) s.right n.selected.atom rs → d ∈ rs → IsPrintedClause d.clause × IsCanonical d.clause
          on_right (inl (r, e)) z = elim (transport (λ (xs : List Due). d ∈ xs) e z) [
            | inl t ↦ of_due (of_right left right n s) t
                (canonical_over IsPrintedPredicate IsPrintedFunction (instance s.right n.clause) (instance_over IsPrintedPredicate IsPrintedFunction s.right n.clause (λ a. (terms a).1) (selected_over right n v).0)) (canonical_of_canonical (instance s.right n.clause))
            | inr t ↦ absurd t
          ]
          on_right (inr (r, e)) z = absurd (transport (λ (xs : List Due). d ∈ xs) e z)

  cover_printable : (v : Cover) → v ∈ c.covers → IsPrintableCover v
  cover_printable v i =
      let (k, at) = in_slice_get v c.covers i in
      let (ds, due) = dues_exist c.saturation in
      go ds due k (slice_get ds k) refl (transport (λ (o : Option Cover). CoversAt base.members (slice_get ds k) o) at (named (Named (suc k)) ds due))
    where
      by : (y : By) (d : TreeClause) (whole : TreeClause) → clause_is_printable d ≡ true → HoldsBy base.members whole d y → IsPrintableBy y
      by by_tautology d whole h z = tt
      by (by_variant j) d whole h z = tt
      by (by_part j ts) d whole h (x, here, l, q) = part_terms_printable x.clause d ts (member_over j x here) h q

      go : (ds : List Due) → AreDue c.saturation ds → (k : ℕ) (o : Option Due) → slice_get ds k ≡ o → CoversAt base.members (slice_get ds k) (Some v) → IsPrintableCover v
      go ds due k None e h = absurd (transport (λ (o : Option Due). CoversAt base.members o (Some v)) e h)
      go ds due k (Some d) e h =
          let z = transport (λ (o : Option Due). CoversAt base.members o (Some v)) e h in
          let (over, canonical_) = due_printed ds due d (contains_in d ds (at_number_contains ds (suc k) d e)) in
          let small = (all_in CoverFits c.covers fits.covers v i).clause in
          let printed : clause_is_printable v.clause ≡ true = over_clause v.clause (transport IsPrintedClause (sym z.clause) over) small (transport IsCanonical (sym z.clause) canonical_) in
          record { clause = (test_yes v.clause printed).printable; by = by v.by v.clause d.whole printed z.holds }

  -- what is named can be printed where the saturation can and the numbers of covers can be written
  pub named_is_printable : IsPrintable 3 (covered c)
  named_is_printable = record {
    known = refl;
    parts = record {
      saturation = p.parts;
      each = same_length base.members (with_axioms base.inputs) c.shown (λ k. named (Input (suc k))) ∙ length-append base.inputs (equality_axioms base.inputs)
          ∙ ap (λ (cs : List TreeClause). length base.inputs + length cs) (sym (lists_equal base.axioms (equality_axioms base.inputs) (λ n. named (Axiom n))));
      shown = in_all IsPrintableBy c.shown shown_printable;
      covers = in_all IsPrintableCover c.covers cover_printable;
    };
    numbers = fits;
  }

-- ---- refutations with their inputs and terms

module _ (c : FirstRefutation) (r : Refutation) (valid : IsValidRefutation c) (u : IsUpgrade c r) (p : IsPrintable 1 (first_refutation c)) (fits : LinesFit r) where
  v : IsWritableRefutation c
  v = writable (first_refutation c) p.parts p.numbers

  line_printable : (g : GroundLine) → g ∈ r.grounds → IsPrintableLine g
  line_printable g i =
      let (k, at) = in_slice_get g r.grounds i in
      let h = upgrade_is_valid c valid r u (Ground (suc k)) g at in
      let clause = all_in IsWritableClause c.grounds v.grounds g.clause (transport (λ (cs : List TreeClause). g.clause ∈ cs) u.clauses (in_map (λ (x : GroundLine). x.clause) g r.grounds i)) in
      let same_inputs : with_axioms r.base.inputs ≡ with_axioms c.base.inputs = ap (λ (b : Base). with_axioms b.inputs) u.base in
      let there : h.clause ∈ with_axioms c.base.inputs = transport (λ (cs : List TreeClause). h.clause ∈ cs) same_inputs (contains_in h.clause (with_axioms r.base.inputs) (at_number_contains (with_axioms r.base.inputs) g.input h.clause h.clause_at)) in
      let over = clause_over h.clause (base_printed c.base v.base (λ n. valid (Axiom n)) h.clause there) in
      let part : IsPartBy h.clause g.clause g.terms = record { each = h.each; within = transport (λ (d : TreeClause). IsPart (instance_in_order h.clause g.terms) d) (sym h.is) (part_of_itself (instance_in_order h.clause g.terms)) } in
      record { clause = clause.printable; terms = part_terms_printable h.clause g.clause g.terms over (test_is g.clause clause) part }

  -- an upgrade can be printed where the refutation can and the numbers of inputs can be written
  pub upgrade_is_printable : (f : ℕ) → (f ≡ 2) ⊎ (f ≡ 3) → IsPrintable f (refutation r)
  upgrade_is_printable f known = record {
    known = known;
    parts = record {
      base = transport IsPrintableBase (sym u.base) p.parts.base;
      constant = transport (λ (s : Sym). IsTrue (is_constant s)) (sym u.bot) p.parts.constant;
      bot_name = transport (λ (s : Sym). IsTrue (is_readable_name s.name)) (sym u.bot) p.parts.bot_name;
      grounds = in_all IsPrintableLine r.grounds line_printable;
      steps = transport (λ (xs : List (Step Tree)). All IsPrintableStep xs) (sym u.steps) p.parts.steps;
    };
    numbers = fits;
  }
