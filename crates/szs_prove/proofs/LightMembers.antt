-- The selected literals of a valid saturation of function-free clauses are light: their arguments are variables and constants.
use Rattle.std.proofs.Common.{◌≡◌, inl, inr, ℕ, zero, suc, ◌+◌, ◌-◌, ◌^◌, ◌<◌, ◌≤◌, List, length, map, sym, subst as transport, Some, arith, IsTrue, All, Contains}
use Rattle.std.proofs.lemmas.Bool.{cases_lt}
use Rattle.std.proofs.lemmas.List.{length-map}
use Rattle.std.proofs.lemmas.Option.{slice_get_within}
use Rattle.inst_logic.specs.declared.symbol.Kind.{Kind}
use Rattle.inst_logic.specs.declared.symbol.Kind.TheVariants.{Predicate, Equality, Function}
use Rattle.inst_logic.specs.declared.symbol.Sym.{Sym}
use Rattle.inst_logic.specs.declared.signed.Signed.{Signed}
use Rattle.inst_logic.specs.Tree.{Tree, var, app, Trees, none, more, to_list}
use Rattle.inst_logic.specs.Measure.{tree_weight, trees_weight, function_count, is_function_free}
use Rattle.inst_logic.specs.WellFormed.{count_of, AreFormedClauses}
use Rattle.inst_logic.specs.Clauses.{TreeClause, instance}
use Rattle.inst_logic.specs.Derivations.{at_number}
use Rattle.inst_logic.proofs.Membership.{◌∈◌, contains_in, in_all, in_contains}
use Rattle.inst_logic.proofs.ShownLaws.{at_number_contains}
use Rattle.inst_calculus.specs.Axioms.{occurrences, with_axioms}
use Rattle.inst_calculus.specs.Conclusions.{IsConclusion}
use Rattle.inst_calculus.specs.Entries.{Origin, input, inst, lemma, Entry}
use Rattle.inst_calculus.specs.Models.{SelectedClause}
use Rattle.inst_calculus.specs.Parts.{chosen}
use Rattle.inst_calculus.proofs.EqualityAxioms.{with_axioms_formed, with_axioms_function_free}
use Rattle.inst_calculus.proofs.Instances.{HasAtomsOver, canonical_over, instance_over}
use Rattle.inst_calculus.proofs.ProperParts.{chosen_literal}
use Rattle.inst_calculus.proofs.Terms.{IsTermOver, AreTermsOver, IsAtomOver}
use Rattle.inst_calculus.proofs.Unify.{most_general_terms}
use Rattle.inst_machine.proofs.FlatClauses.{IsConstantOf, IsFlatAtom, clauses_are_flat}
use Rattle.term_bank.specs.Forest.{arguments_of}
use Rattle.cert_format.specs.Certificate.{Base, Saturation, selected_at, selected_members}
use Rattle.cert_format.specs.Selected.{IsSelected}
use Rattle.cert_format.specs.Validity.{Gives, IsRightMember, SelectsAt}
use Rattle.cert_format.proofs.Members.{HoldsBefore, member_has}
use Rattle.cert_values.specs.declared.certificate.Saturation.{Saturation as Cert}
use Rattle.cert_values.specs.Values.{entry_of, saturation_of}

-- ---- the weight of a flat atom

one_at_most : (k : Kind) → function_count k ≤ 1
one_at_most Predicate = omega arith
one_at_most Equality = omega arith
one_at_most Function = omega arith

as_many : (ts : Trees) → length (to_list ts) ≡ count_of ts
as_many none = omega arith
as_many (more t ts) = omega (arith, as_many ts)

module _ (ss : List Sym) where
  term_weight : (t : Tree) → IsTermOver (IsConstantOf ss) t → tree_weight t ≤ 1
  term_weight (var v) h = omega arith
  term_weight (app f none) h = omega (arith, one_at_most f.kind)
  term_weight (app f (more t ts)) h = absurd (omega (arith, h.1, h.0.1))

  terms_weight : (ts : Trees) → AreTermsOver (IsConstantOf ss) ts → trees_weight ts ≤ count_of ts
  terms_weight none h = omega arith
  terms_weight (more t ts) h = omega (arith, term_weight t h.0, terms_weight ts h.1)

  pub atom_weight : (t : Tree) → IsFlatAtom ss t → tree_weight t ≤ length (arguments_of t) + 1
  atom_weight (var v) h = absurd h
  atom_weight (app p ts) h = omega (arith, terms_weight ts h.2, as_many ts, one_at_most p.kind)

-- ---- the members are over the symbols of the inputs and axioms

module _ (P G : Sym → Type 0) (base : Base) (atoms : (c : TreeClause) → c ∈ with_axioms base.inputs → HasAtomsOver P G c) where
  abbrev IsOver : TreeClause → Type 0
  IsOver c = HasAtomsOver P G c

  over_at : (c : TreeClause) (place : ℕ) (l : Signed Tree) → IsOver c → at_number c place ≡ Some l → IsAtomOver P G l.atom
  over_at c place l h at = h l (contains_in l c (at_number_contains c place l at))

  over_conclusion : (n from place partner other : ℕ) (c : TreeClause) → HoldsBefore IsOver base n → from < n → partner < n → IsConclusion base.members from place partner other c → IsOver c
  over_conclusion n from place partner other c before f p h =
      let clause : IsOver h.entry.clause = before from f h.entry h.entry_at in
      let partner_clause : IsOver h.partner_entry.clause = before partner p h.partner_entry h.partner_at in
      transport IsOver (sym h.conclusion)
      (canonical_over P G (instance h.unifier.left h.entry.clause)
      (instance_over P G h.unifier.left h.entry.clause
      (λ v. (most_general_terms P G h.literal.atom h.other_literal.atom (over_at h.entry.clause place h.literal clause h.literal_at)
      (over_at h.partner_entry.clause other h.other_literal partner_clause h.other_at) h.unifier h.most_general v).0)
      clause))

  over_step : (n : ℕ) (o : Origin) (c : TreeClause) → Unit {0} → HoldsBefore IsOver base n → Gives base n o c → IsOver c
  over_step n (input k) c of before (d, at, same) =
      transport IsOver (sym same) (canonical_over P G d (atoms d (contains_in d (with_axioms base.inputs) (at_number_contains (with_axioms base.inputs) k d at))))
  over_step n (inst from place partner other) c of before (f, p, h) = over_conclusion n from place partner other c before f p h
  over_step n (lemma from place partner other keep premises) c of before (f, p, d, h) =
      let whole = over_conclusion n from place partner other h.whole before f p h.conclusion in
      transport IsOver (sym h.canonical) (canonical_over P G (chosen h.whole keep) (λ l i. whole l (chosen_literal h.whole keep l i)))

  pub members_over : ((n : ℕ) → IsRightMember base n) → (n : ℕ) (e : Entry) → at_number base.members n ≡ Some e → IsOver e.clause
  members_over right = member_has base (λ o. Unit {0}) (λ n e at. (tt, right n e at)) IsOver over_step

-- ---- the selected literals

abbrev pub Numbered : Type 0
Numbered = (es : List Entry) (places : List ℕ) (m : SelectedClause) → Contains (selected_at es places) m → (n : ℕ) × IsSelected es places n m

module _ (c : Saturation) (formed : AreFormedClauses c.base.inputs) (free : IsTrue (is_function_free c.base.inputs)) (right : (n : ℕ) → IsRightMember c.base n)
    (short : (n : ℕ) (m : SelectedClause) → IsSelected c.base.members c.places n m → length (arguments_of m.selected.atom) < 2 ^ 63) (numbered : Numbered) where
  abbrev ss : List Sym
  ss = occurrences (with_axioms c.base.inputs)

  flat : (n : ℕ) (e : Entry) → at_number c.base.members n ≡ Some e → HasAtomsOver (λ p. p ∈ ss) (IsConstantOf ss) e.clause
  flat = members_over (λ p. p ∈ ss) (IsConstantOf ss) c.base
      (clauses_are_flat (with_axioms c.base.inputs) (with_axioms_formed c.base.inputs formed) (with_axioms_function_free c.base.inputs free)) right

  light : (m : SelectedClause) → m ∈ selected_members c → tree_weight m.selected.atom < 2 ^ 64 - 1
  light m i =
      let (n, s) = numbered c.base.members c.places m (in_contains m (selected_members c) i) in
      let atom = flat n s.entry s.entry_at m.selected (contains_in m.selected s.entry.clause (at_number_contains s.entry.clause s.place m.selected s.selected)) in
      let most : tree_weight m.selected.atom ≤ length (arguments_of m.selected.atom) + 1 = atom_weight ss m.selected.atom atom in
      let few : length (arguments_of m.selected.atom) < 2 ^ 63 = short n m s in
      omega arith

  pub members_are_light : All (λ m. tree_weight m.selected.atom < 2 ^ 64 - 1) (selected_members c)
  members_are_light = in_all (λ m. tree_weight m.selected.atom < 2 ^ 64 - 1) (selected_members c) light

-- ---- one member after another

-- a member whose literal is selected has a number
pub number_of_selected : (c : Cert) (n : ℕ) (m : SelectedClause) → SelectsAt (saturation_of c) n m → (0 < n) × (n ≤ length c.base.members)
number_of_selected c zero m s = absurd (cc (s.entry_at))
number_of_selected c (suc k) m s =
    let w : k < length (map (entry_of c.base.bank) c.base.members) = slice_get_within (map (entry_of c.base.bank) c.base.members) k s.entry s.entry_at in
    (omega arith, omega (arith, length-map c.base.members (entry_of c.base.bank)))

-- the members up to a number have no more arguments than memory holds
abbrev AreShort : Cert → ℕ → Type 0
AreShort c i = (n : ℕ) (m : SelectedClause) → n ≤ i → SelectsAt (saturation_of c) n m → length (arguments_of m.selected.atom) < 2 ^ 63

pub none_selected : (c : Cert) → AreShort c 0
none_selected c n m low s = absurd (omega (arith, low, (number_of_selected c n m s).0))

pub one_more_short : (c : Cert) (i : ℕ) → AreShort c i → ((m : SelectedClause) → SelectsAt (saturation_of c) (i + 1) m → length (arguments_of m.selected.atom) < 2 ^ 63) → AreShort c (i + 1)
one_more_short c i before last n m most s = elim (cases_lt i n) [
  | inl past ↦ last m (transport (λ k. SelectsAt (saturation_of c) k m) (omega arith) s)
  | inr low ↦ before n m low s
]
