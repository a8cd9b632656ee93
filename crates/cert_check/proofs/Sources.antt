-- Sources of members as the bank grows, one after another, and the upgrade that they give.
use Rattle.std.proofs.Common.{◌≡◌, ℕ, zero, suc, ◌+◌, ◌<◌, ◌≤◌, List, [], ◌∷◌, ◌++◌, refl, ap, sym, ◌∙◌, map, subst as transport, arith, length, Some, ◌⊎◌, inl, inr}
use Rattle.std.specs.Prelude.{All, None}
use Rattle.std.proofs.lemmas.List.{length_push, length-map}
use Rattle.std.proofs.lemmas.List.Elements.{All-push}
use Rattle.std.proofs.lemmas.Option.{same_Some}
use Rattle.inst_logic.specs.declared.signed.Signed.{Signed}
use Rattle.inst_logic.specs.declared.symbol.Sym.{Sym}
use Rattle.inst_logic.specs.Tree.{Tree, var, app, none}
use Rattle.inst_logic.specs.Substitution.{Substitution, subst, followed_by}
use Rattle.inst_logic.specs.Clauses.{instance, order_of}
use Rattle.inst_logic.specs.Derivations.{at_number}
use Rattle.inst_logic.proofs.ShownLaws.{at_number_contains}
use Rattle.inst_calculus.specs.Abstraction.{grounding}
use Rattle.inst_calculus.specs.Axioms.{with_axioms}
use Rattle.inst_calculus.specs.Entries.{Origin, input, inst, lemma, Entry}
use Rattle.inst_calculus.proofs.Membership.{◌∈◌, all_in, in_all, in_map, contains_in}
use Rattle.inst_calculus.proofs.ProperParts.{item_behind}
use Rattle.cert_format.specs.Certificate as format
use Rattle.cert_format.specs.Upgrades.{LeadsTo, by_input, by_instance, behind_numbers, GivesTerms, IsUpgrade}
use Rattle.cert_format.specs.Validity.{Gives, IsFirstOrigin}
use Rattle.cert_format.proofs.Upgrades.{leads_followed}
use Rattle.term_bank.specs.Forest.{Forest, Extends, IsAt, clause_at, tree_at}
use Rattle.clause_form.specs.Conclusions.{AreVariables}
use Rattle.clause_form.specs.Walks.{listed}
use Rattle.cert_values.specs.declared.certificate.Base.{Base}
use Rattle.cert_values.specs.declared.certificate.FirstRefutation.{FirstRefutation}
use Rattle.cert_values.specs.declared.certificate.GroundLine.{GroundLine}
use Rattle.cert_values.specs.Values.{base_of, first_of, line_of, refutation_of}
use Rattle.cert_values.specs.Wholes.{IsWholeBase, IsWholeClause, IsWholeFirst, IsWholeLine, IsWholeRefutation, IsWholeTerm, KeepsBase}
use Rattle.cert_values.proofs.Grown.{clause_grown, clauses_same, steps_grown, steps_same, terms_grown, terms_same}
use Rattle.cert_values.proofs.Kept.{base_same}
use Rattle.cert_check.specs.declared.source.Source.{Source}
use Rattle.cert_check.specs.Sources.{AreConclusionTerms, AreFirstMembers, AreGroundLines, AreSources, Conclude, IsSource}
use Rattle.cert_check.proofs.Bases.{member_canonical}
use Rattle.cert_check.proofs.ShownTrees.{line_trees}
use Rattle.cert_check.proofs.SourceLaws.{input_terms, own_variables, followed_agree, listed_terms, listed_constant}

-- ---- a bank that grows

pub source_grown : (f g : Forest) → Extends f g → (b : format.Base) (n : ℕ) (s : Source) → IsSource f b n s → IsSource g b n s
source_grown f g grown b n s h = record {
  clause = h.clause;
  clause_at = h.clause_at;
  unifier = h.unifier;
  leads = h.leads;
  are = terms_same f g grown s.terms h.terms ∙ h.are;
  terms = terms_grown f g grown s.terms h.terms;
}

pub sources_grown : (f g : Forest) → Extends f g → (b : format.Base) (count : ℕ) (ss : List Source) → AreSources f b count ss → AreSources g b count ss
sources_grown f g grown b count ss h = record { count_of = h.count_of; each = λ n s at. source_grown f g grown b n s (h.each n s at) }

-- ---- one more

pub no_sources : (f : Forest) (b : format.Base) → AreSources f b 0 []
no_sources f b = record { count_of = refl; each = none_there }
  where
    none_there : (n : ℕ) (s : Source) → at_number {X = Source} [] n ≡ Some s → IsSource f b n s
    none_there zero s at = absurd cc
    none_there (suc n) s at = absurd cc

last_or_before : {A : Type 0} (xs : List A) (x : A) (n : ℕ) (y : A) → at_number (xs ++ x ∷ []) n ≡ Some y → (at_number xs n ≡ Some y) ⊎ ((n ≡ length xs + 1) × (x ≡ y))
last_or_before xs x zero y at = absurd cc
last_or_before [] x (suc zero) y at = inr (omega arith, same_Some x y at)
last_or_before [] x (suc (suc n)) y at = absurd cc
last_or_before (z ∷ xs) x (suc zero) y at = inl at
last_or_before {A = A} (z ∷ xs) x (suc (suc n)) y at = elim (last_or_before {A = A} xs x (suc n) y at) [ inl h ↦ inl h | inr h ↦ inr ((let e = h.0 in omega arith), h.1) ]

pub one_more_source : (f : Forest) (b : format.Base) (count : ℕ) (ss : List Source) (s : Source) → AreSources f b count ss → IsSource f b (count + 1) s → AreSources f b (count + 1) (ss ++ s ∷ [])
one_more_source f b count ss s h here = record {
  count_of = length_push ss s ∙ ap (λ n. n + 1) h.count_of;
  each = λ n x at. elim (last_or_before ss s n x at) [
    | inl before ↦ h.each n x before
    | inr last ↦
        transport (λ (y : Source). IsSource f b n y) last.1 (transport (λ (m : ℕ). IsSource f b m s) (sym (last.0 ∙ ap (λ m. m + 1) h.count_of)) here)
  ];
}

-- ---- by origins

pub number_there : {A : Type 0} (xs : List A) (n : ℕ) → 0 < n → n ≤ length xs → at_number xs n ≡ None → ⊥
number_there xs zero l m e = omega arith
number_there [] (suc n) l m e = omega arith
number_there (x ∷ xs) (suc zero) l m e = absurd cc
number_there (x ∷ xs) (suc (suc n)) l m e = number_there xs (suc n) (omega arith) (omega arith) e

pub positive_number : {A : Type 0} (xs : List A) (n : ℕ) (x : A) → at_number xs n ≡ Some x → 0 < n
positive_number xs zero x at = absurd cc
positive_number xs (suc n) x at = omega arith

-- what a right instance is made of comes before it, and concludes something
pub concludes_before : (b : Base) → AreFirstMembers (base_of b) → (n from place partner other : ℕ) (e : Entry) → at_number (base_of b).members n ≡ Some e → e.origin ≡ inst from place partner other
    → (from < n) × Conclude (base_of b).members from place partner other
concludes_before b right n from place partner other e at origin =
    let h = transport (λ (o : Origin). Gives (base_of b) n o e.clause) origin (right n e at).1 in
    (h.0, (e.clause, h.2))

pub no_lemma_there : (b : Base) → AreFirstMembers (base_of b) → (n from place partner other : ℕ) (keep premises : List ℕ) (e : Entry) → at_number (base_of b).members n ≡ Some e
    → e.origin ≡ lemma from place partner other keep premises → ⊥
no_lemma_there b right n from place partner other keep premises e at origin = transport IsFirstOrigin origin (right n e at).0

module _ (b : Base) (right : AreFirstMembers (base_of b)) (g : Forest) where
  -- a member that is an input or axiom
  pub input_source : (n : ℕ) (e : Entry) (s : Source) → at_number (base_of b).members n ≡ Some e → e.origin ≡ input s.input → AreVariables g (length (order_of e.clause)) s.terms → All (IsWholeTerm g) s.terms
      → IsSource g (base_of b) n s
  input_source n e s at origin variables terms =
      let (d, there, form) = transport (λ (o : Origin). Gives (base_of b) n o e.clause) origin (right n e at).1 in
      record {
        clause = d;
        clause_at = there;
        unifier = behind_numbers d var;
        leads = by_input n var e d at origin there (λ v. refl);
        are = input_terms g d e.clause s.terms form variables;
        terms = terms;
      }

  -- a member that is an instance of another one
  pub instance_source : (f : Forest) (n from place partner other : ℕ) (e : Entry) → at_number (base_of b).members n ≡ Some e → e.origin ≡ inst from place partner other
      → (ids : List ℕ) → AreConclusionTerms f (base_of b).members from place partner other ids → (r s : Source) → IsSource f (base_of b) from r
      → s.input ≡ r.input → map (tree_at g) s.terms ≡ map (subst (listed f ids)) (map (tree_at f) r.terms) → All (IsWholeTerm g) s.terms → IsSource g (base_of b) n s
  instance_source f n from place partner other e at origin ids h r s source inputs trees terms =
      let first = h.entry.clause in
      let more : Substitution = followed_by h.unifier.left (behind_numbers (instance h.unifier.left first) var) in
      let onward : LeadsTo (base_of b) r.input (followed_by source.unifier more) from more = leads_followed (base_of b) r.input source.unifier from var more source.leads in
      let canonical = member_canonical (base_of b) from (λ x i. (right from x i).1) h.entry h.entry_at in
      let same = followed_agree source.unifier (listed f ids) more (length (order_of first)) (listed_terms f h.unifier.left first ids h.terms) (order_of source.clause)
      (own_variables (base_of b) right r.input from source.unifier source.clause source.clause_at source.leads h.entry h.entry_at canonical) in
      record {
        clause = source.clause;
        clause_at = ap (at_number (with_axioms (base_of b).inputs)) inputs ∙ source.clause_at;
        unifier = followed_by source.unifier more;
        leads = transport (λ (k : ℕ). LeadsTo (base_of b) k (followed_by source.unifier more) n var) (sym inputs)
            (by_instance n var e h.entry h.partner_entry from place partner other h.literal h.other_literal h.unifier at origin h.entry_at h.partner_at h.literal_at h.other_at h.most_general onward);
        are = trees ∙ ap (map (subst (listed f ids))) source.are ∙ same;
        terms = terms;
      }

  -- the terms of a member under the constant
  pub given_terms : (f : Forest) (bot : Sym) (constant n : ℕ) (e : Entry) → at_number (base_of b).members n ≡ Some e → IsAt f constant (app bot none) → (ids : List ℕ) → All (λ id. id ≡ constant) ids
      → length (order_of e.clause) ≤ length ids → (r s : Source) → IsSource f (base_of b) n r → s.input ≡ r.input → map (tree_at g) s.terms ≡ map (subst (listed f ids)) (map (tree_at f) r.terms)
      → GivesTerms (base_of b) bot n s.input (map (tree_at g) s.terms)
  given_terms f bot constant n e at is ids same enough r s source inputs trees =
      let canonical = member_canonical (base_of b) n (λ x i. (right n x i).1) e at in
      let agree = followed_agree source.unifier (listed f ids) (grounding bot) (length (order_of e.clause))
      (λ w l. listed_constant f constant ids same w (omega arith) ∙ is.1) (order_of source.clause)
      (own_variables (base_of b) right r.input n source.unifier source.clause source.clause_at source.leads e at canonical) in
      record {
        clause = source.clause;
        clause_at = ap (at_number (with_axioms (base_of b).inputs)) inputs ∙ source.clause_at;
        unifier = followed_by source.unifier (grounding bot);
        leads = transport (λ (k : ℕ). LeadsTo (base_of b) k (followed_by source.unifier (grounding bot)) n (grounding bot)) (sym inputs)
            (leads_followed (base_of b) r.input source.unifier n var (grounding bot) source.leads);
        are = trees ∙ ap (map (subst (listed f ids))) source.are ∙ agree;
      }

-- ---- ground lines

clauses_pushed : (ls : List GroundLine) (l : GroundLine) → map (λ (x : GroundLine). x.clause) (ls ++ l ∷ []) ≡ map (λ (x : GroundLine). x.clause) ls ++ l.clause ∷ []
clauses_pushed [] l = refl
clauses_pushed (x ∷ ls) l = ap (λ (cs : List (List (Signed ℕ))). x.clause ∷ cs) (clauses_pushed ls l)

pub lines_counted : (f : Forest) (b : format.Base) (bot : Sym) (cs : List (List (Signed ℕ))) (ls : List GroundLine) → AreGroundLines f b bot cs ls → length ls ≡ length cs
lines_counted f b bot cs ls h = sym (length-map ls (λ (x : GroundLine). x.clause)) ∙ ap (λ (xs : List (List (Signed ℕ))). length xs) h.clauses

pub lines_grown : (f g : Forest) → Extends f g → (b : format.Base) (bot : Sym) (cs : List (List (Signed ℕ))) (ls : List GroundLine) → AreGroundLines f b bot cs ls → AreGroundLines g b bot cs ls
lines_grown f g grown b bot cs ls h = record {
  clauses = h.clauses;
  terms = in_all (λ (l : GroundLine). All (IsWholeTerm g) l.terms) ls (λ l i. terms_grown f g grown l.terms (all_in (λ (x : GroundLine). All (IsWholeTerm f) x.terms) ls h.terms l i));
  origins = λ n l at.
      let whole = all_in (λ (x : GroundLine). All (IsWholeTerm f) x.terms) ls h.terms l (contains_in l ls (at_number_contains ls n l at)) in
      transport (λ (ts : List Tree). GivesTerms b bot n l.input ts) (sym (terms_same f g grown l.terms whole)) (h.origins n l at);
}

pub one_more_line : (f : Forest) (b : format.Base) (bot : Sym) (cs : List (List (Signed ℕ))) (ls : List GroundLine) (l : GroundLine) → AreGroundLines f b bot cs ls
    → All (IsWholeTerm f) l.terms → GivesTerms b bot (length ls + 1) l.input (map (tree_at f) l.terms) → AreGroundLines f b bot (cs ++ l.clause ∷ []) (ls ++ l ∷ [])
one_more_line f b bot cs ls l h terms given = record {
  clauses = clauses_pushed ls l ∙ ap (λ (xs : List (List (Signed ℕ))). xs ++ l.clause ∷ []) h.clauses;
  terms = All-push (λ (x : GroundLine). All (IsWholeTerm f) x.terms) ls l h.terms terms;
  origins = λ n x at. elim (last_or_before ls l n x at) [
    | inl before ↦ h.origins n x before
    | inr last ↦
        transport (λ (y : GroundLine). GivesTerms b bot n y.input (map (tree_at f) y.terms)) last.1
        (transport (λ (m : ℕ). GivesTerms b bot m l.input (map (tree_at f) l.terms)) (sym last.0) given)
  ];
}

-- ---- the upgrade

module _ (r : FirstRefutation) (whole : IsWholeFirst r) (b : Base) (kept : KeepsBase r.base b) (ls : List GroundLine) (h : AreGroundLines b.bank (base_of r.base) r.bot r.grounds ls) where
  pub upgraded : IsUpgrade (first_of r) (refutation_of (record { base = b; bot = r.bot; grounds = ls; steps = r.steps }))
  upgraded = record {
    base = base_same r.base b whole.base kept;
    bot = refl;
    steps = steps_same r.base.bank b.bank kept.bank r.steps whole.steps;
    clauses = sym (line_trees b.bank ls) ∙ ap (map (clause_at b.bank)) h.clauses ∙ clauses_same r.base.bank b.bank kept.bank r.grounds whole.grounds;
    origins = λ n g at.
        let (l, there, same) = item_behind (line_of b.bank) ls n g at in
        transport (λ (x : format.GroundLine). GivesTerms (base_of r.base) r.bot n x.input x.terms) same (h.origins n l there);
  }

  pub upgraded_whole : IsWholeBase b → IsWholeRefutation (record { base = b; bot = r.bot; grounds = ls; steps = r.steps })
  upgraded_whole base = record {
    base = base;
    grounds = in_all (IsWholeLine b.bank) ls (λ l i. record {
      clause = clause_grown r.base.bank b.bank kept.bank l.clause
          (all_in (IsWholeClause r.base.bank) r.grounds whole.grounds l.clause (transport (λ (cs : List (List (Signed ℕ))). l.clause ∈ cs) h.clauses (in_map (λ (x : GroundLine). x.clause) l ls i)));
      terms = all_in (λ (x : GroundLine). All (IsWholeTerm b.bank) x.terms) ls h.terms l i;
    });
    steps = steps_grown r.base.bank b.bank kept.bank r.steps whole.steps;
  }
