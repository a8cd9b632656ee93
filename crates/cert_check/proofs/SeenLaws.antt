-- Covers that serve again, and what is told over a bank that has grown.
use Rattle.std.proofs.Common.{◌≡◌, ℕ, zero, suc, List, Bool, true, refl, sym, ap, ◌∙◌, subst, Some, arith}
use Rattle.std.specs.Prelude.{◌↔◌, Contains, IsTrue}
use Rattle.inst_logic.specs.Clauses.{TreeClause, canonical_form, instance}
use Rattle.inst_logic.specs.Derivations.{at_number}
use Rattle.inst_calculus.specs.Entries.{Entry}
use Rattle.inst_calculus.specs.Models.{SelectedClause, member_clauses}
use Rattle.inst_calculus.specs.Saturation.{IsCovered, tautology, variant, shorter}
use Rattle.inst_calculus.proofs.CanonicalForms.{canonical_of_canonical}
use Rattle.inst_calculus.proofs.CoveredInstances.{covered_when_renamed}
use Rattle.inst_calculus.proofs.Items.{at_number_within}
use Rattle.inst_calculus.proofs.Membership.{◌∈◌, in_contains, in_map}
use Rattle.cert_format.specs.Certificate as format
use Rattle.cert_format.specs.Certificate.{by_tautology, by_variant, by_part, selected_members}
use Rattle.cert_format.specs.TermLists.{HoldsBy}
use Rattle.cert_format.specs.Validity.{SelectsAt}
use Rattle.cert_format.proofs.Numbers.{same_item}
use Rattle.cert_format.proofs.SelectedMembers.{selected_is_member}
use Rattle.cert_format.proofs.TermInstances.{subsumes_by_terms}
use Rattle.term_bank.specs.Forest.{clause_at}
use Rattle.term_bank.proofs.Clauses.{clause_extends}
use Rattle.unify_core.specs.Chains.{AreBindings}
use Rattle.unify_core.specs.Sides.{Binding, of_side}
use Rattle.unify_core.specs.declared.side.Side.{Side}
use Rattle.clause_form.proofs.Leaves.{resolved_later}
use Rattle.cert_values.specs.declared.certificate.Cover.{Cover}
use Rattle.cert_values.specs.declared.certificate.Saturation.{Saturation}
use Rattle.cert_values.specs.Values.{by_of, saturation_of}
use Rattle.cert_values.specs.Wholes.{HasPlaces, IsWholeCover, IsWholeSaturation, KeepsSaturation}
use Rattle.cert_values.proofs.Grown.{clause_grown}
use Rattle.cert_check.specs.Closings.{IsSideCovered}
use Rattle.cert_check.specs.Compared.{IsNamedRight}
use Rattle.cert_check.specs.Names.{NamesSide}
use Rattle.cert_check.specs.declared.naming.Named.{Named}
use Rattle.cert_check.proofs.CompareLaws.{by_later, by_same}
use Rattle.cert_check.proofs.Saturations.{saturation_same}

module _ (c : format.Saturation) (placed : HasPlaces c) where
  -- each numbered entry is selected
  selected_clause : (j : ℕ) (e : Entry) → at_number c.base.members j ≡ Some e → Contains (member_clauses (selected_members c)) e.clause
  selected_clause zero e at = absurd cc
  selected_clause (suc k) e at =
      let within = at_number_within c.base.members (suc k) e at in
      let (m, h) = placed (suc k) (omega arith) (omega arith) in
      let same : h.entry ≡ e = same_item (at_number c.base.members (suc k)) h.entry e h.entry_at at in
      in_contains e.clause (member_clauses (selected_members c))
      (subst (λ (d : TreeClause). d ∈ member_clauses (selected_members c)) (h.clause ∙ ap (λ (x : Entry). x.clause) same)
      (in_map (λ (x : SelectedClause). x.clause) m (selected_members c) (selected_is_member c k m h)))

  covered_by : (whole d : TreeClause) (by : format.By) → HoldsBy c.base.members whole d by → IsCovered (member_clauses (selected_members c)) whole d
  covered_by whole d by_tautology h = tautology h
  covered_by whole d (by_variant j) (e, at, v) = variant e.clause (selected_clause j e at) v
  covered_by whole d (by_part j terms) (e, at, l, p) = shorter e.clause (selected_clause j e at) l (subsumes_by_terms e.clause d terms p)

-- the instance of which the cover's clause is the canonical form is covered by what is named
pub named_covered : (c : Saturation) → HasPlaces (saturation_of c) → (es : List Binding) (x : Side) (n : ℕ) (v : Cover) → IsNamedRight c es x n v true → IsSideCovered c es x n true
named_covered c placed es x n v named s resolved m sel =
    let h = (named s resolved m sel).0 refl in
    let d = instance (of_side s x) m.clause in (
      (λ t. covered_when_renamed (member_clauses (selected_members (saturation_of c))) m.clause (clause_at c.base.bank v.clause) d (covered_by (saturation_of c) placed m.clause (clause_at c.base.bank v.clause) (by_of c.base.bank v.by) h.1)
          (ap canonical_form h.0 ∙ canonical_of_canonical d)),
      (λ t. refl),
    )

module _ (old mid new : Saturation) (whole : IsWholeSaturation old) (kept : KeepsSaturation old mid) (es : List Binding) (x : Side) (n : ℕ) where
  -- a cover that is right before is right over the grown bank
  pub named_again : (v : Cover) → IsWholeCover old.base.bank v → IsNamedRight old es x n v true → NamesSide old mid es x n (record { clause = v.clause; by = v.by })
  named_again v cover named =
      let f = old.base.bank in
      let g = mid.base.bank in
      let clause : clause_at g v.clause ≡ clause_at f v.clause = clause_extends f g kept.base.bank v.clause cover.clause.ids in
      let by : by_of g v.by ≡ by_of f v.by = by_same f g kept.base.bank v.by cover.by in
      record {
        clause = clause_grown f g kept.base.bank v.clause cover.clause;
        by = by_later f g kept.base.bank v.by cover.by;
        names = λ s resolved m sel.
            let h = (named s resolved m sel).0 refl in (
              clause ∙ h.0,
              subst (λ (d : TreeClause). HoldsBy (saturation_of old).base.members m.clause d (by_of g v.by)) (sym clause)
                  (subst (λ (b : format.By). HoldsBy (saturation_of old).base.members m.clause (clause_at f v.clause) b) (sym by) h.1),
            );
      }

  module _ (bindings : AreBindings old.base.bank es) where
    -- what holds over a grown bank held before
    pub names_before : (d : Named) → NamesSide mid new es x n d → NamesSide old new es x n d
    names_before d h =
        let same = saturation_same old mid whole kept in
        record {
          clause = h.clause;
          by = h.by;
          names = λ s resolved m sel.
              subst (λ (y : format.Saturation). (clause_at new.base.bank d.clause ≡ canonical_form (instance (of_side s x) m.clause)) × HoldsBy y.base.members m.clause (clause_at new.base.bank d.clause) (by_of new.base.bank d.by)) same
              (h.names s (resolved_later old.base.bank mid.base.bank es s kept.base.bank bindings resolved) m (subst (λ (y : format.Saturation). SelectsAt y n m) (sym same) sel));
        }

    pub covered_before : (r : Bool) → IsSideCovered mid es x n r → IsSideCovered old es x n r
    covered_before r h s resolved m sel =
        let same = saturation_same old mid whole kept in
        subst (λ (y : format.Saturation). IsTrue r ↔ IsCovered (member_clauses (selected_members y)) m.clause (instance (of_side s x) m.clause)) same
        (h s (resolved_later old.base.bank mid.base.bank es s kept.base.bank bindings resolved) m (subst (λ (y : format.Saturation). SelectsAt y n m) (sym same) sel))
