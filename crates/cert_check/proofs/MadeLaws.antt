-- What a member whose origin is two members with their selected literals covers.
use Rattle.std.proofs.Common.{◌≡◌, ◌≢◌, ℕ, zero, suc, ◌<◌, List, true, length, get_or, refl, ap, sym, ◌∙◌, map, subst, Some}
use Rattle.std.specs.Prelude.{slice_get, option_map}
use Rattle.std.proofs.lemmas.Option.{slice_get-map, slice_get-get_or, slice_get_within, same_Some}
use Rattle.inst_logic.specs.declared.signed.Signed.{Signed}
use Rattle.inst_logic.specs.Clauses.{TreeClause, AreVariants, canonical_form, instance}
use Rattle.inst_logic.specs.Derivations.{at_number}
use Rattle.inst_logic.specs.Tree.{Tree}
use Rattle.inst_logic.specs.Unifiers.{Sided, IsMostGeneral, IsProper}
use Rattle.inst_calculus.specs.Conclusions.{IsConclusion}
use Rattle.inst_calculus.specs.Entries.{Entry}
use Rattle.inst_calculus.specs.Models.{SelectedClause}
use Rattle.inst_calculus.proofs.CanonicalForms.{canonical_of_canonical}
use Rattle.inst_calculus.proofs.Choice.{instance_of_choice, proper_of_choice, swapped, swapped_general}
use Rattle.cert_format.specs.TermLists.{HoldsBy}
use Rattle.cert_format.specs.Validity.{Gives, IsValidBase, SelectsAt}
use Rattle.cert_format.specs.declared.complaint.Complaint.TheVariants.{Member as Derived}
use Rattle.cert_format.proofs.Numbers.{same_item}
use Rattle.term_bank.specs.Forest.{clause_at}
use Rattle.cert_values.specs.declared.certificate.By.{By}
use Rattle.cert_values.specs.declared.certificate.By.TheVariants.{Variant}
use Rattle.cert_values.specs.declared.certificate.Cover.{Cover}
use Rattle.cert_values.specs.declared.certificate.Saturation.{Saturation}
use Rattle.cert_values.specs.declared.member.Member.{Member}
use Rattle.cert_values.specs.declared.member.Origin.{Origin}
use Rattle.cert_values.specs.declared.member.Origin.TheVariants.{Inst}
use Rattle.cert_values.specs.Values.{base_of, by_of, entry_of, origin_of, saturation_of}
use Rattle.cert_values.specs.Wholes.{HasPlaces}
use Rattle.unify_core.specs.Sides.{Binding, of_side}
use Rattle.unify_core.specs.declared.side.Side.{Side}
use Rattle.unify_core.specs.declared.side.Side.TheVariants.{Left, Right}
use Rattle.cert_check.specs.Closings.{IsGeneralOn}
use Rattle.cert_check.specs.Compared.{IsMadeCover, IsNamedOf}
use Rattle.cert_check.specs.declared.due_side.DueSide.{DueSide}

module _ (c : Saturation) (base : IsValidBase (base_of c.base)) (placed : HasPlaces (saturation_of c)) (i j place other : ℕ) (here : slice_get c.places i ≡ Some place) (there : slice_get c.places j ≡ Some other) where
  -- what the origin gives is the conclusion
  conclusion_at : (k : ℕ) (x : Member) → k < length c.base.members → x ≡ get_or c.base.members k x → x.origin ≡ Inst (suc i) place (suc j) other
      → IsConclusion (map (entry_of c.base.bank) c.base.members) (suc i) place (suc j) other (clause_at c.base.bank x.clause)
  conclusion_at k x within is origin =
      let at : slice_get (map (entry_of c.base.bank) c.base.members) k ≡ Some (entry_of c.base.bank x) =
      slice_get-map (entry_of c.base.bank) c.base.members k ∙ ap (option_map (entry_of c.base.bank)) (slice_get-get_or c.base.members k x within ∙ ap Some (sym is)) in
      let gives : Gives (base_of c.base) (suc k) (origin_of x.origin) (clause_at c.base.bank x.clause) = base (Derived (suc k)) (entry_of c.base.bank x) at in
      (subst (λ (o : Origin). Gives (base_of c.base) (suc k) (origin_of o) (clause_at c.base.bank x.clause)) origin gives).2

  -- and a variant of the instance
  module _ (m n : SelectedClause) (at_m : SelectsAt (saturation_of c) (suc i) m) (at_n : SelectsAt (saturation_of c) (suc j) n) (d : TreeClause)
      (h : IsConclusion (map (entry_of c.base.bank) c.base.members) (suc i) place (suc j) other d) where
    entry : h.entry ≡ at_m.entry
    entry = same_item (at_number (map (entry_of c.base.bank) c.base.members) (suc i)) h.entry at_m.entry h.entry_at at_m.entry_at

    partner : h.partner_entry ≡ at_n.entry
    partner = same_item (at_number (map (entry_of c.base.bank) c.base.members) (suc j)) h.partner_entry at_n.entry h.partner_at at_n.entry_at

    literal : h.literal ≡ m.selected
    literal =
        let p : at_m.place ≡ place = same_item (slice_get c.places i) at_m.place place at_m.place_at here in
        same_item (at_number h.entry.clause place) h.literal m.selected h.literal_at
        (ap (λ (e : Entry). at_number e.clause place) entry ∙ ap (at_number at_m.entry.clause) (sym p) ∙ at_m.selected)

    other_literal : h.other_literal ≡ n.selected
    other_literal =
        let p : at_n.place ≡ other = same_item (slice_get c.places j) at_n.place other at_n.place_at there in
        same_item (at_number h.partner_entry.clause other) h.other_literal n.selected h.other_at
        (ap (λ (e : Entry). at_number e.clause other) partner ∙ ap (at_number at_n.entry.clause) (sym p) ∙ at_n.selected)

    -- whose selected literals meet
    pub meets_so : (m.selected.positive ≢ n.selected.positive) × (s : Sided) × IsMostGeneral s m.selected.atom n.selected.atom
    meets_so = (
      (λ e. h.opposite (ap (λ (l : Signed Tree). l.positive) literal ∙ e ∙ sym (ap (λ (l : Signed Tree). l.positive) other_literal))),
      h.unifier,
      subst (λ (l : Signed Tree). IsMostGeneral h.unifier l.atom n.selected.atom) literal (subst (λ (l : Signed Tree). IsMostGeneral h.unifier h.literal.atom l.atom) other_literal h.most_general),
    )

    module _ (s : Sided) (general : IsMostGeneral s m.selected.atom n.selected.atom) where
      general_there : IsMostGeneral s h.literal.atom h.other_literal.atom
      general_there =
          subst (λ (l : Signed Tree). IsMostGeneral s l.atom h.other_literal.atom) (sym literal)
          (subst (λ (l : Signed Tree). IsMostGeneral s m.selected.atom l.atom) (sym other_literal) general)

      pub proper_so : IsProper s.left m.selected.atom
      proper_so =
          subst (λ (l : Signed Tree). IsProper s.left l.atom) literal
          ((proper_of_choice h.literal.atom h.other_literal.atom h.unifier s h.most_general general_there h.literal.atom).0 h.proper)

      variants : AreVariants (instance s.left m.clause) d
      variants =
          let clause : h.entry.clause ≡ m.clause = ap (λ (e : Entry). e.clause) entry ∙ sym at_m.clause in
          let same : AreVariants (instance s.left h.entry.clause) (instance h.unifier.left h.entry.clause) =
          (instance_of_choice h.literal.atom h.other_literal.atom s h.unifier general_there h.most_general h.entry.clause).0 in
          sym (ap (λ (x : TreeClause). canonical_form (instance s.left x)) clause) ∙ same
          ∙ sym (ap canonical_form h.conclusion ∙ canonical_of_canonical (instance h.unifier.left h.entry.clause))

  -- the clause of a member that was made so is the instance on the side
  made_left : (k : ℕ) (x : Member) → k < length c.base.members → x ≡ get_or c.base.members k x → x.origin ≡ Inst (suc i) place (suc j) other
      → (m n : SelectedClause) → SelectsAt (saturation_of c) (suc i) m → SelectsAt (saturation_of c) (suc j) n → (s : Sided) → IsMostGeneral s m.selected.atom n.selected.atom → clause_at c.base.bank x.clause ≡ canonical_form (instance s.left m.clause)
  made_left k x within is origin m n at_m at_n s general =
      let h = conclusion_at k x within is origin in
      let d = clause_at c.base.bank x.clause in
      let own : canonical_form d ≡ d = ap canonical_form h.conclusion ∙ canonical_of_canonical (instance h.unifier.left h.entry.clause) ∙ sym h.conclusion in
      let v : AreVariants (instance s.left m.clause) d = variants m n at_m at_n d h s general in
      sym own ∙ sym v

  pub made_instance : (k : ℕ) (x : Member) → k < length c.base.members → x ≡ get_or c.base.members k x → x.origin ≡ Inst (suc i) place (suc j) other
      → (side : Side) (m n : SelectedClause) → SelectsAt (saturation_of c) (suc i) m → SelectsAt (saturation_of c) (suc j) n → (s : Sided) → IsGeneralOn side s m.selected.atom n.selected.atom
      → clause_at c.base.bank x.clause ≡ canonical_form (instance (of_side s side) m.clause)
  made_instance k x within is origin Left m n at_m at_n s general = made_left k x within is origin m n at_m at_n s general
  made_instance k x within is origin Right m n at_m at_n s general = made_left k x within is origin m n at_m at_n (swapped s) (swapped_general s n.selected.atom m.selected.atom general)

numbered_place : (ms : List Member) (n : ℕ) (x : Member) → at_number ms n ≡ Some x → (k : ℕ) × (n ≡ suc k) × (slice_get ms k ≡ Some x)
numbered_place ms zero x e = absurd cc
numbered_place ms (suc k) x e = (k, refl, e)

-- a cover that names such a member
module _ (c : Saturation) (base : IsValidBase (base_of c.base)) (placed : HasPlaces (saturation_of c)) (due : DueSide) (v : Cover) (h : IsMadeCover c due v) where
  found : (k : ℕ) × (h.number ≡ suc k) × (slice_get c.base.members k ≡ Some h.member)
  found = numbered_place c.base.members h.number h.member h.at

  within : found.0 < length c.base.members
  within = slice_get_within c.base.members found.0 h.member found.2

  is : h.member ≡ get_or c.base.members found.0 h.member
  is = same_Some h.member (get_or c.base.members found.0 h.member) (sym found.2 ∙ slice_get-get_or c.base.members found.0 h.member within)

  gives : IsConclusion (map (entry_of c.base.bank) c.base.members) (suc due.own) h.place (suc due.other) h.other (clause_at c.base.bank h.member.clause)
  gives = conclusion_at c base placed due.own due.other h.place h.other h.here h.there found.0 h.member within is h.origin

  module _ (m n : SelectedClause) (at_m : SelectsAt (saturation_of c) (suc due.own) m) (at_n : SelectsAt (saturation_of c) (suc due.other) n) where
    -- the selected literals meet
    pub made_meets : (m.selected.positive ≢ n.selected.positive) × (s : Sided) × IsGeneralOn due.side s m.selected.atom n.selected.atom
    made_meets = by due.side
      where
        by : (x : Side) → (m.selected.positive ≢ n.selected.positive) × (s : Sided) × IsGeneralOn x s m.selected.atom n.selected.atom
        by Left = meets_so c base placed due.own due.other h.place h.other h.here h.there m n at_m at_n (clause_at c.base.bank h.member.clause) gives
        by Right =
            let (signs, s, general) = meets_so c base placed due.own due.other h.place h.other h.here h.there m n at_m at_n (clause_at c.base.bank h.member.clause) gives in
            (signs, swapped s, swapped_general s m.selected.atom n.selected.atom general)

    module _ (s : Sided) (general : IsGeneralOn due.side s m.selected.atom n.selected.atom) where
      -- their unifiers are proper on the side
      pub made_proper : IsProper (of_side s due.side) m.selected.atom
      made_proper = by due.side general
        where
          by : (x : Side) → IsGeneralOn x s m.selected.atom n.selected.atom → IsProper (of_side s x) m.selected.atom
          by Left g = proper_so c base placed due.own due.other h.place h.other h.here h.there m n at_m at_n (clause_at c.base.bank h.member.clause) gives s g
          by Right g =
              proper_so c base placed due.own due.other h.place h.other h.here h.there m n at_m at_n (clause_at c.base.bank h.member.clause) gives (swapped s) (swapped_general s n.selected.atom m.selected.atom g)

      -- and the cover is right
      pub made_right : (clause_at c.base.bank v.clause ≡ canonical_form (instance (of_side s due.side) m.clause)) × HoldsBy (saturation_of c).base.members m.clause (clause_at c.base.bank v.clause) (by_of c.base.bank v.by)
      made_right =
          let f = c.base.bank in
          let k = found.0 in
          let made = made_instance c base placed due.own due.other h.place h.other h.here h.there k h.member within is h.origin due.side m n at_m at_n s general in
          let same : clause_at f v.clause ≡ clause_at f h.member.clause = ap (clause_at f) (sym h.clause) in
          let there : at_number (map (entry_of f) c.base.members) (suc k) ≡ Some (entry_of f h.member) = slice_get-map (entry_of f) c.base.members k ∙ ap (option_map (entry_of f)) found.2 in
          let holds : HoldsBy (saturation_of c).base.members m.clause (clause_at f v.clause) (by_of f (Variant (suc k))) = (entry_of f h.member, there, ap canonical_form same) in
          (same ∙ made, subst (λ (b : By). HoldsBy (saturation_of c).base.members m.clause (clause_at f v.clause) (by_of f b)) (sym (h.by ∙ ap Variant found.1)) holds)

  pub made_named : (es : List Binding) → IsNamedOf c es due v true
  made_named es s resolved m n at_m at_n general = ((λ t. made_right m n at_m at_n s general), (λ z. refl))
