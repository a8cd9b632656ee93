-- Covers that are compared with what is due.
use Rattle.std.proofs.Common.{◌≡◌, ◌↔◌, ℕ, suc, ◌<◌, List, [], ◌∷◌, length, map, get_or, Bool, true, false, Option, None, Some, refl, ap, sym, ◌∙◌, subst}
use Rattle.std.specs.Prelude.{All, IsTrue, slice_get, option_map}
use Rattle.std.proofs.lemmas.List.{length-map}
use Rattle.std.proofs.lemmas.List.Elements.{All-cons, All-head, All-nil}
use Rattle.std.proofs.lemmas.Option.{slice_get-map, slice_get-get_or, slice_get_within, same_Some}
use Rattle.inst_logic.specs.declared.signed.Signed.{Signed}
use Rattle.inst_logic.specs.Clauses.{IsCanonical, TreeClause, canonical_form, instance}
use Rattle.inst_logic.specs.Unifiers.{Sided}
use Rattle.inst_calculus.specs.Entries.{Entry}
use Rattle.inst_calculus.specs.Models.{SelectedClause}
use Rattle.cert_format.specs.Certificate as format
use Rattle.cert_format.specs.TermLists.{HoldsBy}
use Rattle.cert_format.specs.Validity.{CoversAt, SelectsAt}
use Rattle.cert_format.proofs.Numbers.{slice_get_of_map}
use Rattle.term_bank.specs.Forest.{Forest, Extends, IsClauseOf, clause_at, literal_tree}
use Rattle.term_bank.proofs.Clauses.{clause_extends, clause_of_extends}
use Rattle.cert_values.specs.declared.certificate.By.{By}
use Rattle.cert_values.specs.declared.certificate.Cover.{Cover}
use Rattle.cert_values.specs.declared.certificate.Covered.{Covered}
use Rattle.cert_values.specs.declared.certificate.Saturation.{Saturation}
use Rattle.cert_values.specs.declared.member.Member.{Member}
use Rattle.cert_values.specs.Values.{by_of, cover_of, covered_of, entry_of, saturation_of, side_of}
use Rattle.cert_values.specs.Wholes.{IsWholeBy, IsWholeCover, IsWholeCovered, IsWholeSaturation}
use Rattle.cert_values.proofs.Grown.{bys_grown, bys_same, members_same}
use Rattle.clause_form.proofs.Concluded.{clause_in}
use Rattle.unify_core.specs.Chains.{AreBindings}
use Rattle.unify_core.specs.Sides.{Binding, IsResolvedBy, of_side}
use Rattle.unify_core.specs.declared.side.Side.{Side}
use Rattle.unify_core.specs.declared.side.Side.TheVariants.{Left, Right}
use Rattle.cert_check.specs.declared.due_side.DueSide.{DueSide}
use Rattle.cert_check.specs.Compared.{IsCoverRight, IsNamedOf, IsNamedRight}
use Rattle.cert_inference.specs.Instances.{IsInstanceOf}
use Rattle.cert_check.specs.DueSteps.{due_of}
use Rattle.cert_check.specs.Sides.{left_number, right_number}
use Rattle.cert_check.proofs.CoverLaws.{clause_of}

abbrev first_or : format.By → List format.By → format.By
first_or d [] = d
first_or d (b ∷ bs) = b

pub by_same : (f g : Forest) → Extends f g → (b : By) → IsWholeBy f b → by_of g b ≡ by_of f b
by_same f g grown b whole = ap (first_or (by_of f b)) (bys_same f g grown (b ∷ []) (All-cons (IsWholeBy f) b [] whole (All-nil (IsWholeBy f))))

pub by_later : (f g : Forest) → Extends f g → (b : By) → IsWholeBy f b → IsWholeBy g b
by_later f g grown b whole = All-head (IsWholeBy g) b [] (bys_grown f g grown (b ∷ []) (All-cons (IsWholeBy f) b [] whole (All-nil (IsWholeBy f))))

-- the clause of the side's member
member_clause : (c : Saturation) (i : ℕ) (m : Member) → i < length c.base.members → m ≡ get_or c.base.members i m → (n : SelectedClause) → SelectsAt (saturation_of c) (suc i) n → clause_at c.base.bank m.clause ≡ n.clause
member_clause c i m within is n sel =
    let f = c.base.bank in
    let (k, at, e) = slice_get_of_map (entry_of f) c.base.members i sel.entry sel.entry_at in
    let same : k ≡ m = same_Some k m (sym at ∙ slice_get-get_or c.base.members i m within ∙ ap Some (sym is)) in
    ap (clause_of f) (sym same) ∙ ap (λ (y : Entry). y.clause) e ∙ sym sel.clause

-- the answer for the member's clause, which is an instance or not
module _ (c : Saturation) (g : Forest) (grown : Extends c.base.bank g) (whole : IsWholeSaturation c) (es : List Binding) (x : Side) (i : ℕ) (m : Member) (within : i < length c.base.members) (is : m ≡ get_or c.base.members i m)
    (v : Cover) (cover : IsWholeCover c.base.bank v) where
  there : clause_at g v.clause ≡ clause_at c.base.bank v.clause
  there = clause_extends c.base.bank g grown v.clause cover.clause.ids

  member_is : (r : Bool) → IsInstanceOf c.base.bank es x m.clause v.clause r → (s : Sided) → IsResolvedBy c.base.bank es s → (n : SelectedClause) → SelectsAt (saturation_of c) (suc i) n
      → IsTrue r ↔ (clause_at c.base.bank v.clause ≡ canonical_form (instance (of_side s x) n.clause))
  member_is r law s resolved n sel = subst (λ (w : TreeClause). IsTrue r ↔ (clause_at c.base.bank v.clause ≡ canonical_form (instance (of_side s x) w))) (member_clause c i m within is n sel) (law s resolved)

  pub named_wrong : IsInstanceOf c.base.bank es x m.clause v.clause false → IsNamedRight c es x (suc i) v false
  named_wrong law s resolved n sel = (
    (λ t. absurd (let e : false ≡ true = t in cc)),
    (λ h. (member_is false law s resolved n sel).1 h.0),
  )

  pub named_right : IsInstanceOf c.base.bank es x m.clause v.clause true → (r : Bool) → ((w : TreeClause) → length w ≡ length m.clause → IsTrue r ↔ HoldsBy (map (entry_of g) c.base.members) w (clause_at g v.clause) (by_of g v.by)) → IsNamedRight c es x (suc i) v r
  named_right made r holds s resolved n sel =
      let long : length n.clause ≡ length m.clause = ap (λ (w : TreeClause). length w) (sym (member_clause c i m within is n sel)) ∙ length-map m.clause (literal_tree c.base.bank) in
      let law : IsTrue r ↔ HoldsBy (map (entry_of g) c.base.members) n.clause (clause_at c.base.bank v.clause) (by_of g v.by) =
      subst (λ (e : TreeClause). IsTrue r ↔ HoldsBy (map (entry_of g) c.base.members) n.clause e (by_of g v.by)) there (holds n.clause long) in
      let here : IsTrue r ↔ HoldsBy (saturation_of c).base.members n.clause (clause_at c.base.bank v.clause) (by_of c.base.bank v.by) =
      subst (λ (b : format.By). IsTrue r ↔ HoldsBy (saturation_of c).base.members n.clause (clause_at c.base.bank v.clause) b) (by_same c.base.bank g grown v.by cover.by)
      (subst (λ (ms : List Entry). IsTrue r ↔ HoldsBy ms n.clause (clause_at c.base.bank v.clause) (by_of g v.by)) (members_same c.base.bank g grown c.base.members whole.members) law) in (
        (λ t. ((member_is true made s resolved n sel).0 refl, here.0 t)),
        (λ h. here.1 h.1),
      )

-- an instance is canonical
pub instance_canonical : (f g : Forest) → Extends f g → (es : List Binding) (x : Side) (c d : List (Signed ℕ)) → IsClauseOf f d → AreBindings f es → IsInstanceOf f es x c d true → IsCanonical (clause_at g d)
instance_canonical f g grown es x c d ids bindings law =
    (clause_in f g es x c d bindings (λ s resolved. (clause_of_extends f g grown d ids, clause_extends f g grown d ids ∙ (law s resolved).0 refl))).1

pub cover_at : (f : Forest) (vs : List Cover) → All (IsWholeCover f) vs → (place : ℕ) (v : Cover) → slice_get vs place ≡ Some v → IsWholeCover f v
cover_at f vs whole place v at =
    let within = slice_get_within vs place v at in
    let same : get_or vs place v ≡ v = same_Some (get_or vs place v) v (sym (slice_get-get_or vs place v within) ∙ at) in
    subst (IsWholeCover f) same (whole place v within)

pub whole_cover_at : (c : Covered) → IsWholeCovered c → (place : ℕ) (v : Cover) → slice_get c.covers place ≡ Some v → IsWholeCover c.cert.base.bank v
whole_cover_at c whole = cover_at c.cert.base.bank c.covers whole.covers

side_from : (x y : Side) → side_of x ≡ side_of y → x ≡ y
side_from Left Left e = refl
side_from Left Right e = absurd cc
side_from Right Left e = absurd cc
side_from Right Right e = refl

pub cover_there : (c : Covered) (place : ℕ) (o : Option Cover) → slice_get c.covers place ≡ o → slice_get (covered_of c).covers place ≡ option_map (cover_of c.cert.base.bank) o
cover_there c place o at = slice_get-map (cover_of c.cert.base.bank) c.covers place ∙ ap (option_map (cover_of c.cert.base.bank)) at

module _ (c : Covered) (es : List Binding) (due : DueSide) (place : ℕ) where
  pub cover_none : slice_get c.covers place ≡ None → IsCoverRight c es due place false
  cover_none at s resolved m n sel there general =
      subst (λ (o : Option format.Cover). IsTrue false ↔ CoversAt (saturation_of c.cert).base.members (Some (due_of due.side due.own due.other m s)) o) (sym (cover_there c place None at))
      ((λ t. absurd (let e : false ≡ true = t in cc)), (λ h. absurd h))

  module _ (v : Cover) (at : slice_get c.covers place ≡ Some v) where
    pub cover_other : ¬ ((v.left ≡ left_number due.side due.own due.other) × (v.right ≡ right_number due.side due.own due.other) × (v.side ≡ due.side)) → IsCoverRight c es due place false
    cover_other other s resolved m n sel there general =
        subst (λ (o : Option format.Cover). IsTrue false ↔ CoversAt (saturation_of c.cert).base.members (Some (due_of due.side due.own due.other m s)) o) (sym (cover_there c place (Some v) at))
        ((λ t. absurd (let e : false ≡ true = t in cc)), (λ h. absurd (other (h.left, h.right, side_from v.side due.side h.side))))

    pub cover_same : (v.left ≡ left_number due.side due.own due.other) × (v.right ≡ right_number due.side due.own due.other) × (v.side ≡ due.side) → (r : Bool) → IsNamedOf c.cert es due v r → IsCoverRight c es due place r
    cover_same same r named s resolved m n sel there general =
        subst (λ (o : Option format.Cover). IsTrue r ↔ CoversAt (saturation_of c.cert).base.members (Some (due_of due.side due.own due.other m s)) o) (sym (cover_there c place (Some v) at)) (
          (λ t. let h = (named s resolved m n sel there general).0 t in record { left = same.0; right = same.1; side = ap side_of same.2; clause = h.0; holds = h.1 }),
          (λ h. (named s resolved m n sel there general).1 (h.clause, h.holds)),
        )
