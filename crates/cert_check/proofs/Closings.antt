-- Sides and pairs of members that are closed for the unifier that bindings stand for.
use Rattle.std.proofs.Common.{◌≡◌, ◌↔◌, ◌||◌, inl, inr, ℕ, suc, ◌<◌, List, length, map, get_or, refl, ap, sym, ◌∙◌, subst, arith, true, false, Some}
use Rattle.std.specs.Prelude.{Bool, IsTrue, slice_get}
use Rattle.std.proofs.lemmas.Option.{slice_get-get_or, slice_get_within, same_Some}
use Rattle.inst_logic.specs.Tree.{Tree}
use Rattle.inst_logic.specs.Clauses.{TreeClause, instance, IsCanonical}
use Rattle.inst_logic.specs.Unifiers.{Sided, IsMostGeneral, IsProper}
use Rattle.inst_logic.proofs.ShownLaws.{at_number_contains}
use Rattle.inst_calculus.specs.Entries.{Entry}
use Rattle.inst_calculus.specs.Models.{SelectedClause, member_clauses}
use Rattle.inst_calculus.specs.Saturation.{IsCovered}
use Rattle.inst_calculus.proofs.CoveredInstances.{covered_when_grown}
use Rattle.inst_calculus.proofs.Membership.{◌∈◌, in_all, in_map, from_map, contains_in, in_contains, equal_in}
use Rattle.term_bank.specs.Forest.{Forest, clause_at}
use Rattle.cert_format.specs.Certificate as format
use Rattle.cert_format.specs.Certificate.{selected_members}
use Rattle.cert_format.specs.Validity.{SelectsAt}
use Rattle.cert_format.specs.declared.complaint.Complaint.TheVariants.{Member as Derived}
use Rattle.cert_format.proofs.Numbers.{in_slice_get, same_item, slice_get_of_map}
use Rattle.cert_format.proofs.SelectedMembers.{selected_number, selected_is_member}
use Rattle.unify_core.specs.Chains.{AreBindings}
use Rattle.unify_core.specs.Sides.{Binding, IsResolvedBy, of_pair, of_side}
use Rattle.unify_core.specs.declared.side.Side.{Side}
use Rattle.unify_core.specs.declared.side.Side.TheVariants.{Left, Right}
use Rattle.clause_form.proofs.Leaves.{resolved_later}
use Rattle.cert_values.specs.declared.member.Member.{Member}
use Rattle.cert_values.specs.declared.certificate.Saturation.{Saturation}
use Rattle.cert_values.specs.Values.{base_of, saturation_of, entry_of}
use Rattle.cert_values.specs.Wholes.{IsWholeSaturation, HasPlaces, KeepsSaturation}
use Rattle.cert_format.specs.Validity.{IsValidBase}
use Rattle.cert_check.specs.Closings.{IsGeneralOn, IsSideCovered, IsSideClosed, IsProperOn, IsProperSomewhere, IsPairClosed}
use Rattle.cert_check.specs.Grounds.{AreCanonicalMembers}
use Rattle.cert_check.proofs.Bases.{member_canonical}
use Rattle.cert_check.proofs.CoverLaws.{clause_of}
use Rattle.cert_check.proofs.Saturations.{saturation_same}

module _ (c : Saturation) where
  pub canonical_members : IsValidBase (base_of c.base) → AreCanonicalMembers c.base.bank c.base.members
  canonical_members valid = in_all (λ (m : Member). IsCanonical (clause_at c.base.bank m.clause)) c.base.members (λ m i.
      let (k, at) = in_slice_get (entry_of c.base.bank m) (map (entry_of c.base.bank) c.base.members) (in_map (entry_of c.base.bank) m c.base.members i) in
      member_canonical (base_of c.base) (suc k) (valid (Derived (suc k))) (entry_of c.base.bank m) at)

  -- the clauses with a selected literal are the members'
  module _ (placed : HasPlaces (saturation_of c)) where
    in_selected : (d : TreeClause) → d ∈ map (clause_of c.base.bank) c.base.members → d ∈ member_clauses (selected_members (saturation_of c))
    in_selected d i =
        let (m, j, same) = from_map (clause_of c.base.bank) d c.base.members i in
        let (k, at) = in_slice_get (entry_of c.base.bank m) (map (entry_of c.base.bank) c.base.members) (in_map (entry_of c.base.bank) m c.base.members j) in
        let within : k < length (saturation_of c).base.members = slice_get_within (map (entry_of c.base.bank) c.base.members) k (entry_of c.base.bank m) at in
        let (s, h) = placed (suc k) (omega arith) (omega (arith, within)) in
        let e : s.clause ≡ d = h.clause ∙ ap (λ (x : Entry). x.clause) (same_item (slice_get (map (entry_of c.base.bank) c.base.members) k) h.entry (entry_of c.base.bank m) h.entry_at at) ∙ same in
        equal_in s.clause d (member_clauses (selected_members (saturation_of c))) e
        (in_map (λ (x : SelectedClause). x.clause) s (selected_members (saturation_of c)) (selected_is_member (saturation_of c) k s h))

    from_selected : (d : TreeClause) → d ∈ member_clauses (selected_members (saturation_of c)) → d ∈ map (clause_of c.base.bank) c.base.members
    from_selected d i =
        let (s, j, same) = from_map (λ (x : SelectedClause). x.clause) d (selected_members (saturation_of c)) i in
        let (k, h) = selected_number (saturation_of c) s j in
        let (m, at, is) = slice_get_of_map (entry_of c.base.bank) c.base.members k h.entry h.entry_at in
        equal_in (clause_at c.base.bank m.clause) d (map (clause_of c.base.bank) c.base.members) (ap (λ (x : Entry). x.clause) is ∙ sym h.clause ∙ same)
        (in_map (clause_of c.base.bank) m c.base.members (contains_in m c.base.members (at_number_contains c.base.members (suc k) m at)))

    pub selected_cover : (d e : TreeClause) → IsCovered (map (clause_of c.base.bank) c.base.members) d e ↔ IsCovered (member_clauses (selected_members (saturation_of c))) d e
    selected_cover d e =
        let xs = map (clause_of c.base.bank) c.base.members in
        let ys = member_clauses (selected_members (saturation_of c)) in (
          covered_when_grown xs ys (in_all _ xs (λ x i. in_contains x ys (in_selected x i))) d e,
          covered_when_grown ys xs (in_all _ ys (λ x i. in_contains x xs (from_selected x i))) d e,
        )

    -- what was found of member i
    pub side_covered : (es : List Binding) (x : Side) (i : ℕ) (m : Member) → i < length c.base.members → m ≡ get_or c.base.members i m → (r : Bool)
        → ((s : Sided) → IsResolvedBy c.base.bank es s → IsTrue r ↔ IsCovered (map (clause_of c.base.bank) c.base.members) (clause_at c.base.bank m.clause) (instance (of_side s x) (clause_at c.base.bank m.clause)))
        → IsSideCovered c es x (suc i) r
    side_covered es x i m within is r h s resolved n sel =
        let (k, at, e) = slice_get_of_map (entry_of c.base.bank) c.base.members i sel.entry sel.entry_at in
        let same : k ≡ m = same_Some k m (sym at ∙ slice_get-get_or c.base.members i m within ∙ ap Some (sym is)) in
        let clause : clause_at c.base.bank m.clause ≡ n.clause = ap (clause_of c.base.bank) (sym same) ∙ ap (λ (y : Entry). y.clause) e ∙ sym sel.clause in
        subst (λ (d : TreeClause). IsTrue r ↔ IsCovered (member_clauses (selected_members (saturation_of c))) d (instance (of_side s x) d)) clause (
          (λ t. (selected_cover _ _).0 ((h s resolved).0 t)),
          (λ v. (h s resolved).1 ((selected_cover _ _).1 v)),
        )

    pub covered_here : (es : List Binding) (x : Side) (i : ℕ) (m : Member) (ms : List Member) → ms ≡ c.base.members → i < length c.base.members → m ≡ get_or ms i m → (r : Bool)
        → ((s : Sided) → IsResolvedBy c.base.bank es s → IsTrue r ↔ IsCovered (map (clause_of c.base.bank) ms) (clause_at c.base.bank m.clause) (instance (of_side s x) (clause_at c.base.bank m.clause)))
        → IsSideCovered c es x (suc i) r
    covered_here es x i m ms same within is r h =
        side_covered es x i m within (is ∙ ap (λ (ns : List Member). get_or ns i m) same) r
        (subst (λ (ns : List Member). (s : Sided) → IsResolvedBy c.base.bank es s → IsTrue r ↔ IsCovered (map (clause_of c.base.bank) ns) (clause_at c.base.bank m.clause) (instance (of_side s x) (clause_at c.base.bank m.clause))) same h)

-- what holds over a grown bank held before
module _ (old new : Saturation) (whole : IsWholeSaturation old) (kept : KeepsSaturation old new) where
  pub side_before : (es : List Binding) → AreBindings old.base.bank es → (x : Side) (i j : ℕ) (r : Bool) → IsSideClosed new es x i j r → IsSideClosed old es x i j r
  side_before es b x i j r h s resolved m n at_m at_n g =
      let same = saturation_same old new whole kept in
      subst (λ (y : format.Saturation). IsTrue r ↔ (IsProper (of_side s x) m.selected.atom → IsCovered (member_clauses (selected_members y)) m.clause (instance (of_side s x) m.clause))) same
      (h s (resolved_later old.base.bank new.base.bank es s kept.base.bank b resolved) m n (subst (λ (y : format.Saturation). SelectsAt y i m) (sym same) at_m) (subst (λ (y : format.Saturation). SelectsAt y j n) (sym same) at_n) g)

pub decided : {P : Type 0} (b : Bool) → (b ≡ true → P) → (b ≡ false → ¬ P) → IsTrue b ↔ P
decided true y n = ((λ t. y refl), (λ p. refl))
decided false y n = ((λ t. absurd (let e : false ≡ true = t in cc)), (λ p. absurd (n refl p)))

-- the answer of one side
abbrev pub ProperOn : Forest → List Binding → Side → Type 0
ProperOn f es x = (a b : Tree) (s : Sided) → IsResolvedBy f es s → IsMostGeneral s a b → IsProper (of_side s x) (of_pair x a b)

abbrev pub NotProperOn : Forest → List Binding → Side → Type 0
NotProperOn f es x = (a b : Tree) (s : Sided) → IsResolvedBy f es s → IsMostGeneral s a b → ¬ (IsProper (of_side s x) (of_pair x a b))

pub proper_first : (f : Forest) (es : List Binding) → ProperOn f es Left → IsProperSomewhere f es true
proper_first f es h s resolved a b g = ((λ t. inl (h a b s resolved g)), (λ p. refl))

pub proper_second : (f : Forest) (es : List Binding) (r : Bool) → NotProperOn f es Left → (r ≡ true → ProperOn f es Right) → (r ≡ false → NotProperOn f es Right) → IsProperSomewhere f es r
proper_second f es r none is not s resolved a b g =
    let by : IsTrue r ↔ IsProper s.right b = decided r (λ t. is t a b s resolved g) (λ t. not t a b s resolved g) in
    ((λ t. inr (by.0 t)), (λ h. elim h [ inl p ↦ absurd (none a b s resolved g p) | inr p ↦ by.1 p ]))

pub proper_there : (f : Forest) (es : List Binding) (x : Side) → ProperOn f es x → (a b : Tree) (s : Sided) → IsResolvedBy f es s → IsGeneralOn x s a b → IsProper (of_side s x) a
proper_there f es Left h a b s resolved g = h a b s resolved g
proper_there f es Right h a b s resolved g = h b a s resolved g

pub not_proper_there : (f : Forest) (es : List Binding) (x : Side) → NotProperOn f es x → (a b : Tree) (s : Sided) → IsResolvedBy f es s → IsGeneralOn x s a b → ¬ (IsProper (of_side s x) a)
not_proper_there f es Left h a b s resolved g = h a b s resolved g
not_proper_there f es Right h a b s resolved g = h b a s resolved g

pub proper_on : (f : Forest) (es : List Binding) (x : Side) → ProperOn f es x → IsProperOn f es x true
proper_on f es x h s resolved a b g = ((λ t. proper_there f es x h a b s resolved g), (λ p. refl))

pub not_proper_on : (f : Forest) (es : List Binding) (x : Side) → NotProperOn f es x → IsProperOn f es x false
not_proper_on f es x h s resolved a b g = ((λ t. absurd (let e : false ≡ true = t in cc)), (λ p. absurd (not_proper_there f es x h a b s resolved g p)))

-- the right side in a bank that has grown
pub proper_sides : (f g : Forest) (es : List Binding) (l r : Bool) → ((s : Sided) → IsResolvedBy f es s → IsResolvedBy g es s) → IsProperOn f es Left l → IsProperOn g es Right r → IsProperSomewhere f es (l || r)
proper_sides f g es true r later left right s resolved a b u = ((λ t. inl ((left s resolved a b u).0 refl)), (λ p. refl))
proper_sides f g es false r later left right s resolved a b u =
    let by : IsTrue r ↔ IsProper s.right b = right s (later s resolved) b a u in
    ((λ t. inr (by.0 t)), (λ h. elim h [ inl p ↦ absurd (let e : false ≡ true = (left s resolved a b u).1 p in cc) | inr p ↦ by.1 p ]))

module _ (c : Saturation) (es : List Binding) where
  pub side_not_proper : (x : Side) (i j : ℕ) → NotProperOn c.base.bank es x → IsSideClosed c es x i j true
  side_not_proper x i j none s resolved m n at_m at_n g = ((λ t p. absurd (not_proper_there c.base.bank es x none m.selected.atom n.selected.atom s resolved g p)), (λ h. refl))

  pub side_proper : (x : Side) (i j : ℕ) → ProperOn c.base.bank es x → (r : Bool) → IsSideCovered c es x i r → IsSideClosed c es x i j r
  side_proper x i j proper r h s resolved m n at_m at_n g = (
    (λ t p. (h s resolved m at_m).0 t),
    (λ k. (h s resolved m at_m).1 (k (proper_there c.base.bank es x proper m.selected.atom n.selected.atom s resolved g))),
  )

  pub open_left : (i j : ℕ) (r : Bool) → r ≡ false → IsSideClosed c es Left i j r → IsPairClosed c es i j false
  open_left i j r e h s resolved m n p q g = (
    (λ t. absurd (let k : false ≡ true = t in cc)),
    (λ k. absurd (let t : r ≡ true = (h s resolved m n p q g).1 k.left in let u : false ≡ true = sym e ∙ t in cc)),
  )

  pub both_sides : (i j : ℕ) (somewhere left r : Bool) → somewhere ≡ true → left ≡ true → IsProperSomewhere c.base.bank es somewhere → IsSideClosed c es Left i j left → IsSideClosed c es Right j i r → IsPairClosed c es i j r
  both_sides i j somewhere left r e f some h k s resolved m n p q g =
      let a = m.selected.atom in
      let b = n.selected.atom in (
        (λ t. record { proper = (some s resolved a b g).0 e; left = (h s resolved m n p q g).0 f; right = (k s resolved n m q p g).0 t }),
        (λ closed. (k s resolved n m q p g).1 closed.right),
      )
