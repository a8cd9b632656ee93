-- What is named for a clause covers it, or justifies it.
use Rattle.std.proofs.Common.{◌≡◌, inl, inr, ℕ, zero, suc, ◌+◌, ◌<◌, List, [], ◌∷◌, ◌++◌, true, false, length, map, get_or, Option, None, Some, refl, ap, sym, ◌∙◌, subst, arith}
use Rattle.std.specs.Prelude.{All, Any, IfNone, IfSome, option_map}
use Rattle.std.specs.List.{AllZip}
use Rattle.std.proofs.lemmas.List.{get_or_default, length-map, map-append}
use Rattle.std.proofs.lemmas.List.Elements.{All-push}
use Rattle.std.proofs.lemmas.Option.{slice_get-map, slice_get-get_or, same_Some}
use Rattle.inst_logic.specs.declared.signed.Signed.{Signed}
use Rattle.inst_logic.specs.Tree.{Tree}
use Rattle.inst_logic.specs.Signed.{IsTautology}
use Rattle.inst_logic.specs.Clauses.{TreeClause, Subsumes, IsCanonical, canonical_form, instance}
use Rattle.inst_logic.specs.Derivations.{at_number}
use Rattle.inst_logic.specs.Unifiers.{Sided}
use Rattle.inst_logic.specs.WellFormed.{IsAtom, IsFormedClause, atom_is_formed}
use Rattle.inst_calculus.specs.Entries.{Entry}
use Rattle.inst_calculus.specs.Models.{SelectedClause}
use Rattle.inst_calculus.proofs.Membership.{in_all, in_map, passes}
use Rattle.inst_calculus.specs.Saturation.{IsCovered}
use Rattle.cert_format.specs.Certificate as format
use Rattle.cert_format.specs.Dues.{Due}
use Rattle.cert_format.specs.TermLists.{HoldsBy, IsPartBy, Justifies}
use Rattle.cert_format.specs.Validity.{IsCoverOf, SelectsAt}
use Rattle.cert_format.proofs.Numbers.{slice_get_of_map}
use Rattle.term_bank.proofs.Clauses.{clause_extends}
use Rattle.term_bank.specs.Forest.{Forest, AreDistinct, Extends, IsClauseOf, clause_at, literal_tree, tree_at}
use Rattle.cert_values.specs.declared.certificate.By.{By}
use Rattle.cert_values.specs.declared.certificate.By.TheVariants.{Tautology, Variant, Part}
use Rattle.cert_values.specs.declared.member.Member.{Member}
use Rattle.cert_values.specs.declared.certificate.Cover.{Cover}
use Rattle.cert_values.specs.declared.certificate.Covered.{Covered}
use Rattle.cert_values.specs.declared.certificate.Saturation.{Saturation}
use Rattle.cert_values.specs.Values.{by_of, cover_of, covered_of, entry_of, saturation_of}
use Rattle.cert_values.specs.Wholes.{IsWholeBy, IsWholeClause, IsWholeCover, IsWholeCovered, IsWholeSaturation, IsWholeTerm, KeepsSaturation}
use Rattle.cert_values.proofs.Grown.{bys_grown, clause_grown, covers_grown, covers_same, members_same}
use Rattle.cert_values.proofs.Kept.{saturation_same}
use Rattle.unify_core.specs.Sides.{Binding, IsResolvedBy, of_side}
use Rattle.unify_core.specs.declared.side.Side.{Side}
use Rattle.cert_check.specs.Covers.{IsCoveredIn}
use Rattle.cert_index.specs.Shorter.{ShorterOf}
use Rattle.cert_check.specs.Grounds.{AreCanonicalMembers}
use Rattle.cert_check.specs.declared.naming.Named.{Named}
use Rattle.cert_check.specs.DueSteps.{AreNamed, due_of}
use Rattle.cert_check.specs.Names.{IsCoverBy, IsPartOf, IsShownBy, NamesInstance, NamesSide}
use Rattle.cert_check.specs.Sides.{left_number, right_number}
use Rattle.cert_index.specs.Places.{IsPlaceOf}
use Rattle.cert_check.proofs.CoverLaws.{clause_of, covered_in, known_covers, shorter_covers}
use Rattle.cert_check.proofs.DueLaws.{one_named}
use Rattle.cert_check.proofs.InputScans.{subsumes_itself}

has_item : {A : Type 0} (xs : List A) (k : ℕ) → k < length xs → (x : A) × (get_or xs k x ≡ x)
has_item [] k less = absurd (omega (arith, less))
has_item (x ∷ xs) zero less = (x, refl)
has_item (x ∷ xs) (suc k) less = has_item xs k (omega (arith, less))

pub any_of_place : (P : Member → Type 0) (ms : List Member) (k : ℕ) → IsPlaceOf P ms k → Any P ms
any_of_place P ms k h = let (m, is) = has_item ms k h.within in (k, m, h.within, is, subst P is (h.holds m))

-- the member at a place by its number
entry_there : (f : Forest) (ms : List Member) (k n : ℕ) → n ≡ suc k → (m : Member) → k < length ms → get_or ms k m ≡ m → at_number (map (entry_of f) ms) n ≡ Some (entry_of f m)
entry_there f ms k n number m within is =
    ap (at_number (map (entry_of f) ms)) number ∙ slice_get-map (entry_of f) ms k ∙ ap (option_map (entry_of f)) (slice_get-get_or ms k m within ∙ ap Some is)

part_made : (f g : Forest) (ms : List Member) (k : ℕ) (c : List (Signed ℕ)) (ids : List ℕ) → All (IsWholeTerm g) ids → (m : Member) → k < length ms
    → IsPartBy (clause_at f (get_or ms k m).clause) (clause_at f c) (map (tree_at g) ids) → (n : ℕ) → n ≡ suc k → IsPartOf f g ms k c (Part n ids)
part_made f g ms k c ids whole m within part n number = record {
  terms = ids;
  is = ap (λ x. Part x ids) number;
  whole = whole;
  part = λ d. subst (λ (x : Member). IsPartBy (clause_at f x.clause) (clause_at f c) (map (tree_at g) ids)) (get_or_default ms k m d within) part;
}

pub part_is : (f g : Forest) (ms : List Member) (k : ℕ) (c : List (Signed ℕ)) (ids : List ℕ) → All (IsWholeTerm g) ids → (m : Member) → k < length ms
    → IsPartBy (clause_at f (get_or ms k m).clause) (clause_at f c) (map (tree_at g) ids) → IsPartOf f g ms k c (Part (k + 1) ids)
part_is f g ms k c ids whole m within part = part_made f g ms k c ids whole m within part (k + 1) (omega arith)

module _ (f g : Forest) (ms : List Member) (n : ℕ) (c : List (Signed ℕ)) where
  pub tautology_covers : IsTautology (clause_at f c) → IsCoverBy f g ms n c Tautology
  tautology_covers t = record { covered = inl t; whole = tt; holds = λ w long. t }

  pub variant_covers : AreDistinct f.trees → All (λ m. IsClauseOf f m.clause) ms → AreCanonicalMembers f ms → IsClauseOf f c → IsCanonical (clause_at f c) → (k : ℕ) → IsPlaceOf (λ m. m.clause ≡ c) ms k → IsCoverBy f g ms n c (Variant (k + 1))
  variant_covers distinct ids canonical inside form k place =
      let (m, is) = has_item ms k place.within in
      let same : m.clause ≡ c = subst (λ (x : Member). x.clause ≡ c) is (place.holds m) in
      record {
        covered = known_covers f ms distinct ids canonical c inside form n (any_of_place (λ m. m.clause ≡ c) ms k place);
        whole = tt;
        holds = λ w long. (entry_of f m, entry_there f ms k (k + 1) (omega arith) m place.within is, ap (λ d. canonical_form (clause_at f d)) (sym same));
      }

  pub part_covers : (k : ℕ) → IsPlaceOf (ShorterOf f n c) ms k → (by : By) → IsPartOf f g ms k c by → IsCoverBy f g ms n c by
  part_covers k place by h =
      let (m, is) = has_item ms k place.within in
      let short : ShorterOf f n c m = subst (ShorterOf f n c) is (place.holds m) in
      let part : IsPartBy (clause_at f m.clause) (clause_at f c) (map (tree_at g) h.terms) = subst (λ (x : Member). IsPartBy (clause_at f x.clause) (clause_at f c) (map (tree_at g) h.terms)) is (h.part m) in
      record {
        covered = let (q, x, w, e, p) = any_of_place (ShorterOf f n c) ms k place in inr (q, x, w, e, inr p);
        whole = subst (IsWholeBy g) (sym h.is) h.whole;
        holds = λ w long. subst (λ (b : By). HoldsBy (map (entry_of f) ms) w (clause_at f c) (by_of g b)) (sym h.is)
            (entry_of f m, entry_there f ms k (suc k) refl m place.within is, omega (arith, short.0, long), part);
      }

pub none_covers : (f : Forest) (ms : List Member) (n : ℕ) (c : List (Signed ℕ)) → AreDistinct f.trees → All (λ m. IsClauseOf f m.clause) ms → AreCanonicalMembers f ms → IsClauseOf f c → IsCanonical (clause_at f c)
    → ¬ IsTautology (clause_at f c) → ¬ Any (λ (m : Member). m.clause ≡ c) ms → ¬ Any (ShorterOf f n c) ms → ¬ IsCoveredIn f ms n c
none_covers f ms n c distinct ids canonical inside form other unknown longer covered =
    let t : false ≡ true = (shorter_covers f ms distinct ids canonical c inside form n false other unknown ((λ t. absurd (let e : false ≡ true = t in cc)), (λ any. absurd (longer any)))).1 covered in
    cc

module _ (f g : Forest) (ms : List Member) (c : List (Signed ℕ)) where
  pub tautology_shows : IsTautology (clause_at f c) → IsShownBy f g ms c Tautology
  tautology_shows t = record { whole = tt; justified = t; met = inl t }

  pub part_shows : (k : ℕ) → IsPlaceOf (λ m. Subsumes (clause_at f m.clause) (clause_at f c)) ms k → (by : By) → IsPartOf f g ms k c by → IsShownBy f g ms c by
  part_shows k place by h =
      let (m, is) = has_item ms k place.within in
      let part : IsPartBy (clause_at f m.clause) (clause_at f c) (map (tree_at g) h.terms) = subst (λ (x : Member). IsPartBy (clause_at f x.clause) (clause_at f c) (map (tree_at g) h.terms)) is (h.part m) in
      record {
        whole = subst (IsWholeBy g) (sym h.is) h.whole;
        justified = subst (λ (b : By). Justifies (map (entry_of f) ms) (clause_at f c) (by_of g b)) (sym h.is) (entry_of f m, entry_there f ms k (suc k) refl m place.within is, part);
        met = inr (any_of_place (λ m. Subsumes (clause_at f m.clause) (clause_at f c)) ms k place);
      }

pub member_ids : (f : Forest) (ms : List Member) → All (λ m. IsWholeClause f m.clause) ms → All (λ m. IsClauseOf f m.clause) ms
member_ids f ms whole k d less = (whole k d less).ids

pub if_none_then : {A : Type 0} {P Q : Type 0} (o : Option A) → IfNone o P → (P → Q) → IfNone o Q
if_none_then None h f = f h
if_none_then (Some a) h f = tt

pub place_subsumes : (f : Forest) (n : ℕ) (c : List (Signed ℕ)) (ms : List Member) (k : ℕ) → IsPlaceOf (ShorterOf f n c) ms k → IsPlaceOf (λ m. Subsumes (clause_at f m.clause) (clause_at f c)) ms k
place_subsumes f n c ms k h = record { within = h.within; holds = λ m. (h.holds m).1 }

pub place_same : (f : Forest) (c : List (Signed ℕ)) (ms : List Member) (k : ℕ) → IsPlaceOf (λ m. m.clause ≡ c) ms k → IsPlaceOf (λ m. Subsumes (clause_at f m.clause) (clause_at f c)) ms k
place_same f c ms k h = record { within = h.within; holds = λ m. subst (λ (d : List (Signed ℕ)). Subsumes (clause_at f d) (clause_at f c)) (sym (h.holds m)) (subsumes_itself (clause_at f c)) }

pub by_some : (f g : Forest) (ms : List Member) (len n : ℕ) (d : List (Signed ℕ)) → len ≡ n → (o : Option By) (by : By) → IfSome o (IsCoverBy f g ms len d) → o ≡ Some by → IsCoverBy f g ms n d by
by_some f g ms len n d same o by h is = subst (λ k. IsCoverBy f g ms k d by) same (subst (λ x. IfSome x (IsCoverBy f g ms len d)) is h)

pub by_none : (f : Forest) (ms : List Member) (len n : ℕ) (d : List (Signed ℕ)) → len ≡ n → (o : Option By) → IfNone o (¬ IsCoveredIn f ms len d) → o ≡ None → ¬ IsCoveredIn f ms n d
by_none f ms len n d same o h is = subst (λ k. ¬ IsCoveredIn f ms k d) same (subst (λ x. IfNone x (¬ IsCoveredIn f ms len d)) is h)

-- ---- instances

atoms_of_formed : (g : Forest) (d : List (Signed ℕ)) → IsFormedClause (clause_at g d) → All (λ l. IsAtom (tree_at g l.atom)) d
atoms_of_formed g d h = in_all (λ (l : Signed ℕ). IsAtom (tree_at g l.atom)) d (λ l i.
    passes (λ (x : Signed Tree). atom_is_formed x.atom) (clause_at g d) h (literal_tree g l) (in_map (literal_tree g) l d i))

pub formed_whole : (g : Forest) (d : List (Signed ℕ)) → IsClauseOf g d → IsFormedClause (clause_at g d) → IsWholeClause g d
formed_whole g d ids formed = record { ids = ids; atoms = atoms_of_formed g d formed }

module _ (f g h : Forest) (grown : Extends f g) (more : Extends g h) (ms : List Member) (whole : All (λ m. IsWholeClause f m.clause) ms) (es : List Binding) (x : Side) (c d : List (Signed ℕ)) (inside : IsWholeClause g d)
    (made : (s : Sided) → IsResolvedBy f es s → clause_at g d ≡ canonical_form (instance (of_side s x) (clause_at f c))) where
  pub instance_named : (by : By) → IsCoverBy g h ms (length c) d by → NamesInstance f h es x ms c (record { clause = d; by = by })
  instance_named by covers =
      let same : clause_at h d ≡ clause_at g d = clause_extends g h more d inside.ids in
      let held = covers.holds (clause_at f c) (length-map c (literal_tree f)) in
      record {
        clause = clause_grown g h more d inside;
        by = covers.whole;
        is = λ s resolved. same ∙ made s resolved;
        holds = subst (λ (e : TreeClause). HoldsBy (map (entry_of f) ms) (clause_at f c) e (by_of h by)) (sym same)
            (subst (λ (xs : List Entry). HoldsBy xs (clause_at f c) (clause_at g d) (by_of h by)) (members_same f g grown ms whole) held);
      }

  pub instance_covered : IsCoveredIn g ms (length c) d → (s : Sided) → IsResolvedBy f es s → IsCovered (map (clause_of f) ms) (clause_at f c) (instance (of_side s x) (clause_at f c))
  instance_covered covered s resolved = (covered_in f g grown ms whole c d (instance (of_side s x) (clause_at f c)) (made s resolved)).0 covered

  pub instance_open : ¬ IsCoveredIn g ms (length c) d → (s : Sided) → IsResolvedBy f es s → ¬ IsCovered (map (clause_of f) ms) (clause_at f c) (instance (of_side s x) (clause_at f c))
  instance_open none s resolved covered = none ((covered_in f g grown ms whole c d (instance (of_side s x) (clause_at f c)) (made s resolved)).1 covered)

-- of a member
pub side_named : (old new : Saturation) (i : ℕ) (m : Member) → i < length old.base.members → m ≡ get_or old.base.members i m → (es : List Binding) (x : Side) (d : Named)
    → NamesInstance old.base.bank new.base.bank es x old.base.members m.clause d → NamesSide old new es x (suc i) d
side_named old new i m within is es x d h = record {
  clause = h.clause;
  by = h.by;
  names = λ s resolved n sel.
      let f = old.base.bank in
      let (k, at, e) = slice_get_of_map (entry_of f) old.base.members i sel.entry sel.entry_at in
      let same : k ≡ m = same_Some k m (sym at ∙ slice_get-get_or old.base.members i m within ∙ ap Some (sym is)) in
      let clause : clause_at f m.clause ≡ n.clause = ap (clause_of f) (sym same) ∙ ap (λ (y : Entry). y.clause) e ∙ sym sel.clause in (
        subst (λ (w : TreeClause). clause_at new.base.bank d.clause ≡ canonical_form (instance (of_side s x) w)) clause (h.is s resolved),
        subst (λ (w : TreeClause). HoldsBy (saturation_of old).base.members w (clause_at new.base.bank d.clause) (by_of new.base.bank d.by)) clause h.holds,
      );
}

-- ---- one more cover

pub cover_added : (old : Covered) (s : Saturation) → IsWholeCovered old → KeepsSaturation old.cert s → (v : Cover) (ds : List Due) (d : Due) → AreNamed (covered_of old) ds
    → IsCoverOf (saturation_of old.cert).base.members d (cover_of s.base.bank v) → AreNamed (covered_of (record old { cert = s; covers = old.covers ++ v ∷ [] })) (ds ++ d ∷ [])
cover_added old s whole kept v ds d named right =
    let es = (saturation_of old.cert).base.members in
    let g = s.base.bank in
    let members : es ≡ (saturation_of s).base.members = ap (λ (c : format.Saturation). c.base.members) (sym (saturation_same old.cert s whole.cert kept)) in
    let covers : map (cover_of old.cert.base.bank) old.covers ++ cover_of g v ∷ [] ≡ map (cover_of g) (old.covers ++ v ∷ []) =
    ap (λ xs. xs ++ cover_of g v ∷ []) (sym (covers_same old.cert.base.bank g kept.base.bank old.covers whole.covers)) ∙ sym (map-append (cover_of g) old.covers (v ∷ [])) in
    subst (λ (xs : List Entry). AllZip (IsCoverOf xs) (ds ++ d ∷ []) (map (cover_of g) (old.covers ++ v ∷ []))) members
    (subst (λ (xs : List format.Cover). AllZip (IsCoverOf es) (ds ++ d ∷ []) xs) covers (one_named es ds (map (cover_of old.cert.base.bank) old.covers) d (cover_of g v) named right))

pub cover_added_whole : (old : Covered) (s : Saturation) → IsWholeCovered old → KeepsSaturation old.cert s → IsWholeSaturation s → (v : Cover) → IsWholeCover s.base.bank v → IsWholeCovered (record old { cert = s; covers = old.covers ++ v ∷ [] })
cover_added_whole old s whole kept here v more = record {
  cert = here;
  shown = bys_grown old.cert.base.bank s.base.bank kept.base.bank old.shown whole.shown;
  covers = All-push (IsWholeCover s.base.bank) old.covers v (covers_grown old.cert.base.bank s.base.bank kept.base.bank old.covers whole.covers) more;
}

pub due_covered : (old new : Saturation) (es : List Binding) (x : Side) (own other : ℕ) (d : Named) → NamesSide old new es x (suc own) d → (s : Sided) → IsResolvedBy old.base.bank es s → (m : SelectedClause) → SelectsAt (saturation_of old) (suc own) m
    → IsCoverOf (saturation_of old).base.members (due_of x own other m s) (cover_of new.base.bank (record { left = left_number x own other; right = right_number x own other; side = x; clause = d.clause; by = d.by }))
due_covered old new es x own other d h s resolved m sel = record { left = refl; right = refl; side = refl; clause = (h.names s resolved m sel).0; holds = (h.names s resolved m sel).1 }

pub pushed_cover : (old : Covered) (s : Saturation) (covers : List Cover) (v : Cover) → covers ≡ old.covers ++ v ∷ [] → IsWholeCovered (record old { cert = s; covers = old.covers ++ v ∷ [] }) → IsWholeCovered (record old { cert = s; covers = covers })
pushed_cover old s covers v is = subst (λ xs. IsWholeCovered (record old { cert = s; covers = xs })) (sym is)

pub pushed_names : (old : Covered) (s : Saturation) (covers : List Cover) (v : Cover) (ds : List Due) → covers ≡ old.covers ++ v ∷ [] → AreNamed (covered_of (record old { cert = s; covers = old.covers ++ v ∷ [] })) ds → AreNamed (covered_of (record old { cert = s; covers = covers })) ds
pushed_names old s covers v ds is = subst (λ xs. AreNamed (covered_of (record old { cert = s; covers = xs })) ds) (sym is)
