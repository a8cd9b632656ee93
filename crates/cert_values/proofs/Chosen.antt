-- The literal at the place of a member.
use Rattle.std.proofs.Common.{◌≡◌, ℕ, zero, suc, ◌<◌, ◌≤◌, ◌-◌, List, length, map, get_or, Some, sym, ap, ◌∙◌, subst, arith}
use Rattle.std.specs.Prelude.{slice_get}
use Rattle.std.proofs.lemmas.List.{length-map}
use Rattle.std.proofs.lemmas.Option.{slice_get_within, slice_get-get_or, get_or_from_slice_get}
use Rattle.inst_logic.specs.declared.signed.Signed.{Signed}
use Rattle.inst_logic.specs.Derivations.{at_number}
use Rattle.inst_calculus.specs.Entries.{Entry}
use Rattle.inst_calculus.specs.Models.{SelectedClause}
use Rattle.term_bank.specs.Forest.{literal_tree, clause_at}
use Rattle.cert_format.specs.Validity.{SelectsAt}
use Rattle.cert_format.proofs.Numbers.{slice_get_of_map, same_item}
use Rattle.cert_format.proofs.SelectedMembers.{selected_once}
use Rattle.cert_values.specs.declared.member.Member.{Member}
use Rattle.cert_values.specs.declared.certificate.Saturation.{Saturation}
use Rattle.cert_values.specs.SelectedLiteral.{IsSelectedLiteral}
use Rattle.cert_values.specs.Values.{saturation_of, entry_of}
use Rattle.cert_values.specs.Wholes.{IsWholeClause, IsWholeSaturation, HasPlaces}

-- the place of member i + 1, less one, and the literal there
record IsChosen (c : Saturation) (i : ℕ) (x : Member) : Type 0 where
  place : ℕ
  literal : Signed ℕ
  place_at : slice_get c.places i ≡ Some (suc place)
  literal_here : slice_get x.clause place ≡ Some literal
  stands : IsSelectedLiteral c (suc i) literal

module _ (c : Saturation) (whole : IsWholeSaturation c) (i : ℕ) where
  literal_of : (x : Member) → slice_get c.base.members i ≡ Some x → (m : SelectedClause) → SelectsAt (saturation_of c) (suc i) m
      → (place : ℕ) → slice_get c.places i ≡ Some (suc place) → (literal : Signed ℕ) → slice_get x.clause place ≡ Some literal → literal_tree c.base.bank literal ≡ m.selected
      → IsChosen c i x
  literal_of x at m s place place_at literal here same =
      let b : place < length x.clause = slice_get_within x.clause place literal here in
      let w : i < length c.base.members = slice_get_within c.base.members i x at in
      let r : IsWholeClause c.base.bank (get_or c.base.members i x).clause = whole.members i x w in
      let q : IsWholeClause c.base.bank x.clause = subst (λ (y : Member). IsWholeClause c.base.bank y.clause) (get_or_from_slice_get c.base.members i x x at) r in
      let t : (get_or x.clause place literal).atom < length c.base.bank.trees = q.ids place literal b in
      let l : get_or x.clause place literal ≡ literal = get_or_from_slice_get x.clause place literal literal here in
      record {
        place = place;
        literal = literal;
        place_at = place_at;
        literal_here = here;
        stands = record { member = m; is = s; within = subst (λ (k : Signed ℕ). k.atom < length c.base.bank.trees) l t; literal = sym same };
      }

  chosen_by : (x : Member) → slice_get c.base.members i ≡ Some x → (m : SelectedClause) → SelectsAt (saturation_of c) (suc i) m → IsChosen c i x
  chosen_by x at m s = by_place s.place s.place_at here
    where
      entry : entry_of c.base.bank x ≡ s.entry
      entry =
          let (y, y_at, same) = slice_get_of_map (entry_of c.base.bank) c.base.members i s.entry s.entry_at in
          ap (entry_of c.base.bank) (same_item (slice_get c.base.members i) x y at y_at) ∙ same

      here : at_number (clause_at c.base.bank x.clause) s.place ≡ Some m.selected
      here = ap (λ (e : Entry). at_number e.clause s.place) entry ∙ s.selected

      by_place : (p : ℕ) → slice_get c.places i ≡ Some p → at_number (clause_at c.base.bank x.clause) p ≡ Some m.selected → IsChosen c i x
      by_place zero p_at e = absurd cc
      by_place (suc p) p_at e =
          let (l, l_at, same) = slice_get_of_map (literal_tree c.base.bank) x.clause p m.selected e in
          literal_of x at m s p p_at l l_at same

  module _ (placed : HasPlaces (saturation_of c)) (h : i < length c.base.members) where
    chosen : (x : Member) → slice_get c.base.members i ≡ Some x → IsChosen c i x
    chosen x at =
        let (m, s) = placed (suc i) (omega arith) (omega (arith, length-map c.base.members (entry_of c.base.bank))) in
        chosen_by x at m s

    here_at : (x : Member) → x ≡ get_or c.base.members i x → slice_get c.base.members i ≡ Some x
    here_at x e = slice_get-get_or c.base.members i x h ∙ ap Some (sym e)

    pub place_is_right : (xs : List Member) → xs ≡ c.base.members → (x : Member) → x ≡ get_or xs i x → (ps : List ℕ) → ps ≡ c.places → (ls : List (Signed ℕ)) → ls ≡ x.clause
        → (1 ≤ get_or ps i 0) × (get_or ps i 0 - 1 < length ls)
    place_is_right xs same_members x e ps same_places ls same_clause =
        let k = chosen x (here_at x (e ∙ ap (λ (ys : List Member). get_or ys i x) same_members)) in
        let p : get_or c.places i 0 ≡ suc k.place = get_or_from_slice_get c.places i (suc k.place) 0 k.place_at in
        let q : get_or ps i 0 ≡ suc k.place = ap (λ (qs : List ℕ). get_or qs i 0) same_places ∙ p in
        let w : k.place < length x.clause = slice_get_within x.clause k.place k.literal k.literal_here in
        let v : length ls ≡ length x.clause = ap (λ (ms : List (Signed ℕ)). length ms) same_clause in
        (omega arith, omega arith)

    pub literal_is_selected : (xs : List Member) → xs ≡ c.base.members → (x : Member) → x ≡ get_or xs i x → (ps : List ℕ) → ps ≡ c.places → (ls : List (Signed ℕ)) → ls ≡ x.clause
        → (l : Signed ℕ) → l ≡ get_or ls (get_or ps i 0 - 1) l → IsSelectedLiteral c (suc i) l
    literal_is_selected xs same_members x e ps same_places ls same_clause l l_is =
        let k = chosen x (here_at x (e ∙ ap (λ (ys : List Member). get_or ys i x) same_members)) in
        let p : get_or c.places i 0 ≡ suc k.place = get_or_from_slice_get c.places i (suc k.place) 0 k.place_at in
        let q : get_or ps i 0 ≡ suc k.place = ap (λ (qs : List ℕ). get_or qs i 0) same_places ∙ p in
        let r : get_or ps i 0 - 1 ≡ k.place = omega arith in
        let t : get_or ls (get_or ps i 0 - 1) l ≡ k.literal = ap (λ (ms : List (Signed ℕ)). get_or ms (get_or ps i 0 - 1) l) same_clause ∙ ap (λ n. get_or x.clause n l) r ∙ get_or_from_slice_get x.clause k.place k.literal l k.literal_here in
        subst (λ (y : Signed ℕ). IsSelectedLiteral c (suc i) y) (sym (l_is ∙ t)) k.stands

-- the literal of ids that a member selects
pub literal_of_member : (c : Saturation) → IsWholeSaturation c → (i : ℕ) (m : SelectedClause) → SelectsAt (saturation_of c) (suc i) m → (l : Signed ℕ) × IsSelectedLiteral c (suc i) l × (m.selected ≡ literal_tree c.base.bank l)
literal_of_member c whole i m s =
    let (x, at, same) = slice_get_of_map (entry_of c.base.bank) c.base.members i s.entry s.entry_at in
    let k = chosen_by c whole i x at m s in
    let e : m ≡ k.stands.member = selected_once (saturation_of c).base.members (saturation_of c).places (suc i) m k.stands.member s k.stands.is in
    (k.literal, k.stands, ap (λ (y : SelectedClause). y.selected) e ∙ k.stands.literal)

-- a selected literal's number is that of a member
pub number_within : (c : Saturation) (n : ℕ) (l : Signed ℕ) → IsSelectedLiteral c n l → (0 < n) × (n ≤ length c.base.members)
number_within c zero l s = absurd (cc (s.is.entry_at))
number_within c (suc k) l s =
    let w : k < length (map (entry_of c.base.bank) c.base.members) = slice_get_within (map (entry_of c.base.bank) c.base.members) k s.is.entry s.is.entry_at in
    (omega arith, omega (arith, length-map c.base.members (entry_of c.base.bank)))
