-- The scan over pairs of members.
use Rattle.std.proofs.Common.{◌≡◌, ◌≢◌, ◌↔◌, ◌⊎◌, inl, inr, ℕ, zero, suc, ◌<◌, ◌≤◌, length, refl, ap, sym, ◌∙◌, subst, arith}
use Rattle.std.specs.Prelude.{Bool, IsTrue}
use Rattle.std.proofs.lemmas.Bool.{cases_lt}
use Rattle.std.proofs.lemmas.Option.{slice_get_within}
use Rattle.inst_logic.specs.declared.signed.Signed.{Signed}
use Rattle.inst_logic.specs.Tree.{Tree}
use Rattle.inst_logic.specs.Unifiers.{Sided, IsMostGeneral, IsProper}
use Rattle.inst_calculus.specs.Models.{SelectedClause}
use Rattle.inst_calculus.specs.Saturation.{IsClosed}
use Rattle.inst_calculus.proofs.Choice.{closed_of_choice, proper_of_choice}
use Rattle.term_bank.specs.Forest.{Forest, Extends, tree_at}
use Rattle.cert_format.specs.Certificate as format
use Rattle.cert_format.specs.Certificate.{selected_members}
use Rattle.cert_format.specs.Validity.{IsProperPair, IsRightPair, SelectsAt}
use Rattle.cert_values.specs.declared.certificate.Saturation.{Saturation}
use Rattle.cert_values.specs.SelectedLiteral.{IsSelectedLiteral}
use Rattle.cert_values.specs.Values.{base_of, saturation_of}
use Rattle.cert_values.specs.Wholes.{IsWholeSaturation, HasPlaces, KeepsSaturation}
use Rattle.cert_format.specs.Validity.{IsValidBase}
use Rattle.cert_index.specs.Meetings.{IsApart}
use Rattle.cert_index.proofs.ApartLaws as apart
use Rattle.cert_check.specs.Firsts.{IsFirstWrong}
use Rattle.cert_check.specs.FirstPairs.{IsFirstWrongPair}
use Rattle.cert_check.proofs.Saturations.{saturation_same}

extends_itself : (f : Forest) → Extends f f
extends_itself f = record { trees = (omega arith, λ i h. refl); symbols = (omega arith, λ i h. refl) }

pub keeps_itself : (c : Saturation) → KeepsSaturation c c
keeps_itself c = record { base = record { bank = extends_itself c.base.bank; rest = refl }; rest = refl }

module _ (old new : Saturation) (whole : IsWholeSaturation old) (kept : KeepsSaturation old new) where
  pub valid_kept : IsValidBase (base_of old.base) → IsValidBase (base_of new.base)
  valid_kept = subst (λ (c : format.Saturation). IsValidBase c.base) (sym (saturation_same old new whole kept))

  pub placed_kept : HasPlaces (saturation_of old) → HasPlaces (saturation_of new)
  placed_kept = subst HasPlaces (sym (saturation_same old new whole kept))

-- a fact of pairs that those have which are apart, and those that name no pair
pub record IsOfPairs (c : format.Saturation) (P : ℕ → ℕ → Type 0) : Type 0 where
  pub apart : (l r : ℕ) → IsApart c l r → P l r
  pub unordered : (l r : ℕ) → ¬ (l < r) → P l r

-- numbers that name no members
no_left : (c : format.Saturation) (r : ℕ) → IsApart c zero r
no_left c r m n s t = absurd (cc (s.entry_at))

pub past_right : (c : format.Saturation) (l k : ℕ) → length c.base.members ≤ k → IsApart c l (suc k)
past_right c l k past m n s t =
    let w : k < length c.base.members = slice_get_within c.base.members k t.entry t.entry_at in
    absurd (omega arith)

past_left : (c : format.Saturation) (k r : ℕ) → length c.base.members ≤ k → IsApart c (suc k) r
past_left c k r past m n s t =
    let w : k < length c.base.members = slice_get_within c.base.members k s.entry s.entry_at in
    absurd (omega arith)

pub apart_is_right : (c : format.Saturation) (l r : ℕ) → IsApart c l r → IsRightPair c l r
apart_is_right c l r h less m n s t signs u g = absurd (h m n s t signs u g.unifies)

pub apart_is_proper : (c : format.Saturation) (l r : ℕ) → IsApart c l r → IsProperPair c l r
apart_is_proper c l r h less m n s t signs u g = absurd (h m n s t signs u g.unifies)

pub of_right : (c : format.Saturation) → IsOfPairs c (IsRightPair c)
of_right c = record { apart = apart_is_right c; unordered = λ l r none less m n. absurd (none less) }

pub of_proper : (c : format.Saturation) → IsOfPairs c (IsProperPair c)
of_proper c = record { apart = apart_is_proper c; unordered = λ l r none less m n. absurd (none less) }

module _ (c : format.Saturation) (P : ℕ → ℕ → Type 0) (of : IsOfPairs c P) where
  -- the partners of one member
  module _ (i j : ℕ) (before : (k : ℕ) → k < j → P (suc i) (suc k)) where
    pub first_partner : ¬ P (suc i) (suc j) → IsFirstWrong (P (suc i)) (suc j)
    first_partner wrong = record { applies = wrong; before = earlier }
      where
        earlier : (m : ℕ) → m < suc j → P (suc i) m
        earlier zero h = of.unordered (suc i) zero (λ less. omega arith)
        earlier (suc k) h = before k (omega arith)

    pub all_partners : length c.base.members ≤ j → (n : ℕ) → P (suc i) n
    all_partners past zero = of.unordered (suc i) zero (λ less. omega arith)
    all_partners past (suc k) = elim (cases_lt k j) [ inl less ↦ before k less | inr more ↦ of.apart (suc i) (suc k) (past_right c (suc i) k (omega arith)) ]

  -- all pairs
  module _ (i : ℕ) (before : (k : ℕ) → k < i → (r : ℕ) → P (suc k) r) where
    pub first_pair : (right : ℕ) → IsFirstWrong (P (suc i)) right → IsFirstWrongPair P (suc i) right
    first_pair right h = record { applies = h.applies; before = earlier; beside = h.before }
      where
        earlier : (l : ℕ) → l < suc i → (r : ℕ) → P l r
        earlier zero h r = of.apart zero r (no_left c r)
        earlier (suc k) h r = before k (omega arith) r

    pub all_pairs : length c.base.members ≤ i → (l r : ℕ) → P l r
    all_pairs past zero r = of.apart zero r (no_left c r)
    all_pairs past (suc k) r = elim (cases_lt k i) [ inl less ↦ before k less r | inr more ↦ of.apart (suc k) r (past_left c k r (omega arith)) ]

-- one pair
module _ (c : Saturation) (i j : ℕ) (less : i < j) (l r : Signed ℕ) (left : IsSelectedLiteral c (suc i) l) (right : IsSelectedLiteral c (suc j) r) where
  same_left : (m : SelectedClause) → SelectsAt (saturation_of c) (suc i) m → m ≡ left.member
  same_left = apart.same_left c i j less l r left right

  same_right : (m : SelectedClause) → SelectsAt (saturation_of c) (suc j) m → m ≡ right.member
  same_right = apart.same_right c i j less l r left right

  left_atom : (m : SelectedClause) → SelectsAt (saturation_of c) (suc i) m → m.selected.atom ≡ tree_at c.base.bank l.atom
  left_atom = apart.left_atom c i j less l r left right

  right_atom : (m : SelectedClause) → SelectsAt (saturation_of c) (suc j) m → m.selected.atom ≡ tree_at c.base.bank r.atom
  right_atom = apart.right_atom c i j less l r left right

  pub general_here : (s : Sided) → IsMostGeneral s (tree_at c.base.bank l.atom) (tree_at c.base.bank r.atom) → IsMostGeneral s left.member.selected.atom right.member.selected.atom
  general_here s g =
      subst (λ (x : Tree). IsMostGeneral s x right.member.selected.atom) (sym (left_atom left.member left.is))
      (subst (λ (x : Tree). IsMostGeneral s (tree_at c.base.bank l.atom) x) (sym (right_atom right.member right.is)) g)

  pub opposite_members : ¬ (l.positive ≡ r.positive) → left.member.selected.positive ≢ right.member.selected.positive
  opposite_members other e = other (sym (ap (λ (k : Signed Tree). k.positive) left.literal) ∙ e ∙ ap (λ (k : Signed Tree). k.positive) right.literal)

  -- closed for one most general unifier, and so for each
  pub closed_right : (s : Sided) → IsMostGeneral s (tree_at c.base.bank l.atom) (tree_at c.base.bank r.atom) → IsClosed (selected_members (saturation_of c)) left.member right.member s
      → IsRightPair (saturation_of c) (suc i) (suc j)
  closed_right s g closed below m n p q signs u k =
      let a : IsMostGeneral u left.member.selected.atom n.selected.atom = subst (λ (x : SelectedClause). IsMostGeneral u x.selected.atom n.selected.atom) (same_left m p) k in
      let b : IsMostGeneral u left.member.selected.atom right.member.selected.atom = subst (λ (x : SelectedClause). IsMostGeneral u left.member.selected.atom x.selected.atom) (same_right n q) a in
      let h : IsClosed (selected_members (saturation_of c)) left.member right.member u = closed_of_choice (selected_members (saturation_of c)) left.member right.member s (general_here s g) closed u b in
      let d : IsClosed (selected_members (saturation_of c)) m right.member u = subst (λ (x : SelectedClause). IsClosed (selected_members (saturation_of c)) x right.member u) (sym (same_left m p)) h in
      subst (λ (x : SelectedClause). IsClosed (selected_members (saturation_of c)) m x u) (sym (same_right n q)) d

  pub right_closed : ¬ (l.positive ≡ r.positive) → (s : Sided) → IsMostGeneral s (tree_at c.base.bank l.atom) (tree_at c.base.bank r.atom)
      → IsRightPair (saturation_of c) (suc i) (suc j) → IsClosed (selected_members (saturation_of c)) left.member right.member s
  right_closed other s g right_pair =
      right_pair (omega arith) left.member right.member left.is right.is
      (λ e. other (sym (ap (λ (k : Signed Tree). k.positive) left.literal) ∙ e ∙ ap (λ (k : Signed Tree). k.positive) right.literal)) s (general_here s g)

  -- the answer for one most general unifier is that of the pair
  pub closed_is_right : ¬ (l.positive ≡ r.positive) → (s : Sided) → IsMostGeneral s (tree_at c.base.bank l.atom) (tree_at c.base.bank r.atom) → (answer : Bool)
      → (IsTrue answer ↔ IsClosed (selected_members (saturation_of c)) left.member right.member s) → IsTrue answer ↔ IsRightPair (saturation_of c) (suc i) (suc j)
  closed_is_right other s g answer h = ((λ t. closed_right s g (h.0 t)), (λ p. h.1 (right_closed other s g p)))

  -- whether the unifier is proper on a side does not depend on the choice of it
  pub proper_pair : ¬ (l.positive ≡ r.positive) → (s : Sided) → IsMostGeneral s (tree_at c.base.bank l.atom) (tree_at c.base.bank r.atom) → (answer : Bool)
      → (IsTrue answer ↔ (IsProper s.left (tree_at c.base.bank l.atom) ⊎ IsProper s.right (tree_at c.base.bank r.atom))) → IsTrue answer ↔ IsProperPair (saturation_of c) (suc i) (suc j)
  proper_pair other s g answer h = (
    (λ t below m n p q signs u k.
        let a = tree_at c.base.bank l.atom in
        let b = tree_at c.base.bank r.atom in
        let here : IsMostGeneral u a b =
        subst (λ (x : Tree). IsMostGeneral u x b) (left_atom m p) (subst (λ (x : Tree). IsMostGeneral u m.selected.atom x) (right_atom n q) k) in
        elim (h.0 t) [
          | inl x ↦ inl (subst (λ (y : Tree). IsProper u.left y) (sym (left_atom m p)) ((proper_of_choice a b s u g here a).0 x))
          | inr x ↦ inr (subst (λ (y : Tree). IsProper u.right y) (sym (right_atom n q)) ((proper_of_choice a b s u g here b).1 x))
        ]),
    (λ all. h.1 (
        let k = all (omega arith) left.member right.member left.is right.is (opposite_members other) s (general_here s g) in
        elim k [
          | inl x ↦ inl (subst (λ (y : Tree). IsProper s.left y) (left_atom left.member left.is) x)
          | inr x ↦ inr (subst (λ (y : Tree). IsProper s.right y) (right_atom right.member right.is) x)
        ])),
  )
