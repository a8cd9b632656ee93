-- Atoms whose fingerprints differ do not unify: an instance keeps the symbols at the places that a fingerprint marks.
use Rattle.std.proofs.Common.{◌≡◌, ◌≢◌, inl, inr, ℕ, zero, suc, ◌<◌, ◌+◌, ◌∙◌, List, [], ◌∷◌, ◌++◌, length, refl, ap, sym, subst, arith, below_more, Option, None, Some}
use Rattle.std.specs.Prelude.{option_map, slice_get}
use Rattle.std.proofs.lemmas.List.{length-map}
use Rattle.std.proofs.lemmas.Option.{same_Some}
use Rattle.std.proofs.Math.ListN.{get_or-append}
use Rattle.std.proofs.Math.Seq.{get_or-append_seam}
use Rattle.inst_logic.specs.declared.symbol.Sym.{Sym}
use Rattle.inst_logic.specs.Tree.{Tree, var, app, Trees, none, more, to_list}
use Rattle.inst_logic.specs.Substitution.{subst as apply, substs, Substitution}
use Rattle.inst_logic.specs.Unifiers.{Sided, IsUnifier}
use Rattle.inst_logic.proofs.Substitutions.{subst_var}
use Rattle.term_bank.specs.Forest.{Extends, Forest, arguments_of, number_of, symbol_of, tree_at}
use Rattle.cert_values.specs.declared.certificate.Saturation.{Saturation}
use Rattle.cert_values.specs.Values.{entry_of, saturation_of}
use Rattle.cert_index.specs.declared.fingerprint.Fingerprint.{Fingerprint}
use Rattle.cert_index.specs.declared.fingerprint.Marks.{Marks}
use Rattle.cert_index.specs.Fingerprints.{AreDifferent, Differ, DifferInMarks, HasFingerprint, HasMarks, IsFingerprintOf, IsMark, TellApart, argument_of, fingerprint_at, mark_of, top_of}
use Rattle.cert_index.proofs.HeadLaws.{number_stays, symbol_under}
use Rattle.cert_index.proofs.ApartLaws.{no_unifier}

-- an instance has the arguments' instances, and the symbols
module _ (s : Substitution) where
  top_under : (o : Option Tree) (g : Sym) → top_of o ≡ Some g → top_of (option_map (apply s) o) ≡ Some g
  top_under None g e = absurd (cc)
  top_under (Some t) g e = symbol_under s t g e

  items_under : (ts : Trees) (k : ℕ) (t : Tree) → slice_get (to_list ts) k ≡ Some t → slice_get (to_list (substs s ts)) k ≡ Some (apply s t)
  items_under none k t e = absurd (cc)
  items_under (more u ts) zero t e = ap Some (ap (apply s) (same_Some u t e))
  items_under (more u ts) (suc k) t e = items_under ts k t e

  argument_under : (o : Option Tree) (k : ℕ) (t : Tree) → argument_of o k ≡ Some t → argument_of (option_map (apply s) o) k ≡ Some (apply s t)
  argument_under None k t e = absurd (cc)
  argument_under (Some (var v)) k t e = absurd (cc)
  argument_under (Some (app g ts)) k t e = items_under ts k t e

-- the trees are unified, where there are both
abbrev Meet : Sided → Option Tree → Option Tree → Type 0
Meet u o p = (x y : Tree) → o ≡ Some x → p ≡ Some y → IsUnifier u x y

arguments_meet : (u : Sided) (o p : Option Tree) → Meet u o p → (k : ℕ) → Meet u (argument_of o k) (argument_of p k)
arguments_meet u None p h k x y a b = absurd (cc)
arguments_meet u (Some s) None h k x y a b = absurd (cc)
arguments_meet u (Some s) (Some t) h k x y a b =
    let e : apply u.left s ≡ apply u.right t = h s t refl refl in
    same_Some (apply u.left x) (apply u.right y) (sym (argument_under u.left (Some s) k x a) ∙ ap (λ (z : Tree). slice_get (arguments_of z) k) e ∙ argument_under u.right (Some t) k y b)

tops_meet : (u : Sided) (o p : Option Tree) → Meet u o p → (g h : Sym) → top_of o ≡ Some g → top_of p ≡ Some h → g ≡ h
tops_meet u None p m g h a b = absurd (cc)
tops_meet u (Some s) None m g h a b = absurd (cc)
tops_meet u (Some s) (Some t) m g h a b =
    let e : apply u.left s ≡ apply u.right t = m s t refl refl in
    same_Some g h (sym (top_under u.left (Some s) g a) ∙ ap symbol_of e ∙ top_under u.right (Some t) h b)

marked : (f : Forest) (o : Option Sym) (m : ℕ) → m ≡ mark_of (option_map (number_of f.symbols) o) → m ≢ 0 → (g : Sym) × (o ≡ Some g) × (m ≡ mark_of (Some (number_of f.symbols g)))
marked f None m e h = absurd (h e)
marked f (Some g) m e h = (g, refl, e)

module _ (f : Forest) (u : Sided) (o p : Option Tree) (meet : Meet u o p) where
  one_agrees : (m n : ℕ) → IsMark f o m → IsMark f p n → ¬ AreDifferent m n
  one_agrees m n a b d =
      let (g, x, v) = marked f (top_of o) m a.is d.left in
      let (h, y, w) = marked f (top_of p) n b.is d.right in
      d.differ (v ∙ ap (λ (z : Sym). mark_of (Some (number_of f.symbols z))) (tops_meet u o p meet g h x y) ∙ sym w)

module _ (f : Forest) (u : Sided) (o p : Option Tree) (meet : Meet u o p) where
  marks_agree : (m n : Marks) → HasMarks f o m → HasMarks f p n → ¬ DifferInMarks m n
  marks_agree m n a b (inl d) = one_agrees f u (argument_of o 0) (argument_of p 0) (arguments_meet u o p meet 0) m.first n.first a.first b.first d
  marks_agree m n a b (inr (inl d)) = one_agrees f u (argument_of o 1) (argument_of p 1) (arguments_meet u o p meet 1) m.second n.second a.second b.second d
  marks_agree m n a b (inr (inr (inl d))) = one_agrees f u (argument_of o 2) (argument_of p 2) (arguments_meet u o p meet 2) m.third n.third a.third b.third d
  marks_agree m n a b (inr (inr (inr d))) = one_agrees f u (argument_of o 3) (argument_of p 3) (arguments_meet u o p meet 3) m.fourth n.fourth a.fourth b.fourth d

both_here : (u : Sided) (a b : Tree) → IsUnifier u a b → Meet u (Some a) (Some b)
both_here u a b h x y d e =
    let left : IsUnifier u x b = subst (λ (z : Tree). IsUnifier u z b) (same_Some a x d) h in
    subst (λ (z : Tree). IsUnifier u x z) (same_Some b y e) left

pub none_where_different : (f : Forest) (a b : Tree) (p q : Fingerprint) → HasFingerprint f a p → HasFingerprint f b q → Differ p q → (u : Sided) → ¬ IsUnifier u a b
none_where_different f a b p q h k (inl d) u e = marks_agree f u (Some a) (Some b) (both_here u a b e) p.own q.own h.own k.own d
none_where_different f a b p q h k (inr (inl d)) u e =
    marks_agree f u (argument_of (Some a) 0) (argument_of (Some b) 0) (arguments_meet u (Some a) (Some b) (both_here u a b e) 0) p.first q.first h.first k.first d
none_where_different f a b p q h k (inr (inr d)) u e =
    marks_agree f u (argument_of (Some a) 1) (argument_of (Some b) 1) (arguments_meet u (Some a) (Some b) (both_here u a b e) 1) p.second q.second h.second k.second d

-- an instance has no other symbols at the places
pub instance_agrees : (f : Forest) (s : Substitution) (a b : Tree) (p q : Fingerprint) → HasFingerprint f a p → HasFingerprint f b q → apply s a ≡ b → ¬ Differ p q
instance_agrees f s a b p q h k same d = none_where_different f a b p q h k d (record { left = s; right = var }) (same ∙ sym (subst_var b))

-- marks stay while the bank grows
module _ (f g : Forest) (grown : Extends f g) where
  mark_later : (o : Option Tree) (m : ℕ) → IsMark f o m → IsMark g o m
  mark_later o m h = record { is = h.is ∙ by (top_of o) h.known; known = λ s at. subst (λ n. n < length g.symbols) (sym (number_stays f g grown s (h.known s at))) (let k = h.known s at in let l = grown.symbols.0 in omega arith) }
    where
      by : (q : Option Sym) → ((s : Sym) → q ≡ Some s → number_of f.symbols s < length f.symbols) → mark_of (option_map (number_of f.symbols) q) ≡ mark_of (option_map (number_of g.symbols) q)
      by None known = refl
      by (Some s) known = ap (λ n. mark_of (Some n)) (sym (number_stays f g grown s (known s refl)))

  marks_later : (o : Option Tree) (m : Marks) → HasMarks f o m → HasMarks g o m
  marks_later o m h = record {
    first = mark_later (argument_of o 0) m.first h.first;
    second = mark_later (argument_of o 1) m.second h.second;
    third = mark_later (argument_of o 2) m.third h.third;
    fourth = mark_later (argument_of o 3) m.fourth h.fourth;
  }

  pub fingerprint_later : (t : Tree) (p : Fingerprint) → HasFingerprint f t p → HasFingerprint g t p
  fingerprint_later t p h = record {
    own = marks_later (Some t) p.own h.own;
    first = marks_later (argument_of (Some t) 0) p.first h.first;
    second = marks_later (argument_of (Some t) 1) p.second h.second;
  }

pub all_told : (c : Saturation) (ps : List Fingerprint) → length ps ≡ length c.base.members → ((k : ℕ) → k < length ps → IsFingerprintOf c k (fingerprint_at ps k)) → TellApart (saturation_of c) ps
all_told c ps count each = record {
  count = count ∙ sym (length-map c.base.members (entry_of c.base.bank));
  apart = λ i j less within differ.
      let h = each i (omega arith) in
      let k = each j within in
      no_unifier c i j less h.literal k.literal h.is k.is
      (none_where_different c.base.bank (tree_at c.base.bank h.literal.atom) (tree_at c.base.bank k.literal.atom) (fingerprint_at ps i) (fingerprint_at ps j) h.has k.has differ);
}

pub one_more_fingerprint : (c : Saturation) (ps : List Fingerprint) (i : ℕ) (p : Fingerprint) → length ps ≡ i → ((k : ℕ) → k < i → IsFingerprintOf c k (fingerprint_at ps k)) → IsFingerprintOf c i p
    → (k : ℕ) → k < i + 1 → IsFingerprintOf c k (fingerprint_at (ps ++ p ∷ []) k)
one_more_fingerprint c ps i p len each last =
    below_more (λ k. IsFingerprintOf c k (fingerprint_at (ps ++ p ∷ []) k)) i
    (λ k less. subst (IsFingerprintOf c k) (sym (get_or-append ps (p ∷ []) _ k (omega arith))) (each k less))
    (subst (λ n. IsFingerprintOf c n (fingerprint_at (ps ++ p ∷ []) n)) len (subst (IsFingerprintOf c (length ps)) (sym (get_or-append_seam ps p [] _)) (subst (λ n. IsFingerprintOf c n p) (sym len) last)))
