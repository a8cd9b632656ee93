-- Look-ups of members by their clauses.
use Rattle.std.proofs.Common.{◌≡◌, ℕ, zero, suc, ◌+◌, ◌<◌, ◌∙◌, List, length, get_or, refl, sym, subst, ap, arith, Bool, true, false, cond, below_more, Option, None, Some}
use Rattle.std.specs.Prelude.{All, option_map, slice_get}
use Rattle.std.proofs.lemmas.Option.{same_Some, slice_get-get_or, slice_get_within}
use Rattle.std.specs.Bool.{Decides}
use Rattle.std.specs.Cmp.Lexicographic.{pointwise}
use Rattle.std.proofs.lemmas.List.{get_or_default}
use Rattle.std.proofs.lemmas.Slice.Eq.{slice_eq-Decides}
use Rattle.inst_logic.specs.declared.signed.Signed.{Signed}
use Rattle.clause_form.specs.Literals.{id_eq}
use Rattle.clause_form.proofs.Assembly.{id_eq_decides}
use Rattle.cert_values.specs.declared.member.Member.{Member}
use Rattle.cert_values.specs.declared.certificate.Base.{Base}
use Rattle.cert_values.specs.declared.certificate.Saturation.{Saturation}
use Rattle.cert_values.specs.Values.{entry_of, saturation_of}
use Rattle.cert_values.specs.Wholes.{IsWholeClause, IsWholeSaturation, KeepsSaturation}
use Rattle.inst_logic.specs.Derivations.{at_number}
use Rattle.inst_logic.specs.Tree.{Tree}
use Rattle.inst_calculus.specs.Entries.{Entry}
use Rattle.inst_calculus.specs.Models.{SelectedClause}
use Rattle.cert_format.proofs.Numbers.{slice_get_of_map}
use Rattle.cert_format.proofs.SelectedMembers.{selected_once}
use Rattle.clause_form.specs.Placements.{literal_at}
use Rattle.term_bank.specs.Forest.{literal_tree, Forest, Extends, IsClauseOf, clause_at, number_of, symbol_of, tree_at}
use Rattle.cert_index.specs.declared.fingerprint.Fingerprint.{Fingerprint}
use Rattle.cert_index.specs.Fingerprints.{HasFingerprint, IsFingerprintOf, fingerprint_at}
use Rattle.cert_index.specs.Partners.{Head, IsHeadAt, IsHeadOf, head_at}
use Rattle.cert_index.specs.Places.{IsPlaceOf}
use Rattle.cert_index.proofs.FingerprintLaws.{fingerprint_later}
use Rattle.cert_index.proofs.HeadLaws.{number_stays, number_there}
use Rattle.cert_index.specs.declared.lookup.Lookup.{Lookup}
use Rattle.cert_index.specs.Lookups.{AreClausesOf, HasMarked, IsLookup}

pub clause_eq_decides : (c d : List (Signed ℕ)) → Decides (pointwise id_eq c d) (c ≡ d)
clause_eq_decides c d = slice_eq-Decides id_eq_decides c d (pointwise id_eq c d) refl

-- one more member's clause among those whose places are known
module _ (ms : List Member) (old new : List (Signed ℕ) → Option ℕ) (i : ℕ) (m : Member) (within : i < length ms) (is : m ≡ get_or ms i m)
    (more : (q : List (Signed ℕ)) → new q ≡ cond (pointwise id_eq m.clause q) (Some i) (old q)) where
  pub more_found : ((q : List (Signed ℕ)) (k : ℕ) → old q ≡ Some k → IsPlaceOf (λ n. n.clause ≡ q) ms k) → (q : List (Signed ℕ)) (k : ℕ) → new q ≡ Some k → IsPlaceOf (λ n. n.clause ≡ q) ms k
  more_found before q k h = by (pointwise id_eq m.clause q) refl
    where
      by : (b : Bool) → pointwise id_eq m.clause q ≡ b → IsPlaceOf (λ n. n.clause ≡ q) ms k
      by true e =
          let place : i ≡ k = same_Some i k (sym (ap (λ b. cond b (Some i) (old q)) e) ∙ sym (more q) ∙ h) in
          record {
            within = omega (arith, within, place);
            holds = λ d. sym (ap (λ n. (get_or ms n d).clause) place) ∙ sym (ap (λ (n : Member). n.clause) (is ∙ get_or_default ms i m d within)) ∙ (clause_eq_decides m.clause q).0 e;
          }
      by false e = before q k (sym (ap (λ b. cond b (Some i) (old q)) e) ∙ sym (more q) ∙ h)

  pub more_there : ((k : ℕ) (d : Member) → k < i → ¬ (old (get_or ms k d).clause ≡ None)) → (k : ℕ) (d : Member) → k < i + 1 → ¬ (new (get_or ms k d).clause ≡ None)
  more_there before k d = below_more (λ k. ¬ (new (get_or ms k d).clause ≡ None)) i (λ k less. kept (get_or ms k d).clause (before k d less)) here k
    where
      kept : (q : List (Signed ℕ)) → ¬ (old q ≡ None) → ¬ (new q ≡ None)
      kept q some none = by (pointwise id_eq m.clause q) (sym (more q) ∙ none)
        where
          by : (b : Bool) → cond b (Some i) (old q) ≡ None → ⊥
          by true e = absurd cc
          by false e = some e

      here : ¬ (new (get_or ms i d).clause ≡ None)
      here none =
          let same : m ≡ get_or ms i d = is ∙ get_or_default ms i m d within in
          let found : new m.clause ≡ Some i = more m.clause ∙ ap (λ b. cond b (Some i) (old m.clause)) ((clause_eq_decides m.clause m.clause).1 refl) in
          let e : Some i ≡ None = sym found ∙ ap (λ (n : Member). new n.clause) same ∙ none in
          absurd cc

pub are_clauses : (ms : List Member) (place : List (Signed ℕ) → Option ℕ) → ((q : List (Signed ℕ)) (k : ℕ) → place q ≡ Some k → IsPlaceOf (λ n. n.clause ≡ q) ms k)
    → ((k : ℕ) (d : Member) → k < length ms → ¬ (place (get_or ms k d).clause ≡ None)) → AreClausesOf ms place
are_clauses ms place found there = record {
  found = found;
  none = λ q none any.
      let (k, m, within, is, same) = any in
      there k m within (ap (λ (n : Member). place n.clause) is ∙ ap place same ∙ none);
}

-- a marked literal of the selected one's tree stands in the member's clause
module _ (c : Saturation) (k : ℕ) (h : Head) (p : Fingerprint) (head : IsHeadOf c k h) (print : IsFingerprintOf c k p) where
  one_literal : literal_tree c.base.bank print.literal ≡ literal_tree c.base.bank head.literal
  one_literal =
      sym print.is.literal ∙ ap (λ (m : SelectedClause). m.selected) (selected_once (saturation_of c).base.members (saturation_of c).places (suc k) print.is.member head.is.member print.is.is head.is.is) ∙ head.is.literal

  marked_there : (m : Member) (q : ℕ) → slice_get (clause_at c.base.bank m.clause) q ≡ Some head.is.member.selected → HasMarked c.base.bank m.clause h p
  marked_there m q at =
      let f = c.base.bank in
      let (l, here, tree) = slice_get_of_map (literal_tree f) m.clause q head.is.member.selected at in
      let within = slice_get_within m.clause q l here in
      let same : l ≡ literal_at m.clause q = same_Some l _ (sym here ∙ slice_get-get_or m.clause q _ within) in
      let equal : literal_tree f head.literal ≡ literal_tree f l = sym head.is.literal ∙ sym tree in
      let number : Some h.atom ≡ option_map (number_of f.symbols) (symbol_of (tree_at f l.atom)) =
      head.head.number ∙ ap (λ (x : Signed Tree). option_map (number_of f.symbols) (symbol_of x.atom)) equal in
      record {
        place = q;
        within = within;
        head = subst (λ (x : Signed ℕ). IsHeadAt f x h) same (record { sign = head.head.sign ∙ ap (λ (x : Signed Tree). x.positive) equal; number = number });
        known = head.known;
        fingerprint = subst (λ (x : Signed ℕ). HasFingerprint f (tree_at f x.atom) p) same (subst (λ (x : Signed Tree). HasFingerprint f x.atom p) (one_literal ∙ equal) print.has);
      }

  marked_by : (m : Member) (place : ℕ) → at_number (clause_at c.base.bank m.clause) place ≡ Some head.is.member.selected → HasMarked c.base.bank m.clause h p
  marked_by m zero at = absurd (cc)
  marked_by m (suc q) at = marked_there m q at

  pub member_marked : (d : Member) → k < length c.base.members → HasMarked c.base.bank (get_or c.base.members k d).clause h p
  member_marked d within =
      let e = head.is.is in
      let f = c.base.bank in
      let (m, at, me) = slice_get_of_map (entry_of f) c.base.members k e.entry e.entry_at in
      let same : m ≡ get_or c.base.members k d = same_Some m _ (sym at ∙ slice_get-get_or c.base.members k d within) in
      subst (λ (x : Member). HasMarked f x.clause h p) same (marked_by m e.place (ap (λ (x : Entry). at_number x.clause e.place) me ∙ e.selected))

marked_later : (f g : Forest) → Extends f g → (c : List (Signed ℕ)) → IsClauseOf f c → (h : Head) (p : Fingerprint) → HasMarked f c h p → HasMarked g c h p
marked_later f g grown c inside h p has =
    let l = literal_at c has.place in
    let tree : tree_at g l.atom ≡ tree_at f l.atom = grown.trees.1 l.atom (inside has.place _ has.within) in
    let (s, is, n) = number_there h.atom (number_of f.symbols) (symbol_of (tree_at f l.atom)) has.head.number in
    let low : number_of f.symbols s < length f.symbols = subst (λ k. k < length f.symbols) n has.known in
    let stays : number_of g.symbols s ≡ number_of f.symbols s = number_stays f g grown s low in
    record {
      place = has.place;
      within = has.within;
      head = record {
        sign = has.head.sign;
        number = ap Some (n ∙ sym stays) ∙ sym (ap (λ (t : Tree). option_map (number_of g.symbols) (symbol_of t)) tree ∙ ap (option_map (number_of g.symbols)) is);
      };
      known = let k = has.known in let m = grown.symbols.0 in omega arith;
      fingerprint = subst (λ (t : Tree). HasFingerprint g t p) (sym tree) (fingerprint_later f g grown (tree_at f l.atom) p has.fingerprint);
    }

pub lookup_later : (f g : Forest) → Extends f g → (ms : List Member) → All (λ m. IsWholeClause f m.clause) ms → (l : Lookup) → IsLookup f ms l → IsLookup g ms l
lookup_later f g grown ms whole l h = record {
  clauses = h.clauses;
  count = h.count;
  heads = h.heads;
  marked = λ k m within. marked_later f g grown (get_or ms k m).clause (whole k m within).ids (head_at h.heads k) (fingerprint_at l.fingerprints.items k) (h.marked k m within);
  groups = h.groups;
}

pub lookup_kept : (old new : Saturation) → IsWholeSaturation old → KeepsSaturation old new → (l : Lookup) → IsLookup old.base.bank old.base.members l → IsLookup new.base.bank new.base.members l
lookup_kept old new whole kept l h =
    subst (λ (ms : List Member). IsLookup new.base.bank ms l) (sym (ap (λ (b : Base). b.members) kept.base.rest)) (lookup_later old.base.bank new.base.bank kept.base.bank old.base.members whole.members l h)
