-- The terms that a most general unifier of two members' literals gives the variables of the first.
use Rattle.std.proofs.Common.{◌≡◌, ℕ, List, ap, sym, ◌∙◌, map, Some}
use Rattle.std.proofs.lemmas.Option.{same_Some}
use Rattle.inst_logic.specs.declared.signed.Signed.{Signed}
use Rattle.inst_logic.specs.Tree.{Tree}
use Rattle.inst_logic.specs.Clauses.{TreeClause}
use Rattle.inst_logic.specs.Derivations.{at_number}
use Rattle.inst_logic.specs.Substitution.{subst as apply}
use Rattle.inst_calculus.specs.Conclusions.{IsConclusion}
use Rattle.cert_values.specs.declared.member.Member.{Member}
use Rattle.cert_values.specs.Values.{entry_of}
use Rattle.term_bank.specs.Forest.{literal_tree, Forest, tree_at}
use Rattle.cert_inference.specs.Conclusions.{literal_of}
use Rattle.cert_inference.proofs.Conclusions.{entry_there, literal_named, literal_there, member_of_literal}
use Rattle.cert_check.specs.Sources.{AreConclusionTerms, AreUnifiedTerms, Unify}

module _ (f : Forest) where
  -- members that conclude something have literals with a unifier
  pub unify_named : (ms : List Member) (from place partner other : ℕ) (k l : Signed ℕ) → literal_of ms from place ≡ Some k → literal_of ms partner other ≡ Some l
      → (c : TreeClause) → IsConclusion (map (entry_of f) ms) from place partner other c → Unify (tree_at f k.atom) (tree_at f l.atom)
  unify_named ms from place partner other k l kat lat c r =
      let (k2, u, v) = literal_named f ms from place r.entry r.literal r.entry_at r.literal_at in
      let (l2, x, y) = literal_named f ms partner other r.partner_entry r.other_literal r.partner_at r.other_at in
      let ke : literal_tree f k ≡ r.literal = ap (literal_tree f) (same_Some k k2 (sym kat ∙ u)) ∙ v in
      let le : literal_tree f l ≡ r.other_literal = ap (literal_tree f) (same_Some l l2 (sym lat ∙ x)) ∙ y in (
        r.unifier,
        ap (λ (z : Signed Tree). apply r.unifier.left z.atom) ke ∙ r.most_general.unifies ∙ ap (λ (z : Signed Tree). apply r.unifier.right z.atom) (sym le),
      )

  -- what the literals' unifier makes of the first clause's variables is what the members' does
  pub terms_concluded : (g : Forest) (ms : List Member) (from place partner other : ℕ) (m : Member) (k l : Signed ℕ)
      → at_number ms from ≡ Some m → literal_of ms from place ≡ Some k → literal_of ms partner other ≡ Some l
      → (ids : List ℕ) → AreUnifiedTerms f g m.clause k l ids → AreConclusionTerms g (map (entry_of f) ms) from place partner other ids
  terms_concluded g ms from place partner other m k l at kat lat ids h =
      let (m2, p, q) = member_of_literal f (at_number ms from) place k kat in
      let (n, s, t) = member_of_literal f (at_number ms partner) other l lat in
      let same : m2 ≡ m = same_Some m2 m (sym p ∙ at) in
      record {
        entry = entry_of f m;
        partner_entry = entry_of f n;
        literal = literal_tree f k;
        other_literal = literal_tree f l;
        entry_at = entry_there f ms from m at;
        partner_at = entry_there f ms partner n s;
        literal_at = literal_there f m.clause place k (ap (λ (x : Member). at_number x.clause place) (sym same) ∙ q);
        other_at = literal_there f n.clause other l t;
        unifier = h.unifier;
        most_general = h.most_general;
        terms = h.terms;
      }
