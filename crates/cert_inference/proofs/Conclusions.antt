-- What two members conclude, over their ids and over their trees.
use Rattle.std.proofs.Common.{◌≡◌, ◌≢◌, ◌↔◌, ℕ, zero, suc, ◌<◌, List, refl, ap, sym, ◌∙◌, map, subst, length, Option, None, Some}
use Rattle.std.specs.Prelude.{All, Bool, IfOk, IsTrue, Result, Ok, Err, false, option_map, true}
use Rattle.std.proofs.lemmas.Option.{slice_get-map}
use Rattle.inst_logic.specs.declared.signed.Signed.{Signed}
use Rattle.inst_logic.specs.Tree.{Tree}
use Rattle.inst_logic.specs.Clauses.{TreeClause, canonical_form, instance}
use Rattle.inst_logic.specs.Derivations.{at_number}
use Rattle.inst_logic.specs.Unifiers.{IsMostGeneral, IsProper}
use Rattle.inst_logic.specs.WellFormed.{IsAtom}
use Rattle.inst_logic.proofs.ShownLaws.{at_number_contains}
use Rattle.inst_calculus.specs.Conclusions.{IsConclusion}
use Rattle.inst_calculus.specs.Entries.{Entry}
use Rattle.inst_calculus.proofs.Choice.{instance_of_choice}
use Rattle.inst_calculus.proofs.Membership.{all_in, contains_in}
use Rattle.cert_values.specs.declared.member.Member.{Member}
use Rattle.cert_values.specs.Values.{entry_of}
use Rattle.cert_values.specs.Wholes.{IsWholeClause}
use Rattle.term_bank.specs.Forest.{Forest, IsClauseOf, clause_at, tree_at}
use Rattle.unify_core.specs.Sides.{Binding}
use Rattle.unify_core.specs.Terms.{AreTerms}
use Rattle.unify_core.specs.declared.side.Side.TheVariants.{Left}
use Rattle.cert_inference.proofs.BoundTerms.{bound_terms}
use Rattle.cert_inference.specs.Instances.{IsInstanceOf}
use Rattle.cert_inference.specs.Conclusions.{Concludes, IsAtomOf, IsConcluded, IsProperlyUnified, MembersConclude, MembersGive, literal_of, placed_in}
use Rattle.std.proofs.lemmas.Option.{same_Some}
use Rattle.term_bank.specs.Forest.{literal_tree}

-- the bindings that unify two atoms are to terms
pub unified_terms : (f : Forest) (es : List Binding) (a b : Tree) → IsAtom a → IsAtom b → IsProperlyUnified f es a b → AreTerms f es
unified_terms f es a b h k u = bound_terms f es a b h k u.unifier u.resolved u.most_general

module _ (f : Forest) where
  entry_number : (ms : List Member) (n : ℕ) → at_number (map (entry_of f) ms) n ≡ option_map (entry_of f) (at_number ms n)
  entry_number ms zero = refl
  entry_number ms (suc k) = slice_get-map (entry_of f) ms k

  clause_number : (c : List (Signed ℕ)) (n : ℕ) → at_number (clause_at f c) n ≡ option_map (literal_tree f) (at_number c n)
  clause_number c zero = refl
  clause_number c (suc k) = slice_get-map (literal_tree f) c k

  some_of_map : {A B : Type 0} (g : A → B) (o : Option A) (y : B) → option_map g o ≡ Some y → (x : A) × (o ≡ Some x) × (g x ≡ y)
  some_of_map g None y e = absurd (cc)
  some_of_map g (Some x) y e = (x, refl, same_Some (g x) y e)

  pub entry_there : (ms : List Member) (n : ℕ) (m : Member) → at_number ms n ≡ Some m → at_number (map (entry_of f) ms) n ≡ Some (entry_of f m)
  entry_there ms n m e = entry_number ms n ∙ ap (option_map (entry_of f)) e

  pub literal_there : (c : List (Signed ℕ)) (n : ℕ) (l : Signed ℕ) → at_number c n ≡ Some l → at_number (clause_at f c) n ≡ Some (literal_tree f l)
  literal_there c n l e = clause_number c n ∙ ap (option_map (literal_tree f)) e

  -- the member and its literal
  pub member_of_literal : (o : Option Member) (place : ℕ) (l : Signed ℕ) → placed_in o place ≡ Some l → (m : Member) × (o ≡ Some m) × (at_number m.clause place ≡ Some l)
  member_of_literal None place l e = absurd (cc)
  member_of_literal (Some m) place l e = (m, refl, e)

  -- a literal of an entry is that of the member
  pub literal_named : (ms : List Member) (n place : ℕ) (e : Entry) (k : Signed Tree) → at_number (map (entry_of f) ms) n ≡ Some e → at_number e.clause place ≡ Some k
      → (l : Signed ℕ) × (literal_of ms n place ≡ Some l) × (literal_tree f l ≡ k)
  literal_named ms n place e k at there =
      let (m, p, q) = some_of_map (entry_of f) (at_number ms n) e (sym (entry_number ms n) ∙ at) in
      let r : at_number (clause_at f m.clause) place ≡ Some k = ap (λ (x : Entry). at_number x.clause place) q ∙ there in
      let (l, u, v) = some_of_map (literal_tree f) (at_number m.clause place) k (sym (clause_number m.clause place) ∙ r) in
      (l, ap (λ o. placed_in o place) p ∙ u, v)

  pub member_whole : (ms : List Member) (n : ℕ) (m : Member) → All (λ x. IsWholeClause f x.clause) ms → at_number ms n ≡ Some m → IsWholeClause f m.clause
  member_whole ms n m all e = all_in (λ (x : Member). IsWholeClause f x.clause) ms all m (contains_in m ms (at_number_contains ms n m e))

  pub literal_atom : (ms : List Member) (n place : ℕ) (l : Signed ℕ) → All (λ x. IsWholeClause f x.clause) ms → literal_of ms n place ≡ Some l → IsAtomOf f l
  literal_atom ms n place l all e =
      let (m, p, q) = member_of_literal (at_number ms n) place l e in
      let w = member_whole ms n m all p in
      let i = contains_in l m.clause (at_number_contains m.clause place l q) in
      record {
        within = all_in (λ (x : Signed ℕ). x.atom < length f.trees) m.clause w.ids l i;
        atom = all_in (λ (x : Signed ℕ). IsAtom (tree_at f x.atom)) m.clause w.atoms l i;
      }

  -- what the two literals conclude is what the members do
  pub concluded : (g : Forest) (ms : List Member) (from place partner other : ℕ) (m : Member) (k l : Signed ℕ)
      → at_number ms from ≡ Some m → literal_of ms from place ≡ Some k → literal_of ms partner other ≡ Some l
      → (o : Option (List (Signed ℕ))) → Concludes f g m.clause k l o → MembersConclude g (map (entry_of f) ms) from place partner other o
  concluded g ms from place partner other m k l at kat lat None h = λ c r.
      let (k2, u, v) = literal_named ms from place r.entry r.literal r.entry_at r.literal_at in
      let (l2, x, y) = literal_named ms partner other r.partner_entry r.other_literal r.partner_at r.other_at in
      let ke : literal_tree f k ≡ r.literal = ap (literal_tree f) (same_Some k k2 (sym kat ∙ u)) ∙ v in
      let le : literal_tree f l ≡ r.other_literal = ap (literal_tree f) (same_Some l l2 (sym lat ∙ x)) ∙ y in
      let ks = ap (λ (z : Signed Tree). z.positive) ke in
      let ls = ap (λ (z : Signed Tree). z.positive) le in
      let general : IsMostGeneral r.unifier (tree_at f k.atom) (tree_at f l.atom) =
      subst (λ (z : Signed Tree). IsMostGeneral r.unifier z.atom (tree_at f l.atom)) (sym ke) (subst (λ (z : Signed Tree). IsMostGeneral r.unifier r.literal.atom z.atom) (sym le) r.most_general) in
      h (λ e. r.opposite (sym ks ∙ e ∙ ls)) r.unifier general (subst (λ (z : Signed Tree). IsProper r.unifier.left z.atom) (sym ke) r.proper)
  concluded g ms from place partner other m k l at kat lat (Some d) h =
      let (m2, p, q) = member_of_literal (at_number ms from) place k kat in
      let (n, s, t) = member_of_literal (at_number ms partner) other l lat in
      let same : m2 ≡ m = same_Some m2 m (sym p ∙ at) in (
        h.ids,
        record {
          entry = entry_of f m;
          partner_entry = entry_of f n;
          literal = literal_tree f k;
          other_literal = literal_tree f l;
          entry_at = entry_there ms from m at;
          partner_at = entry_there ms partner n s;
          literal_at = literal_there m.clause place k (ap (λ (x : Member). at_number x.clause place) (sym same) ∙ q);
          other_at = literal_there n.clause other l t;
          opposite = h.opposite;
          unifier = h.unifier;
          most_general = h.most_general;
          proper = h.proper;
          conclusion = h.conclusion;
        },
      )

  -- and the clause is what the members conclude exactly where it is what the two literals do
  pub concluded_clause : (ms : List Member) (from place partner other : ℕ) (m : Member) (k l : Signed ℕ)
      → at_number ms from ≡ Some m → literal_of ms from place ≡ Some k → literal_of ms partner other ≡ Some l
      → (d : List (Signed ℕ)) → IsClauseOf f d → (answer : Bool) → IsTrue answer ↔ IsConcluded f f m.clause k l d → IsTrue answer ↔ IsConclusion (map (entry_of f) ms) from place partner other (clause_at f d)
  concluded_clause ms from place partner other m k l at kat lat d ids answer h = (
    (λ t. (concluded f ms from place partner other m k l at kat lat (Some d) (h.0 t)).1),
    (λ r.
        let (k2, u, v) = literal_named ms from place r.entry r.literal r.entry_at r.literal_at in
        let (l2, x, y) = literal_named ms partner other r.partner_entry r.other_literal r.partner_at r.other_at in
        let ke : literal_tree f k ≡ r.literal = ap (literal_tree f) (same_Some k k2 (sym kat ∙ u)) ∙ v in
        let le : literal_tree f l ≡ r.other_literal = ap (literal_tree f) (same_Some l l2 (sym lat ∙ x)) ∙ y in
        let ks = ap (λ (z : Signed Tree). z.positive) ke in
        let ls = ap (λ (z : Signed Tree). z.positive) le in
        let entry : r.entry ≡ entry_of f m = same_Some r.entry (entry_of f m) (sym r.entry_at ∙ entry_there ms from m at) in
        let general : IsMostGeneral r.unifier (tree_at f k.atom) (tree_at f l.atom) =
        subst (λ (z : Signed Tree). IsMostGeneral r.unifier z.atom (tree_at f l.atom)) (sym ke) (subst (λ (z : Signed Tree). IsMostGeneral r.unifier r.literal.atom z.atom) (sym le) r.most_general) in
        h.1 (record {
          opposite = λ e. r.opposite (sym ks ∙ e ∙ ls);
          unifier = r.unifier;
          most_general = general;
          proper = subst (λ (z : Signed Tree). IsProper r.unifier.left z.atom) (sym ke) r.proper;
          ids = ids;
          conclusion = r.conclusion ∙ ap (λ (e : Entry). canonical_form (instance r.unifier.left e.clause)) entry;
        })),
  )

  -- the answer for the bindings is that for each most general unifier
  pub instance_concludes : (es : List Binding) (c : List (Signed ℕ)) (k l : Signed ℕ) (d : List (Signed ℕ)) → k.positive ≢ l.positive → IsProperlyUnified f es (tree_at f k.atom) (tree_at f l.atom) → IsClauseOf f d
      → (answer : Bool) → IsInstanceOf f es Left c d answer → IsTrue answer ↔ IsConcluded f f c k l d
  instance_concludes es c k l d opposite u ids answer h =
      let law = h u.unifier u.resolved in (
        (λ t. record { opposite = opposite; unifier = u.unifier; most_general = u.most_general; proper = u.proper; ids = ids; conclusion = law.0 t }),
        (λ x. law.1 (x.conclusion ∙ sym (instance_of_choice (tree_at f k.atom) (tree_at f l.atom) u.unifier x.unifier u.most_general x.most_general (clause_at f c)).0)),
      )

pub not_concluded : (f g : Forest) (c : List (Signed ℕ)) (k l : Signed ℕ) (d : List (Signed ℕ)) → ¬ IsConcluded f g c k l d → IsTrue false ↔ IsConcluded f g c k l d
not_concluded f g c k l d none = ((λ t. absurd (let e : false ≡ true = t in cc)), (λ x. absurd (none x)))

-- what follows of the value of a result
pub when_ok : {A E : Type 0} (P Q : A → Type 0) → ((x : A) → P x → Q x) → (r : Result A E) → IfOk r P → IfOk r Q
when_ok P Q h (Ok x) k = h x k
when_ok P Q h (Err e) k = k

-- of members that come before member n
pub and_conclusion : {E : Type 0} (es : List Entry) (n from place partner other : ℕ) (c : TreeClause) → from < n → partner < n → (r : Result Bool E) → IfOk r (λ b. IsTrue b ↔ IsConclusion es from place partner other c)
    → IfOk r (λ b. IsTrue b ↔ MembersGive es n from place partner other c)
and_conclusion es n from place partner other c a b (Ok x) h = ((λ t. (a, b, h.0 t)), (λ k. h.1 k.2))
and_conclusion es n from place partner other c a b (Err e) h = h
