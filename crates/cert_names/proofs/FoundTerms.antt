-- The terms that are found are terms of the bank, and name the part.
use Rattle.std.proofs.Common.{◌≡◌, ℕ, List, length, map, inl, inr, sym, ◌∙◌, nat_eq, true, subst as transport, arith}
use Rattle.std.specs.Prelude.{All}
use Rattle.std.proofs.lemmas.List.{get_or_default, length-map}
use Rattle.inst_logic.specs.declared.signed.Signed.{Signed}
use Rattle.inst_logic.specs.Tree.{Tree, Trees, var, app, none, more}
use Rattle.inst_logic.specs.Substitution.{Substitution, subst, substs, subst_literal, tree_vars, trees_vars, clause_vars}
use Rattle.inst_logic.specs.Clauses.{TreeClause, IsCanonical, IsPart, order_of}
use Rattle.inst_logic.specs.WellFormed.{IsAtom, IsTerm, count_of, symbol_is_formed, is_function_kind, tree_is_formed, trees_are_formed}
use Rattle.inst_logic.proofs.SameLemmas.{and_left, and_right}
use Rattle.inst_calculus.proofs.Membership.{◌∈◌, all_in, from_map, in_either}
use Rattle.inst_calculus.proofs.Clauses.{literal_of, part_within}
use Rattle.clause_form.specs.Conclusions.{by_terms}
use Rattle.clause_form.specs.Placements.{ArePartTerms}
use Rattle.clause_form.proofs.Variables.{variable_occurs}
use Rattle.cert_format.specs.TermLists.{IsPartBy}
use Rattle.term_bank.specs.Forest.{Forest, Extends, clause_at, literal_tree, tree_at}
use Rattle.term_bank.proofs.Clauses.{clause_extends}
use Rattle.cert_values.specs.Wholes.{IsWholeClause, IsWholeTerm}
use Rattle.cert_values.proofs.Grown.{clause_grown}
use Rattle.cert_names.proofs.Places.{under_by_place}

mutual
  inside_term : (s : Substitution) (v : ℕ) (t : Tree) → v ∈ tree_vars t → IsTerm (subst s t) → IsTerm (s v)
  inside_term s v (var w) (inl e) h = transport (λ (x : ℕ). IsTerm (s x)) (sym e) h
  inside_term s v (var w) (inr i) h = absurd i
  inside_term s v (app f ts) i h =
      let a = and_right (is_function_kind f.kind) _ h in
      inside_terms s v ts i (and_right (nat_eq (count_of (substs s ts)) f.arity) (trees_are_formed (substs s ts)) a)

  inside_terms : (s : Substitution) (v : ℕ) (ts : Trees) → v ∈ trees_vars ts → trees_are_formed (substs s ts) ≡ true → IsTerm (s v)
  inside_terms s v none i h = absurd i
  inside_terms s v (more t ts) i h = elim (in_either v (tree_vars t) (trees_vars ts) i) [
    | inl j ↦ inside_term s v t j (and_left (tree_is_formed (subst s t)) (trees_are_formed (substs s ts)) h)
    | inr j ↦ inside_terms s v ts j (and_right (tree_is_formed (subst s t)) (trees_are_formed (substs s ts)) h)
  ]

inside_atom : (s : Substitution) (v : ℕ) (t : Tree) → IsAtom t → v ∈ tree_vars t → IsAtom (subst s t) → IsTerm (s v)
inside_atom s v (var w) o i h = absurd cc
inside_atom s v (app p ts) o i h =
    let a = and_right _ _ h in
    let b = and_right (symbol_is_formed p) _ a in
    inside_terms s v ts i (and_right (nat_eq (count_of (substs s ts)) p.arity) (trees_are_formed (substs s ts)) b)

atom_of : (f : Forest) (c : List (Signed ℕ)) → IsWholeClause f c → (m : Signed Tree) → m ∈ clause_at f c → IsAtom m.atom
atom_of f c whole m i =
    let (l, j, e) = from_map (literal_tree f) m c i in
    transport (λ (x : Signed Tree). IsAtom x.atom) e (all_in (λ (x : Signed ℕ). IsAtom (tree_at f x.atom)) c whole.atoms l j)

module _ (f : Forest) (e d : List (Signed ℕ)) (ids : List ℕ) (canonical : IsCanonical (clause_at f e)) (h : ArePartTerms f e d ids) where
  pub found_part : IsPartBy (clause_at f e) (clause_at f d) (map (tree_at f) ids)
  found_part =
      let each : length (map (tree_at f) ids) ≡ length (order_of (clause_at f e)) = length-map ids (tree_at f) ∙ h.each in
      record { each = each; within = transport (λ (c : TreeClause). IsPart c (clause_at f d)) (under_by_place (clause_at f e) canonical f ids each) h.part }

  pub found_terms : IsWholeClause f e → IsWholeClause f d → All (IsWholeTerm f) ids
  found_terms left right k x l =
      let s = by_terms f ids in
      let i : k ∈ clause_vars (clause_at f e) = variable_occurs (clause_at f e) k canonical (let n = h.each in omega (arith, l, n)) in
      let (m, j, w) = literal_of k (clause_at f e) i in
      let there : subst_literal s m ∈ clause_at f d = part_within s (clause_at f e) (clause_at f d) h.part m j in
      let one : IsTerm (s k) = inside_atom s k m.atom (atom_of f e left m j) w (atom_of f d right (subst_literal s m) there) in
      record { within = h.within k x l; term = transport (λ (n : ℕ). IsTerm (tree_at f n)) (get_or_default ids k 0 x l) one }

-- they are terms in a bank that has grown since
module _ (f g : Forest) (grown : Extends f g) (e d : List (Signed ℕ)) (ids : List ℕ) (canonical : IsCanonical (clause_at f e)) (left : IsWholeClause f e) (right : IsWholeClause f d) (h : ArePartTerms g e d ids) where
  canonical_grown : IsCanonical (clause_at g e)
  canonical_grown = transport IsCanonical (sym (clause_extends f g grown e left.ids)) canonical

  pub grown_part : IsPartBy (clause_at f e) (clause_at f d) (map (tree_at g) ids)
  grown_part =
      transport (λ (c : TreeClause). IsPartBy (clause_at f e) c (map (tree_at g) ids)) (clause_extends f g grown d right.ids)
      (transport (λ (c : TreeClause). IsPartBy c (clause_at g d) (map (tree_at g) ids)) (clause_extends f g grown e left.ids) (found_part g e d ids canonical_grown h))

  pub grown_terms : All (IsWholeTerm g) ids
  grown_terms = found_terms g e d ids canonical_grown h (clause_grown f g grown e left) (clause_grown f g grown d right)
