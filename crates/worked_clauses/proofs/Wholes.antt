-- Whole clauses as a bank grows.
use Rattle.std.proofs.Common.{ℕ, ◌<◌, List, [], ◌∷◌, ◌++◌, sym, subst, ap, ◌∙◌, arith, inl, inr, length}
use Rattle.std.specs.Prelude.{All}
use Rattle.inst_logic.specs.Tree.{Tree}
use Rattle.inst_logic.specs.declared.signed.Signed.{Signed}
use Rattle.inst_logic.specs.WellFormed.{IsAtom, IsFormedClause, atom_is_formed, clause_is_formed}
use Rattle.inst_calculus.proofs.Membership.{◌∈◌, all_in, in_all, in_either, in_map, passes}
use Rattle.term_bank.specs.Forest.{Forest, Extends, IsClauseAt, clause_at, tree_at}
use Rattle.cert_values.specs.Wholes.{IsWholeClause}
use Rattle.cert_values.specs.declared.certificate.GroundStep.{GroundStep}
use Rattle.cert_values.specs.declared.member.Member.{Member}
use Rattle.cert_values.proofs.Grown.{clause_grown}

-- the ids of a well-formed clause are whole
pub whole_at : (f : Forest) (c : List (Signed ℕ)) (trees : List (Signed Tree)) → IsClauseAt f c trees → IsFormedClause trees → IsWholeClause f c
whole_at f c trees at formed = record {
  ids = at.0;
  atoms = in_all (λ (l : Signed ℕ). IsAtom (tree_at f l.atom)) c (λ l i.
      passes (λ (x : Signed Tree). atom_is_formed x.atom) (clause_at f c) (ap clause_is_formed at.1 ∙ formed) (record { positive = l.positive; atom = tree_at f l.atom })
      (in_map (λ (x : Signed ℕ). record { positive = x.positive; atom = tree_at f x.atom }) l c i));
}

pub one_more : (f g : Forest) → Extends f g → (cs : List (List (Signed ℕ))) (c : List (Signed ℕ)) → All (IsWholeClause f) cs → IsWholeClause g c → All (IsWholeClause g) (cs ++ c ∷ [])
one_more f g grown cs c whole here = in_all (IsWholeClause g) (cs ++ c ∷ []) each
  where
    each : (d : List (Signed ℕ)) → d ∈ (cs ++ c ∷ []) → IsWholeClause g d
    each d i = elim (in_either d cs (c ∷ []) i) [ inl k ↦ clause_grown f g grown d (all_in (IsWholeClause f) cs whole d k) | inr (inl e) ↦ subst (IsWholeClause g) (sym e) here | inr (inr b) ↦ absurd b ]

pub one_member_more : (f g : Forest) → Extends f g → (ms : List Member) (m : Member) → All (λ x. IsWholeClause f x.clause) ms → IsWholeClause g m.clause → All (λ (x : Member). IsWholeClause g x.clause) (ms ++ m ∷ [])
one_member_more f g grown ms m whole here = in_all (λ (x : Member). IsWholeClause g x.clause) (ms ++ m ∷ []) each
  where
    each : (d : Member) → d ∈ (ms ++ m ∷ []) → IsWholeClause g d.clause
    each d i = elim (in_either d ms (m ∷ []) i) [ inl k ↦ clause_grown f g grown d.clause (all_in (λ (x : Member). IsWholeClause f x.clause) ms whole d k) | inr (inl e) ↦ subst (λ (x : Member). IsWholeClause g x.clause) (sym e) here | inr (inr b) ↦ absurd b ]

pub one_step_more : (f g : Forest) → Extends f g → (ss : List GroundStep) (s : GroundStep) → All (λ x. IsWholeClause f x.clause) ss → IsWholeClause g s.clause → All (λ (x : GroundStep). IsWholeClause g x.clause) (ss ++ s ∷ [])
one_step_more f g grown ss s whole here = in_all (λ (x : GroundStep). IsWholeClause g x.clause) (ss ++ s ∷ []) each
  where
    each : (d : GroundStep) → d ∈ (ss ++ s ∷ []) → IsWholeClause g d.clause
    each d i = elim (in_either d ss (s ∷ []) i) [ inl k ↦ clause_grown f g grown d.clause (all_in (λ (x : GroundStep). IsWholeClause f x.clause) ss whole d k) | inr (inl e) ↦ subst (λ (x : GroundStep). IsWholeClause g x.clause) (sym e) here | inr (inr b) ↦ absurd b ]
