-- The stages of the check of a refutation.
use Rattle.std.proofs.Common.{arith, rules, ◌≡◌, ℕ, Bool, false, List, [], ◌∷◌, refl, ap, sym, ◌∙◌, ◌++◌, map, subst, length}
use Rattle.std.specs.Prelude.{All, IsTrue, ◌↔◌, ◌-◌, Option, None, Some, option_map, slice_get}
use Rattle.std.proofs.lemmas.List.{length-map}
use Rattle.std.proofs.lemmas.Option.{slice_get-map, same_Some}
use Rattle.inst_logic.specs.declared.signed.Signed.{Signed}
use Rattle.inst_logic.specs.Clauses.{TreeClause}
use Rattle.inst_logic.specs.Derivations.{at_number}
use Rattle.inst_logic.specs.Tree.{Tree}
use Rattle.inst_logic.specs.WellFormed.{is_constant}
use Rattle.inst_calculus.specs.Axioms.{with_axioms}
use Rattle.inst_calculus.specs.Steps.{Step, EndsEmpty}
use Rattle.inst_calculus.proofs.Membership.{all_in, in_all}
use Rattle.term_bank.specs.Forest.{Forest, AreFormed, Extends, IsClauseOf, clause_at}
use Rattle.term_bank.proofs.Growth.{extends_itself, extends_trans}
use Rattle.cert_format.specs.Certificate as format
use Rattle.cert_format.specs.Certificate.{line_clauses}
use Rattle.cert_format.specs.Validity.{IsRightAxiom, IsRightFirstMember, IsRightGround, IsRightGroundLine, IsRightMember, RefutationPasses, LinesPass, IsFirstComplaint, IsValidByLines, IsValidRefutation, Precedes}
use Rattle.cert_format.specs.declared.complaint.Complaint.{Complaint}
use Rattle.cert_format.specs.TermLists.{IsGroundLineOf}
use Rattle.cert_format.specs.declared.complaint.Complaint.TheVariants.{Axiom, Member as Derived, Bot, Ground, Step as Shown, NotEmpty}
use Rattle.cert_values.specs.declared.certificate.Base.{Base}
use Rattle.cert_values.specs.declared.certificate.FirstRefutation.{FirstRefutation}
use Rattle.cert_values.specs.declared.certificate.GroundStep.{GroundStep}
use Rattle.cert_values.specs.declared.certificate.GroundLine.{GroundLine}
use Rattle.cert_values.specs.declared.certificate.Refutation.{Refutation}
use Rattle.cert_values.specs.Values.{step_of, line_of, refutation_of}
use Rattle.cert_values.specs.Wholes.{IsWholeClause, IsWholeBase, IsWholeFirst, KeepsBase}
use Rattle.cert_names.specs.Under.{IsFirstWrongLine}
use Rattle.cert_check.specs.Answers.{IsCheckCause}
use Rattle.cert_check.specs.Firsts.{IsFirstWrong, IsFirstWrongOf}
use Rattle.cert_check.specs.Stages.{IsRightStepNumber, StepsPass}
use Rattle.cert_check.specs.declared.error.CheckError.{CheckError}
use Rattle.cert_check.proofs.Bases.{at_most, smaller}
use Rattle.cert_check.proofs.Rightness.{all_inputs}
use Rattle.cert_values.proofs.Grown.{clause_grown, clauses_grown, members_grown, steps_grown}

pub whole_base : (b : Base) (g : Forest) → IsWholeBase b → Extends b.bank g → AreFormed g → IsWholeBase (record b { bank = g })
whole_base b g h grown formed = record {
  bank = formed;
  inputs = clauses_grown b.bank g grown b.inputs h.inputs;
  axioms = clauses_grown b.bank g grown b.axioms h.axioms;
  members = members_grown b.bank g grown b.members h.members;
}

-- whole where the base with the grown bank is
pub first_whole : (r : FirstRefutation) (b : Base) → IsWholeFirst r → KeepsBase r.base b → IsWholeBase b → IsWholeFirst (record r { base = b })
first_whole r b h kept whole = record {
  base = whole;
  grounds = clauses_grown r.base.bank b.bank kept.bank r.grounds h.grounds;
  steps = steps_grown r.base.bank b.bank kept.bank r.steps h.steps;
}

pub whole_ids : (f g : Forest) → Extends f g → (cs : List (List (Signed ℕ))) → All (IsWholeClause f) cs → All (IsClauseOf g) cs
whole_ids f g grown cs h = in_all (IsClauseOf g) cs (λ c i. let k : IsWholeClause g c = clause_grown f g grown c (all_in (IsWholeClause f) cs h c i) in k.ids)

pub keeps_itself : (b : Base) → KeepsBase b b
keeps_itself b = record { bank = extends_itself b.bank; rest = refl }

pub keeps_trans : (a b c : Base) → KeepsBase a b → KeepsBase b c → KeepsBase a c
keeps_trans a b c p q = record {
  bank = extends_trans a.bank b.bank c.bank p.bank q.bank;
  rest = q.rest ∙ ap (λ (x : Base). record x { bank = c.bank }) p.rest;
}

-- where all steps are right, the complaint about their end comes first
pub end_wrong : (given : List TreeClause) (steps : List (Step Tree)) → ((n : ℕ) → IsRightStepNumber given steps n) → ¬ EndsEmpty steps → IsFirstComplaint (StepsPass given steps) NotEmpty
end_wrong given steps shown wrong = search rules

-- where all that comes before is passed, the complaint about a ground line comes first,
module _ (r : format.Refutation) (axioms : (n : ℕ) → IsRightAxiom r.base n) (members : (n : ℕ) → IsRightMember r.base n) (constant : IsTrue (is_constant r.bot)) where
  pub line_wrong : (n : ℕ) → IsFirstWrong (IsRightGroundLine r) n → IsFirstComplaint (LinesPass r) (Ground n)
  line_wrong n h = record { applies = h.applies; first = earlier }
    where
      earlier : (k : Complaint) → Precedes k (Ground n) → LinesPass r k
      earlier (Axiom m) p = axioms m
      earlier (Derived m) p = members m
      earlier Bot p = constant
      earlier (Ground m) p = h.before m (smaller 3 m n p)
      earlier (Shown m) p = let q = at_most (Shown m) (Ground n) p in absurd (omega arith)
      earlier NotEmpty p = let q = at_most NotEmpty (Ground n) p in absurd (omega arith)
      earlier _ p = tt

  -- then that about the steps
  module _ (lines : (n : ℕ) → IsRightGroundLine r n) where
    pub line_steps : (e : CheckError) → IsCheckCause (StepsPass (line_clauses r.grounds) r.steps) e → IsCheckCause (LinesPass r) e
    line_steps e h = search rules

    pub lines_valid : ((n : ℕ) → IsRightStepNumber (line_clauses r.grounds) r.steps n) → EndsEmpty r.steps → IsValidByLines r
    lines_valid shown empty (Axiom n) = axioms n
    lines_valid shown empty (Derived n) = members n
    lines_valid shown empty Bot = constant
    lines_valid shown empty (Ground n) = lines n
    lines_valid shown empty (Shown n) = shown n
    lines_valid shown empty NotEmpty = empty
    lines_valid shown empty _ = tt

-- and so in the first format
module _ (r : format.FirstRefutation) (axioms : (n : ℕ) → IsRightAxiom r.base n) (members : (n : ℕ) → IsRightFirstMember r.base n) (constant : IsTrue (is_constant r.bot)) (grounds : (n : ℕ) → IsRightGround r n) where
  pub first_steps : (e : CheckError) → IsCheckCause (StepsPass r.grounds r.steps) e → IsCheckCause (RefutationPasses r) e
  first_steps e h = search rules

  pub first_valid : ((n : ℕ) → IsRightStepNumber r.grounds r.steps n) → EndsEmpty r.steps → IsValidRefutation r
  first_valid shown empty (Axiom n) = axioms n
  first_valid shown empty (Derived n) = members n
  first_valid shown empty Bot = constant
  first_valid shown empty (Ground n) = grounds n
  first_valid shown empty (Shown n) = shown n
  first_valid shown empty NotEmpty = empty
  first_valid shown empty _ = tt

-- the first wrong line of ids is that of trees
first_of_lines : (f : Forest) (cs : List (List (Signed ℕ))) (lines : List GroundLine) (ds : List TreeClause) → map (clause_at f) cs ≡ ds → (o : Option ℕ) → IsFirstWrongLine f cs lines o
    → IsFirstWrongOf (λ n. (g : format.GroundLine) → at_number (map (line_of f) lines) n ≡ Some g → IsGroundLineOf ds g) o
first_of_lines f cs lines ds same None h = λ n g at. subst (λ (xs : List TreeClause). IsGroundLineOf xs g) same (h n g at)
first_of_lines f cs lines ds same (Some n) h = record {
  applies = λ right. h.0 (λ g at. subst (λ (xs : List TreeClause). IsGroundLineOf xs g) (sym same) (right g at));
  before = λ m l g at. subst (λ (xs : List TreeClause). IsGroundLineOf xs g) same (h.1 m l g at);
}

pub right_lines : (r : Refutation) → ((n : ℕ) → IsRightAxiom (refutation_of r).base n) → (o : Option ℕ)
    → IsFirstWrongLine r.base.bank (r.base.inputs ++ r.base.axioms) r.grounds o → IsFirstWrongOf (IsRightGroundLine (refutation_of r)) o
right_lines r axioms o h = first_of_lines r.base.bank (r.base.inputs ++ r.base.axioms) r.grounds (with_axioms (map (clause_at r.base.bank) r.base.inputs)) (all_inputs r.base axioms) o h

pub not_true : (b x : Bool) → b ≡ x → b ≡ false → ¬ IsTrue x
not_true b x e n t = absurd (cc)

no_literals : (f : Forest) (c : List (Signed ℕ)) → clause_at f c ≡ [] → c ≡ []
no_literals f [] e = refl
no_literals f (l ∷ c) e = absurd (cc)

-- the last step of ids and the last step of trees
pub ends_at : (f : Forest) (ss : List GroundStep) (s : GroundStep) → slice_get ss (length ss - 1) ≡ Some s → (s.clause ≡ []) ↔ EndsEmpty (map (step_of f) ss)
ends_at f ss s at = (
  (λ e. (step_of f s, there, ap (clause_at f) e)),
  (λ (t, k, e). let same : step_of f s ≡ t = same_Some (step_of f s) t (sym there ∙ k) in no_literals f s.clause (ap (λ x. x.clause) same ∙ e)),
)
  where
    there : slice_get (map (step_of f) ss) (length (map (step_of f) ss) - 1) ≡ Some (step_of f s)
    there = ap (λ n. slice_get (map (step_of f) ss) (n - 1)) (length-map ss (step_of f)) ∙ slice_get-map (step_of f) ss (length ss - 1) ∙ ap (option_map (step_of f)) at
