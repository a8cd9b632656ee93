-- A run whose entries are unrolled, with a derivation from the ground lines, is a valid refutation.
use Rattle.std.proofs.Common.{◌≡◌, ◌≢◌, ℕ, zero, suc, ◌-◌, List, [], ap, subst as transport, map, take, length, arith, Bool, Option, Some, All}
use Rattle.std.specs.Prelude.{IsTrue}
use Rattle.inst_logic.specs.Tree.{Tree}
use Rattle.inst_logic.specs.WellFormed.{is_constant}
use Rattle.inst_logic.specs.Derivations.{at_number, IsShown}
use Rattle.inst_logic.specs.Clauses.{TreeClause}
use Rattle.inst_logic.proofs.ShownLaws.{at_number_contains}
use Rattle.inst_calculus.specs.Axioms.{equality_axioms, with_axioms}
use Rattle.inst_calculus.specs.Steps.{Step, cited_clause, IsShownFrom, EndsEmpty}
use Rattle.inst_calculus.specs.Unrolling.{Made, AreRecords, Grounded, IsGrounded, clause_or_empty, instance_in_order, all_unrolled, each_once}
use Rattle.inst_calculus.proofs.Membership.{◌∈◌, contains_in, all_in, from_map}
use Rattle.inst_calculus.proofs.UnrolledRefutation.{grounds_are_grounded}
use Rattle.inst_machine.specs.Machine.{Event}
use Rattle.inst_machine.specs.Replay.{Replays}
use Rattle.inst_machine.proofs.Origins.{entries_are_given}
use Rattle.inst_machine.proofs.MadeRuns.{records_are_right}
use Rattle.cert_format.specs.declared.complaint.Complaint.TheVariants.{Axiom, Member as Derived, Bot, Ground, Step as Shown, NotEmpty, Place, Input, Pair, Cover as Named}
use Rattle.cert_format.specs.Certificate.{Refutation, GroundLine, line_clauses}
use Rattle.cert_format.specs.TermLists.{IsGroundLineOf}
use Rattle.cert_format.specs.Validity.{IsRightStep, IsValidByLines}
use Rattle.engine_laws.specs.GroundLines.{ground_line, ground_lines}

grounded_is_line : (cs : List TreeClause) (g : Grounded) → IsGrounded cs g → IsGroundLineOf cs (ground_line cs g)
grounded_is_line cs g h = record {
  clause = h.clause;
  clause_at = h.clause_at;
  each = h.count;
  without_variables = h.without_variables;
  is = ap (λ (o : Option TreeClause). instance_in_order (clause_or_empty o) g.terms) h.clause_at;
}

module _ (c : Refutation) (journal : List Event) (v : List Tree) (b : Bool) (made : List Made) (constant : IsTrue (is_constant c.bot))
    (replays : Replays c.bot (with_axioms c.base.inputs) journal (record { entries = c.base.members; valuation = v; has_solved = b })) (records : AreRecords c.bot c.base.members made)
    (axioms : c.base.axioms ≡ equality_axioms c.base.inputs) (grounds : c.grounds ≡ ground_lines c.bot (with_axioms c.base.inputs) made)
    (hinted : All (λ s. s.hints ≢ []) c.steps) (shown : IsShownFrom (line_clauses c.grounds) c.steps) (ends : EndsEmpty c.steps) where
  abbrev cs : List TreeClause
  cs = with_axioms c.base.inputs

  right_line : (n : ℕ) (g : GroundLine) → at_number c.grounds n ≡ Some g → IsGroundLineOf cs g
  right_line n g at =
      let (x, i, e) = from_map (ground_line cs) g (each_once (all_unrolled c.bot made (length made))) (transport (λ gs. g ∈ gs) grounds (contains_in g c.grounds (at_number_contains c.grounds n g at))) in
      transport (IsGroundLineOf cs) e (grounded_is_line cs x (all_in (IsGrounded cs) (each_once (all_unrolled c.bot made (length made)))
      (grounds_are_grounded c.bot cs made (records_are_right c.bot cs journal (record { entries = c.base.members; valuation = v; has_solved = b }) replays made records)) x i))

  right_step : (n : ℕ) (s : Step Tree) → at_number c.steps n ≡ Some s → IsRightStep (line_clauses c.grounds) c.steps n s
  right_step zero s e = absurd (cc e)
  right_step (suc k) s e = record {
    hinted = all_in (λ (s : Step Tree). s.hints ≢ []) c.steps hinted s (contains_in s c.steps (at_number_contains c.steps (suc k) s e));
    shown = let same : k ≡ suc k - 1 = omega arith in transport (λ n. IsShown s.clause (map (cited_clause (line_clauses c.grounds) (take n c.steps)) s.hints)) same (shown k s e);
  }

  pub valid_when_refuted : IsValidByLines c
  valid_when_refuted (Axiom n) = ap (λ xs. at_number xs n) axioms
  valid_when_refuted (Derived n) = λ e at. entries_are_given c.bot cs journal (record { entries = c.base.members; valuation = v; has_solved = b }) replays n e at
  valid_when_refuted Bot = constant
  valid_when_refuted (Ground n) = right_line n
  valid_when_refuted (Shown n) = right_step n
  valid_when_refuted NotEmpty = ends
  valid_when_refuted (Place n) = tt
  valid_when_refuted (Input k) = tt
  valid_when_refuted (Pair left right) = tt
  valid_when_refuted (Named n) = tt
