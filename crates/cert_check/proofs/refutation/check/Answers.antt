use Rattle.std.proofs.Common.{List, ℕ, length, map, refl, subst, sym, ◌∙◌}
use Rattle.std.proofs.lemmas.Result.{err_from_is_err_and}
use Rattle.inst_logic.specs.declared.signed.Signed.{Signed}
use Rattle.inst_logic.specs.Clauses.{TreeClause}
use Rattle.prop_logic.specs.Literal.{AllAtomsBelow}
use Rattle.inst_calculus.specs.Steps.{EndsEmpty}
use Rattle.term_bank.specs.Forest.{clause_at}
use Rattle.cert_format.specs.Certificate as format
use Rattle.cert_format.specs.Certificate.{line_clauses}
use Rattle.cert_format.specs.Validity.{IsRightAxiom, IsRightMember, IsRightGroundLine, LinesPass}
use Rattle.cert_values.specs.Values.{refutation_of}
use Rattle.cert_values.proofs.Kept.{base_same, refutation_same, refutation_whole}
use Rattle.cert_check.specs.Answers.{IsCheckCause}
use Rattle.cert_check.specs.Stages.{IsRightStepNumber, StepsPass}
use Rattle.cert_check.proofs.Refutations.{line_steps, lines_valid}
use Rattle.cert_check.proofs.ShownTrees.{lines_below, line_trees}
use Rattle.cert_check.proofs.refutation.check.Goals as goal

pub check_lines-requires-clause-whole : goal.check_lines-requires-clause-whole
check_lines-requires-clause-whole c = refutation_whole c.args.cert.now c.check_base.new.base c.requires c.check_base.ensures.kept c.in_ok-check_base.ensures.whole

pub check_lines-requires-clause-axioms : goal.check_lines-requires-clause-axioms
check_lines-requires-clause-axioms c =
    let same = base_same c.args.cert.now.base c.check_base.new.base c.requires.base c.check_base.ensures.kept in
    subst (λ (b : format.Base). (n : ℕ) → IsRightAxiom b n) (sym same) c.in_ok-check_base.ensures.axioms

pub check_lines-requires-clause-members : goal.check_lines-requires-clause-members
check_lines-requires-clause-members c =
    let same = base_same c.args.cert.now.base c.check_base.new.base c.requires.base c.check_base.ensures.kept in
    subst (λ (b : format.Base). (n : ℕ) → IsRightMember b n) (sym same) c.in_ok-check_base.ensures.members

pub returns-in_err-check_lines-clause-complaint : goal.returns-in_err-check_lines-clause-complaint
returns-in_err-check_lines-clause-complaint c =
    let r = c.args.cert.now in
    let same = refutation_same r (record r { base = c.check_base.new.base }) c.requires (record { base = c.check_base.ensures.kept; rest = refl }) in
    let p = err_from_is_err_and c.from_residual-in_err-check_lines.result c.from_residual-in_err-check_lines.ensures.1 in
    rw (p.1, p.2) (subst (λ (x : format.Refutation). IsCheckCause (LinesPass x) c.in_err-check_lines.field-0.0) same c.in_err-check_lines.ensures.complaint)

pub check_steps-requires-clause-given : goal.check_steps-requires-clause-given
check_steps-requires-clause-given c =
    let r = c.check_lines.new.cert in
    subst (λ (gs : List (List (Signed ℕ))). AllAtomsBelow (length r.base.bank.trees) gs) (sym c.in_ok-given.ensures) (lines_below r.base.bank r.grounds c.in_ok-check_lines.ensures.whole.grounds)

pub returns-in_err-check_steps-clause-complaint : goal.returns-in_err-check_steps-clause-complaint
returns-in_err-check_steps-clause-complaint c =
    let r = c.args.cert.now in
    let mid = record r { base = c.check_base.new.base } in
    let new = c.check_lines.new.cert in
    let base = c.in_ok-check_base.ensures in
    let e = c.in_err-check_steps.field-0.0 in
    let same = refutation_same r mid c.requires (record { base = c.check_base.ensures.kept; rest = refl }) in
    let all = refutation_same mid new (refutation_whole r mid.base c.requires c.check_base.ensures.kept base.whole) c.check_lines.ensures.kept ∙ same in
    let lines = subst (λ (x : format.Refutation). (n : ℕ) → IsRightGroundLine x n) same c.in_ok-check_lines.ensures.lines in
    let ids = subst (λ (gs : List (List (Signed ℕ))). IsCheckCause (StepsPass (map (clause_at new.base.bank) gs) (refutation_of new).steps) e) c.in_ok-given.ensures c.in_err-check_steps.ensures.complaint in
    let given = subst (λ (ds : List TreeClause). IsCheckCause (StepsPass ds (refutation_of new).steps) e) (line_trees new.base.bank new.grounds) ids in
    let p = err_from_is_err_and c.from_residual-in_err-check_steps.result c.from_residual-in_err-check_steps.ensures.1 in
    rw (p.1, p.2) (line_steps (refutation_of r) base.axioms base.members c.in_ok-check_constant.ensures.constant lines e
    (subst (λ (x : format.Refutation). IsCheckCause (StepsPass (line_clauses x.grounds) x.steps) e) all given))

pub returns-clause-valid : goal.returns-clause-valid
returns-clause-valid c =
    let r = c.args.cert.now in
    let mid = record r { base = c.check_base.new.base } in
    let new = c.check_lines.new.cert in
    let base = c.in_ok-check_base.ensures in
    let same = refutation_same r mid c.requires (record { base = c.check_base.ensures.kept; rest = refl }) in
    let all = refutation_same mid new (refutation_whole r mid.base c.requires c.check_base.ensures.kept base.whole) c.check_lines.ensures.kept ∙ same in
    let lines = subst (λ (x : format.Refutation). (n : ℕ) → IsRightGroundLine x n) same c.in_ok-check_lines.ensures.lines in
    let ids = subst (λ (gs : List (List (Signed ℕ))). (n : ℕ) → IsRightStepNumber (map (clause_at new.base.bank) gs) (refutation_of new).steps n) c.in_ok-given.ensures c.in_ok-check_steps.ensures.shown in
    let given = subst (λ (ds : List TreeClause). (n : ℕ) → IsRightStepNumber ds (refutation_of new).steps n) (line_trees new.base.bank new.grounds) ids in
    lines_valid (refutation_of r) base.axioms base.members c.in_ok-check_constant.ensures.constant lines
    (subst (λ (x : format.Refutation). (n : ℕ) → IsRightStepNumber (line_clauses x.grounds) x.steps n) all given)
    (subst (λ (x : format.Refutation). EndsEmpty x.steps) all c.in_ok-check_steps.ensures.empty)
