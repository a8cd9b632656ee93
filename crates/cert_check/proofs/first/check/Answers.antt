use Rattle.std.proofs.Common.{List, ℕ, length, map, refl, subst, sym, ◌∙◌}
use Rattle.std.proofs.lemmas.Result.{err_from_is_err_and}
use Rattle.inst_logic.specs.declared.signed.Signed.{Signed}
use Rattle.prop_logic.specs.Literal.{AllAtomsBelow}
use Rattle.inst_calculus.specs.Steps.{EndsEmpty}
use Rattle.term_bank.specs.Forest.{clause_at}
use Rattle.cert_format.specs.Certificate as format
use Rattle.cert_format.specs.Validity.{IsRightAxiom, IsRightFirstMember, IsRightGround, RefutationPasses}
use Rattle.cert_values.specs.Values.{first_of}
use Rattle.cert_values.proofs.Kept.{base_same, first_same}
use Rattle.cert_check.specs.Answers.{IsCheckCause}
use Rattle.cert_check.specs.Stages.{IsRightStepNumber, StepsPass}
use Rattle.cert_check.proofs.Refutations.{first_steps, first_valid, first_whole}
use Rattle.cert_check.proofs.ShownTrees.{given_below}
use Rattle.cert_check.proofs.first.check.Goals as goal

pub check_grounds-requires-clause-whole : goal.check_grounds-requires-clause-whole
check_grounds-requires-clause-whole c = first_whole c.args.cert.now c.check_base.new.base c.requires c.check_base.ensures.kept c.in_ok-check_base.ensures.whole

pub check_grounds-requires-clause-axioms : goal.check_grounds-requires-clause-axioms
check_grounds-requires-clause-axioms c =
    let same = base_same c.args.cert.now.base c.check_base.new.base c.requires.base c.check_base.ensures.kept in
    subst (λ (b : format.Base). (n : ℕ) → IsRightAxiom b n) (sym same) c.in_ok-check_base.ensures.axioms

pub check_grounds-requires-clause-members : goal.check_grounds-requires-clause-members
check_grounds-requires-clause-members c =
    let same = base_same c.args.cert.now.base c.check_base.new.base c.requires.base c.check_base.ensures.kept in
    subst (λ (b : format.Base). (n : ℕ) → IsRightFirstMember b n) (sym same) c.in_ok-check_base.ensures.members

pub returns-in_err-check_grounds-clause-complaint : goal.returns-in_err-check_grounds-clause-complaint
returns-in_err-check_grounds-clause-complaint c =
    let r = c.args.cert.now in
    let same = first_same r (record r { base = c.check_base.new.base }) c.requires (record { base = c.check_base.ensures.kept; rest = refl }) in
    let p = err_from_is_err_and c.from_residual-in_err-check_grounds.result c.from_residual-in_err-check_grounds.ensures.1 in
    rw (p.1, p.2) (subst (λ (x : format.FirstRefutation). IsCheckCause (RefutationPasses x) c.in_err-check_grounds.field-0.0) same c.in_err-check_grounds.ensures.complaint)

pub check_steps-requires-clause-given : goal.check_steps-requires-clause-given
check_steps-requires-clause-given c =
    let r = c.check_grounds.new.cert in
    subst (λ (gs : List (List (Signed ℕ))). AllAtomsBelow (length r.base.bank.trees) gs) (sym c.in_ok-given.ensures) (given_below r.base.bank r.grounds c.in_ok-check_grounds.ensures.whole.grounds)

pub returns-in_err-check_steps-clause-complaint : goal.returns-in_err-check_steps-clause-complaint
returns-in_err-check_steps-clause-complaint c =
    let r = c.args.cert.now in
    let mid = record r { base = c.check_base.new.base } in
    let new = c.check_grounds.new.cert in
    let base = c.in_ok-check_base.ensures in
    let e = c.in_err-check_steps.field-0.0 in
    let same = first_same r mid c.requires (record { base = c.check_base.ensures.kept; rest = refl }) in
    let all = first_same mid new (first_whole r mid.base c.requires c.check_base.ensures.kept base.whole) c.check_grounds.ensures.kept ∙ same in
    let grounds = subst (λ (x : format.FirstRefutation). (n : ℕ) → IsRightGround x n) same c.in_ok-check_grounds.ensures.grounds in
    let given = subst (λ (gs : List (List (Signed ℕ))). IsCheckCause (StepsPass (map (clause_at new.base.bank) gs) (first_of new).steps) e) c.in_ok-given.ensures c.in_err-check_steps.ensures.complaint in
    let p = err_from_is_err_and c.from_residual-in_err-check_steps.result c.from_residual-in_err-check_steps.ensures.1 in
    rw (p.1, p.2) (first_steps (first_of r) base.axioms base.members c.in_ok-check_constant.ensures.constant grounds e
    (subst (λ (x : format.FirstRefutation). IsCheckCause (StepsPass x.grounds x.steps) e) all given))

pub returns-clause-valid : goal.returns-clause-valid
returns-clause-valid c =
    let r = c.args.cert.now in
    let mid = record r { base = c.check_base.new.base } in
    let new = c.check_grounds.new.cert in
    let base = c.in_ok-check_base.ensures in
    let same = first_same r mid c.requires (record { base = c.check_base.ensures.kept; rest = refl }) in
    let all = first_same mid new (first_whole r mid.base c.requires c.check_base.ensures.kept base.whole) c.check_grounds.ensures.kept ∙ same in
    let grounds = subst (λ (x : format.FirstRefutation). (n : ℕ) → IsRightGround x n) same c.in_ok-check_grounds.ensures.grounds in
    let given = subst (λ (gs : List (List (Signed ℕ))). (n : ℕ) → IsRightStepNumber (map (clause_at new.base.bank) gs) (first_of new).steps n) c.in_ok-given.ensures c.in_ok-check_steps.ensures.shown in
    first_valid (first_of r) base.axioms base.members c.in_ok-check_constant.ensures.constant grounds
    (subst (λ (x : format.FirstRefutation). (n : ℕ) → IsRightStepNumber x.grounds x.steps n) all given)
    (subst (λ (x : format.FirstRefutation). EndsEmpty x.steps) all c.in_ok-check_steps.ensures.empty)
