use Rattle.std.proofs.Common.{sym, subst, ℕ}
use Rattle.cert_values.specs.Values.{base_of}
use Rattle.cert_format.specs.Certificate as format
use Rattle.cert_format.specs.Validity.{IsRightAxiom}
use Rattle.cert_check.specs.Firsts.{IsFirstWrong}
use Rattle.cert_check.specs.Stages.{IsAllowedMember}
use Rattle.cert_check.proofs.Bases.{base_same, member_first, none_wrong, some_wrong}
use Rattle.cert_check.proofs.base.check_base.Goals as goal

pub wrong_member-requires-clause-axioms : goal.wrong_member-requires-clause-axioms
wrong_member-requires-clause-axioms c =
    let same = base_same c.args.base.now c.wrong_axiom.new.base c.requires c.wrong_axiom.ensures.kept in
    subst (λ (b : format.Base). (n : ℕ) → IsRightAxiom b n) (sym same) (none_wrong (IsRightAxiom (base_of c.args.base.now)) c.in_ok-n.field-0 c.in_ok-n.ensures.first c.in_default.not-Some)

pub returns-in-Some-2-clause-complaint : goal.returns-in-Some-2-clause-complaint
returns-in-Some-2-clause-complaint c =
    let b = base_of c.args.base.now in
    let same = base_same c.args.base.now c.wrong_axiom.new.base c.requires c.wrong_axiom.ensures.kept in
    let axioms = none_wrong (IsRightAxiom b) c.in_ok-n.field-0 c.in_ok-n.ensures.first c.in_default.not-Some in
    let wrong = subst (λ (d : format.Base). IsFirstWrong (IsAllowedMember c.args.lemmas d) c.in-Some-2.n) same (some_wrong _ c.in_ok-n-2.field-0 c.in-Some-2.n c.in_ok-n-2.ensures.first c.in-Some-2.is) in
    member_first c.args.lemmas b axioms c.in-Some-2.n wrong

pub returns-clause-axioms : goal.returns-clause-axioms
returns-clause-axioms c = none_wrong (IsRightAxiom (base_of c.args.base.now)) c.in_ok-n.field-0 c.in_ok-n.ensures.first c.in_default.not-Some

pub returns-clause-members : goal.returns-clause-members
returns-clause-members c =
    let same = base_same c.args.base.now c.wrong_axiom.new.base c.requires c.wrong_axiom.ensures.kept in
    subst (λ (d : format.Base). (n : ℕ) → IsAllowedMember c.args.lemmas d n) same (none_wrong _ c.in_ok-n-2.field-0 c.in_ok-n-2.ensures.first c.in_default-2.not-Some)
