use Rattle.std.proofs.Common.{refl}
use Rattle.cert_check.proofs.Bases.{none_wrong}
use Rattle.cert_check.proofs.Refutations.{end_wrong, not_true}
use Rattle.cert_check.proofs.steps.check_steps.Goals as goal

pub returns-then-not-ends_empty-clause-complaint : goal.returns-then-not-ends_empty-clause-complaint
returns-then-not-ends_empty-clause-complaint c =
    let shown = none_wrong _ c.in_ok-n.field-0 c.in_ok-n.ensures c.in_default.not-Some in
    end_wrong _ _ shown (λ e. not_true c.ends_empty.result c.ends_empty.result refl c.if-not-ends_empty.true ((c.ends_empty.ensures c.args.bank.now).1 e))

pub returns-clause-shown : goal.returns-clause-shown
returns-clause-shown c = none_wrong _ c.in_ok-n.field-0 c.in_ok-n.ensures c.in_default.not-Some

pub returns-clause-empty : goal.returns-clause-empty
returns-clause-empty c = (c.ends_empty.ensures c.args.bank.now).0 c.if-not-ends_empty.false
