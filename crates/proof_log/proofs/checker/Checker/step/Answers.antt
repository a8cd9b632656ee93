use Rattle.std.proofs.Common.{◌≡◌, ◌-◌, ◌<◌, ◌≤◌, length, take, get_or, ap, subst, arith, ◌↔◌}
use Rattle.std.specs.Prelude.{IsTrue}
use Rattle.prop_logic.specs.Literal.{IsShownStep}
use Rattle.proof_log.proofs.Steps.{number_is_shown}
use Rattle.proof_log.proofs.checker.Checker.step.Goals as goal

pub returns-clause-shown : goal.returns-clause-shown
returns-clause-shown c =
    let steps = c.args.derivation.now in
    let count : length c.as_slice-steps.result.now ≡ length steps = ap length c.as_slice-steps.ensures in
    let above : 0 < c.args.n = (let h = c.if-n-eq0.false in omega arith) in
    let within : c.args.n ≤ length steps = (let h = c.if-steps-n.false in omega arith) in
    let at : c.index-steps-n.result ≡ get_or steps (c.args.n - 1) c.index-steps-n.result = subst (λ xs. c.index-steps-n.result ≡ get_or xs (c.args.n - 1) c.index-steps-n.result) c.as_slice-steps.ensures c.index-steps-n.is in
    number_is_shown c.args.given.now steps c.args.n c.index-steps-n.result (IsTrue c.is_shown.result) above within at
    (subst (λ g. IsTrue c.is_shown.result ↔ IsShownStep g (take (c.args.n - 1) steps) c.index-steps-n.result) c.as_slice.ensures
    (subst (λ xs. IsTrue c.is_shown.result ↔ IsShownStep c.as_slice.result.now (take (c.args.n - 1) xs) c.index-steps-n.result) c.as_slice-steps.ensures c.is_shown.ensures.shown))
