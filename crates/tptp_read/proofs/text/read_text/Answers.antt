use Rattle.std.proofs.Common.{◌+◌, ℕ, Ok, Option, drop, length, ap, subst, arith}
use Rattle.tptp_read.specs.declared.statement.Statement.{Statement}
use Rattle.tptp_read.specs.Verdicts.{StepOf}
use Rattle.tptp_read.proofs.Law.{read_shrinks}
use Rattle.tptp_read.proofs.Passes.{passed_more, passed_readable, cause}
use Rattle.tptp_read.proofs.text.read_text.Goals as goal

pub returns-in-Ok-None-clause-readable : goal.returns-in-Ok-None-clause-readable
returns-in-Ok-None-clause-readable c =
    let done = subst (λ (o : Option (Statement × ℕ)). StepOf c.loop-list.rest.now (Ok o)) c.in-Ok-None.field-0-is c.in-Ok-None.ensures in
    passed_readable c.args.text.now c.loop-list.rest.now c.loop-list.list c.loop-list.invariant done

pub returns-in-Ok-None-clause-formed : goal.returns-in-Ok-None-clause-formed
returns-in-Ok-None-clause-formed c =
    let done = subst (λ (o : Option (Statement × ℕ)). StepOf c.loop-list.rest.now (Ok o)) c.in-Ok-None.field-0-is c.in-Ok-None.ensures in
    c.readable_is_good.ensures.formed c.args.text.now c.loop-list.list (passed_readable c.args.text.now c.loop-list.rest.now c.loop-list.list c.loop-list.invariant done)

pub returns-in-Ok-None-clause-names : goal.returns-in-Ok-None-clause-names
returns-in-Ok-None-clause-names c =
    let done = subst (λ (o : Option (Statement × ℕ)). StepOf c.loop-list.rest.now (Ok o)) c.in-Ok-None.field-0-is c.in-Ok-None.ensures in
    c.readable_is_good.ensures.names c.args.text.now c.loop-list.list (passed_readable c.args.text.now c.loop-list.rest.now c.loop-list.list c.loop-list.invariant done)

pub loop-list-preserved : goal.loop-list-preserved
loop-list-preserved c =
    let rest = c.loop-list.rest.now in
    let read = subst (λ (o : Option (Statement × ℕ)). StepOf rest (Ok o)) c.in-Ok-Some.field-0-is c.in-Ok-Some.ensures in
    rw (c.in_ok-push-in-Ok-Some.ensures.ok, c.behind-rest.ensures) (passed_more c.args.text.now rest (drop c.in-Ok-Some.end rest) c.loop-list.list c.in-Ok-Some.statement c.loop-list.invariant read.0)

pub loop-list-smaller : goal.loop-list-smaller
loop-list-smaller c =
    let rest = c.loop-list.rest.now in
    let read = subst (λ (o : Option (Statement × ℕ)). StepOf rest (Ok o)) c.in-Ok-Some.field-0-is c.in-Ok-Some.ensures in
    let less = read_shrinks rest c.in-Ok-Some.statement (drop c.in-Ok-Some.end rest) read.0 in
    omega (arith, less, ap length c.behind-rest.ensures)

pub returns-in-Err-clause-refused : goal.returns-in-Err-clause-refused
returns-in-Err-clause-refused c = cause c.args.text.now c.loop-list.rest.now c.loop-list.list _ c.in-Err.refusal c.refusal_of_statement.result (ap (λ (n : ℕ). n + 1) c.len.ensures) c.loop-list.invariant c.in-Err.ensures c.refusal_of_statement.ensures
