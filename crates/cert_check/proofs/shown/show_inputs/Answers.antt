use Rattle.std.proofs.Common.{◌≢◌, ◌+◌, subst, add-one, arith, Option, None}
use Rattle.std.specs.Prelude.{IfNone, IfSome}
use Rattle.inst_logic.specs.Derivations.{at_number}
use Rattle.inst_calculus.specs.Axioms.{with_axioms}
use Rattle.cert_format.specs.Validity.{IsRightInput}
use Rattle.cert_values.specs.declared.certificate.By.{By}
use Rattle.cert_values.specs.Values.{saturation_of}
use Rattle.cert_check.specs.Names.{JustifiesInput}
use Rattle.cert_check.proofs.InputScans.{all_inputs, first_input}
use Rattle.cert_check.proofs.ReadyLaws.{ready_kept}
use Rattle.cert_check.proofs.ShownSteps.{pushed_shown, shows_all, shows_more, shows_none, wrong_here}
use Rattle.cert_check.proofs.shown.show_inputs.Goals as goal

pub loop-i-init : goal.loop-i-init
loop-i-init c = shows_none c.args.cert.now c.requires.whole c.requires.none

pub shown_input-requires : goal.shown_input-requires
shown_input-requires c = record { ready = ready_kept c.args.cert.now.cert c.loop-i.cert.cert c.args.lookup.now c.requires.ready c.loop-i.invariant.kept.cert c.loop-i.invariant.whole.cert }

pub returns-in-None-clause-first : goal.returns-in-None-clause-first
returns-in-None-clause-first c =
    let start = c.args.cert.now in
    let now = c.loop-i.cert in
    let i = c.loop-i.i in
    let none = subst (λ (o : Option By). IfNone o (at_number (with_axioms (saturation_of now.cert).base.inputs) (i + 1) ≢ None → ¬ IsRightInput (saturation_of now.cert) (i + 1))) c.in-None.is c.in_ok-shown_input.ensures.none in
    rw add-one (first_input start.cert c.requires.ready.base i c.loop-i.invariant.right
    (wrong_here start now i c.requires.whole c.requires.ready.base c.loop-i.invariant (omega (arith, c.loop-i-test.true, c.stated_count-i-end.ensures)) none))

pub loop-i-preserved : goal.loop-i-preserved
loop-i-preserved c =
    let start = c.args.cert.now in
    let now = c.loop-i.cert in
    let i = c.loop-i.i in
    let s = c.shown_input.new.cert in
    let justified = subst (λ (o : Option By). IfSome o (JustifiesInput now.cert s (i + 1))) c.in-Some.is c.in_ok-shown_input.ensures.some in
    let right = subst (λ (o : Option By). IfSome o (λ _. IsRightInput (saturation_of now.cert) (i + 1))) c.in-Some.is c.in_ok-shown_input.ensures.right in
    pushed_shown start now s c.in-Some.by c.push.new.self (i + 1) c.in_ok-push-in-Some.ensures.ok
    (shows_more start now i c.requires.whole c.requires.ready.base c.loop-i.invariant (omega (arith, c.loop-i-test.true, c.stated_count-i-end.ensures)) s c.in-Some.by c.shown_input.ensures.kept c.in_ok-shown_input.ensures.whole justified right)

pub returns-clause-first : goal.returns-clause-first
returns-clause-first c =
    let start = c.args.cert.now in
    all_inputs start.cert c.requires.ready.base c.loop-i.i c.loop-i.invariant.right (omega (arith, c.loop-i-test.false, c.stated_count-i-end.ensures))

pub returns-clause-shown : goal.returns-clause-shown
returns-clause-shown c e =
    let start = c.args.cert.now in
    shows_all start c.loop-i.cert c.loop-i.i c.requires.whole c.requires.ready.base c.loop-i.invariant (omega (arith, c.loop-i-test.false, c.stated_count-i-end.ensures))
