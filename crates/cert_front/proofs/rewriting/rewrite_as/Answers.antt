use Rattle.std.specs.Prelude.{option_copied}
use Rattle.cert_front.proofs.Rewritings.{checked_printable, checked_valid, refused, rewritten}
use Rattle.cert_front.proofs.rewriting.rewrite_as.Goals as goal

pub new_text-requires-clause-valid : goal.new_text-requires-clause-valid
new_text-requires-clause-valid g c =
    let h = rw c.in-Ok-Ok.field-0-is at c.in-Ok-Ok.ensures in
    checked_valid g.C.Kind.checked_value (option_copied c.args.problem) (g.C.Kind.value c.args.cert) c.in-Ok-Ok.checked h

pub new_text-requires-clause-printable : goal.new_text-requires-clause-printable
new_text-requires-clause-printable g c =
    let h = rw c.in-Ok-Ok.field-0-is at c.in-Ok-Ok.ensures in
    checked_printable g.C.Kind.checked_value (option_copied c.args.problem) (g.C.Kind.value c.args.cert) c.in-Ok-Ok.checked h c.requires.printable

pub returns-in_ok-text-in-Ok-Ok : goal.returns-in_ok-text-in-Ok-Ok
returns-in_ok-text-in-Ok-Ok g c =
    let h = rw c.in-Ok-Ok.field-0-is at c.in-Ok-Ok.ensures in
    rewritten g.C.Kind.checked_value (option_copied c.args.problem) c.args.name.now (g.C.Kind.value c.args.cert) c.in-Ok-Ok.checked c.in_ok-text-in-Ok-Ok.text h c.in_ok-text-in-Ok-Ok.ensures

pub returns-in-Ok-Err : goal.returns-in-Ok-Err
returns-in-Ok-Err g c =
    let h = rw c.in-Ok-Err.field-0-is at c.in-Ok-Err.ensures in
    refused g.C.Kind.checked_value (option_copied c.args.problem) c.args.name.now (g.C.Kind.value c.args.cert) c.form-form.result c.in-Ok-Err.judgement c.form-form.ensures h
