use Rattle.szs_prove.specs.Answers.{IsUndecided, reading}
use Rattle.szs_prove.proofs.Proved.{all_verdicts}
use Rattle.szs_prove.proofs.Refused.{all_refusals, load_refusal}
use Rattle.szs_prove.proofs.prove.prove.Goals as goal

pub certificate-requires-clause-problem : goal.certificate-requires-clause-problem
certificate-requires-clause-problem g c = c.in-Ok.ensures.ok.good

pub returns-in-Ok-clause-ok : goal.returns-in-Ok-clause-ok
returns-in-Ok-clause-ok g c = all_verdicts _ c.args.file.now _ c.in-Ok.problem c.requires.name c.in-Ok.ensures.ok c.certificate.result c.certificate.ensures.ok

pub returns-in-Ok-clause-err : goal.returns-in-Ok-clause-err
returns-in-Ok-clause-err g c =
    let read = reading (g.L.Library.told c.args.files.now) (g.L.Library.told c.problem_of_file.new.files) in
    all_refusals (IsUndecided c.args.budget) read c.args.file.now _ c.in-Ok.problem c.in-Ok.ensures.ok c.certificate.result c.certificate.ensures.err

pub returns-in-Err-clause-err : goal.returns-in-Err-clause-err
returns-in-Err-clause-err g c =
    load_refusal (IsUndecided c.args.budget) (reading (g.L.Library.told c.args.files.now) (g.L.Library.told c.problem_of_file.new.files)) c.args.file.now _ c.in-Err.refusal c.in-Err.ensures.err
