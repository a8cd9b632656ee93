use Rattle.szs_prove.specs.Answers.{reading}
use Rattle.szs_prove.specs.CoreAnswers.{IsUncored}
use Rattle.szs_prove.proofs.CoreAnswered.{core_answers}
use Rattle.szs_prove.proofs.Refused.{all_refusals, load_refusal}
use Rattle.szs_prove.proofs.cores.core_file.Goals as goal

pub answer-requires : goal.answer-requires
answer-requires g c = c.in-Ok.ensures.ok.good

pub returns-in-Ok-clause-ok : goal.returns-in-Ok-clause-ok
returns-in-Ok-clause-ok g c = core_answers c.in-Ok.problem c.args.file.now _ _ c.in-Ok.ensures.ok c.answer.result c.answer.ensures.ok

pub returns-in-Ok-clause-err : goal.returns-in-Ok-clause-err
returns-in-Ok-clause-err g c =
    let read = reading (g.L.Library.told c.args.files.now) (g.L.Library.told c.problem_of_file.new.files) in
    all_refusals IsUncored read c.args.file.now _ c.in-Ok.problem c.in-Ok.ensures.ok c.answer.result c.answer.ensures.err

pub returns-in-Err-clause-err : goal.returns-in-Err-clause-err
returns-in-Err-clause-err g c =
    load_refusal IsUncored (reading (g.L.Library.told c.args.files.now) (g.L.Library.told c.problem_of_file.new.files)) c.args.file.now _ c.in-Err.refusal c.in-Err.ensures.err
