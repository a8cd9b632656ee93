use Rattle.szs_prove.specs.Answers.{reading}
use Rattle.szs_prove.specs.ModelAnswers.{IsUnmodelled}
use Rattle.szs_prove.proofs.ModelTexts.{all_texts}
use Rattle.szs_prove.proofs.Refused.{all_refusals, load_refusal}
use Rattle.szs_prove.proofs.model.model_file.Goals as goal

pub model_text-requires-clause-good : goal.model_text-requires-clause-good
model_text-requires-clause-good g c = c.in-Ok.ensures.ok.good

pub returns-in-Ok-clause-ok : goal.returns-in-Ok-clause-ok
returns-in-Ok-clause-ok g c = all_texts _ c.args.k c.args.file.now _ c.in-Ok.problem c.in-Ok.ensures.ok c.model_text.result c.model_text.ensures.ok

pub returns-in-Ok-clause-err : goal.returns-in-Ok-clause-err
returns-in-Ok-clause-err g c =
    let read = reading (g.L.Library.told c.args.files.now) (g.L.Library.told c.problem_of_file.new.files) in
    all_refusals (IsUnmodelled c.args.k) read c.args.file.now _ c.in-Ok.problem c.in-Ok.ensures.ok c.model_text.result c.model_text.ensures.err

pub returns-in-Err-clause-err : goal.returns-in-Err-clause-err
returns-in-Err-clause-err g c =
    load_refusal (IsUnmodelled c.args.k) (reading (g.L.Library.told c.args.files.now) (g.L.Library.told c.problem_of_file.new.files)) c.args.file.now _ c.in-Err.refusal c.in-Err.ensures.err
