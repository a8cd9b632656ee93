use Rattle.std.proofs.Common.{codes, refl}
use Rattle.szs_prove.specs.declared.answer.Answer.TheVariants.{NoWords}
use Rattle.szs_prove.proofs.command.answer_words.Goals as goal

pub answer_request-requires-clause-asked : goal.answer_request-requires-clause-asked
answer_request-requires-clause-asked g c = c.in-Ok.ensures.asked

pub answer_request-requires-clause-unread : goal.answer_request-requires-clause-unread
answer_request-requires-clause-unread g c = c.in-Ok.ensures.unread

pub returns-in-Err-clause-answered : goal.returns-in-Err-clause-answered
returns-in-Err-clause-answered g c = record { name = codes "instgen"; answer = NoWords; cause = (refl, refl); written = c.tell.ensures }

pub returns-in-Ok-clause-answered : goal.returns-in-Ok-clause-answered
returns-in-Ok-clause-answered g c = c.answer_request.ensures.answered.0
