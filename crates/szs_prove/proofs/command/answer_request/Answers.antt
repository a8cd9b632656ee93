use Rattle.std.proofs.Common.{codes, map, string_bytes, subst, refl, sym, ap, ◌∙◌, Option, List, ℕ}
use Rattle.std.specs.Prelude.{IfNone, IfSome}
use Rattle.command_words.specs.Asked.{IsAsked, IsUnread, asked, name_of}
use Rattle.command_words.specs.declared.request.Request.{Request}
use Rattle.szs_prove.specs.Answered.{exit_for, name_for, text_for}
use Rattle.szs_prove.specs.Written.{IsWritten}
use Rattle.szs_prove.specs.declared.answer.Answer.TheVariants.{Unread}
use Rattle.szs_prove.proofs.command.answer_request.Goals as goal

pub answer-answer-requires : goal.answer-answer-requires
answer-answer-requires g c = subst (λ (o : Option Request). IfSome o (λ q. IsAsked (map string_bytes c.args.words.now) (asked q))) c.in-Some.is c.requires.asked

pub returns-in-None-clause-answered : goal.returns-in-None-clause-answered
returns-in-None-clause-answered g c =
    let unread = subst (λ (o : Option Request). IfNone o (IsUnread (map string_bytes c.args.words.now))) c.in-None.is c.requires.unread in
    (record { name = codes "instgen"; answer = Unread; cause = (refl, refl, unread); written = c.tell.ensures }, sym (ap name_for c.in-None.is))

pub returns-in-Some-clause-answered : goal.returns-in-Some-clause-answered
returns-in-Some-clause-answered g c = (
  record {
    name = name_of (asked c.in-Some.request);
    answer = c.answer-answer.result;
    cause = c.answer-answer.ensures.answer;
    written = subst (λ (n : List ℕ). IsWritten (g.K.Sink.seen c.args.out.now) (g.K.Sink.seen c.tell-exit.new.out) (text_for n c.answer-answer.result) (exit_for c.answer-answer.result) c.tell-exit.result)
        (c.as_bytes.ensures.value ∙ c.name_of-name.ensures) c.tell-exit.ensures;
  },
  sym (ap name_for c.in-Some.is),
)
