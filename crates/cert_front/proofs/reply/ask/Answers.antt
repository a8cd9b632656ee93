use Rattle.std.proofs.Common.{IfOk, sym, subst}
use Rattle.inst_logic.specs.LiteralView.{literal}
use Rattle.cert_format.specs.Certificate.{Certificate}
use Rattle.cert_values.specs.Wholes.{AreLight}
use Rattle.cert_front.specs.Kinds.{selected_of}
use Rattle.cert_front.specs.Replies.{IsReply}
use Rattle.cert_front.proofs.reply.ask.Goals as goal

pub reply_of-requires-clause-light : goal.reply_of-requires-clause-light
reply_of-requires-clause-light g c = subst (λ (x : Certificate). AreLight (selected_of x)) (sym c.in-Ok.ensures.same) c.requires.light

pub returns-in-Ok : goal.returns-in-Ok
returns-in-Ok g c = subst (λ (x : Certificate). IfOk c.reply_of.result (IsReply x (literal c.args.atom.now).atom)) c.in-Ok.ensures.same c.reply_of.ensures
