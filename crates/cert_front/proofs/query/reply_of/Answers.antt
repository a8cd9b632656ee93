use Rattle.std.proofs.Common.{IfOk, sym, subst}
use Rattle.inst_logic.specs.LiteralView.{literal}
use Rattle.cert_reader.specs.Reads.{value_of}
use Rattle.cert_reader.specs.declared.certificate.Certificate.{Certificate}
use Rattle.cert_front.specs.Replies.{IsReply}
use Rattle.cert_front.proofs.query.reply_of.Goals as goal

pub returns-in-Covered-clause-replied : goal.returns-in-Covered-clause-replied
returns-in-Covered-clause-replied c =
    subst (λ (x : Certificate). IfOk c.reply-in-Covered.result (IsReply (value_of x) (literal c.args.atom.now).atom)) (sym c.in-Covered.is) c.reply-in-Covered.ensures.replied
