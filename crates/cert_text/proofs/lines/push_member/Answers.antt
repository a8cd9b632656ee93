use Rattle.std.proofs.Common.{codes}
use Rattle.cert_format.specs.Lines.{origin_text}
use Rattle.cert_values.specs.Values.{origin_of}
use Rattle.term_bank.specs.Forest.{clause_at}
use Rattle.cert_text.specs.Pieces.{line_front}
use Rattle.cert_text.proofs.Pieces.{line_written}
use Rattle.cert_text.proofs.lines.push_member.Goals as goal

pub returns : goal.returns
returns c =
    line_written _ _ _ _ (line_front (codes "m") c.args.n (codes "plain") (clause_at c.args.bank.now c.args.member.now.clause)) (origin_text (origin_of c.args.member.now.origin)) c.in_ok-push_front.ensures c.in_ok-push_origin.ensures c.in_ok-bytes.ensures
