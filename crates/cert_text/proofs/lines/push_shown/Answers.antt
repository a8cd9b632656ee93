use Rattle.std.proofs.Common.{codes}
use Rattle.term_bank.specs.Forest.{clause_at}
use Rattle.cert_format.specs.Lines.{by_text}
use Rattle.cert_values.specs.Values.{by_of}
use Rattle.cert_text.specs.Pieces.{line_front}
use Rattle.cert_text.proofs.Pieces.{line_written}
use Rattle.cert_text.proofs.lines.push_shown.Goals as goal

pub returns : goal.returns
returns c =
    line_written _ _ _ _ (line_front (codes "q") c.args.n (codes "plain") (clause_at c.args.bank.now c.args.clause.now)) (by_text (by_of c.args.bank.now c.args.by.now))
    c.in_ok-push_front.ensures c.in_ok-push_by.ensures c.in_ok-bytes.ensures
