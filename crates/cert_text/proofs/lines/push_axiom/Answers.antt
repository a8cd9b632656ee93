use Rattle.std.proofs.Common.{codes}
use Rattle.term_bank.specs.Forest.{clause_at}
use Rattle.cert_text.specs.Pieces.{line_front}
use Rattle.cert_text.proofs.Pieces.{line_written}
use Rattle.cert_text.proofs.lines.push_axiom.Goals as goal

pub returns : goal.returns
returns c =
    line_written _ _ _ _ (line_front (codes "e") c.args.n (codes "axiom") (clause_at c.args.bank.now c.args.clause.now)) (codes "equality") c.in_ok-push_front.ensures c.in_ok-bytes.ensures c.in_ok-bytes-2.ensures
