use Rattle.std.proofs.Common.{◌++◌, codes}
use Rattle.inst_logic.specs.Printing.{name_text}
use Rattle.term_bank.specs.Forest.{clause_at}
use Rattle.cert_text.specs.Pieces.{line_front}
use Rattle.cert_text.proofs.Pieces.{line_written}
use Rattle.cert_text.proofs.lines.push_input.Goals as goal

pub returns : goal.returns
returns c =
    line_written _ _ _ _ (line_front (codes "i") c.args.n (codes "axiom") (clause_at c.args.bank.now c.args.clause.now)) (codes "named(" ++ name_text c.args.name.now ++ codes ")") c.in_ok-push_front.ensures c.in_ok-push_named.ensures c.in_ok-bytes.ensures
