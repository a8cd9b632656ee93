use Rattle.std.proofs.Common.{◌++◌, codes, map}
use Rattle.inst_logic.specs.Printing.{joined}
use Rattle.cert_format.specs.Lines.{hint_text}
use Rattle.cert_values.specs.Values.{hint_of}
use Rattle.term_bank.specs.Forest.{clause_at}
use Rattle.cert_text.specs.Pieces.{line_front}
use Rattle.cert_text.proofs.Pieces.{line_written}
use Rattle.cert_text.proofs.lines.push_step.Goals as goal

pub returns : goal.returns
returns c =
    let shown = rw c.as_slice.ensures at c.in_ok-push_rup.ensures in
    line_written _ _ _ _ (line_front (codes "r") c.args.n (codes "plain") (clause_at c.args.bank.now c.args.step.now.clause)) (codes "rup([" ++ joined (codes ",") (map hint_text (map hint_of c.args.step.now.hints)) ++ codes "])") c.in_ok-push_front.ensures shown c.in_ok-bytes.ensures
