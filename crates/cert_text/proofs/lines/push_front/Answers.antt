use Rattle.std.proofs.Common.{◌++◌, codes, decimal}
use Rattle.inst_logic.specs.Printing.{clause_text}
use Rattle.term_bank.specs.Forest.{clause_at}
use Rattle.cert_text.proofs.Pieces.{more}
use Rattle.cert_text.proofs.lines.push_front.Goals as goal

pub returns : goal.returns
returns c =
    let label = codes "cnf(" ++ c.args.label.now in
    let number = label ++ decimal c.args.n in
    let role = number ++ codes "," ++ c.args.role.now in
    let clause = clause_text (clause_at c.args.bank.now c.args.clause.now) in
    let t2 = more _ _ _ (codes "cnf(") c.args.label.now c.in_ok-bytes.ensures c.in_ok-bytes-2.ensures in
    let t3 = more _ _ _ label (decimal c.args.n) t2 c.in_ok-number.ensures in
    let t4 = more _ _ _ number (codes ",") t3 c.in_ok-bytes-3.ensures in
    let t5 = more _ _ _ (number ++ codes ",") c.args.role.now t4 c.in_ok-bytes-4.ensures in
    let t6 = more _ _ _ role (codes ",") t5 c.in_ok-bytes-5.ensures in
    let t7 = more _ _ _ (role ++ codes ",") clause t6 c.in_ok-push_clause.ensures in
    more _ _ _ (role ++ codes "," ++ clause) (codes ",") t7 c.in_ok-bytes-6.ensures
