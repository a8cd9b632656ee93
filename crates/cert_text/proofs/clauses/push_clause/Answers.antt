use Rattle.std.proofs.Common.{arith}
use Rattle.std.proofs.lemmas.Result.{on_ok_weaker}
use Rattle.cert_text.proofs.Writing.{clause_written}
use Rattle.cert_text.proofs.clauses.push_clause.Goals as goal

pub returns-in_ok-push_literal-in-len1-up : goal.returns-in_ok-push_literal-in-len1-up
returns-in_ok-push_literal-in-len1-up c =
    on_ok_weaker c.push_following.result
    (clause_written c.args.bank.now c.args.pen.now c.push_literal.new.pen c.push_following.new.pen c.as_slice.result.now c.first-item.result c.args.clause.now
    c.as_slice.ensures (omega (arith, c.in-len1-up.len_at_least)) c.first-item.is c.in_ok-push_literal-in-len1-up.ensures) c.push_following.ensures
