use Rattle.std.proofs.Common.{arith, map, refl}
use Rattle.std.proofs.lemmas.Result.{on_ok_weaker}
use Rattle.inst_logic.specs.LiteralView.{literal}
use Rattle.tptp_write.proofs.Walks.{clause_written}
use Rattle.tptp_write.proofs.clauses.push_literals.Goals as goal

pub returns-in_ok-push_literal-in-len1-up : goal.returns-in_ok-push_literal-in-len1-up
returns-in_ok-push_literal-in-len1-up c =
    on_ok_weaker c.push_following.result
    (clause_written c.args.text.now.items c.push_literal.new.text.items c.push_following.new.text.items c.args.literals.now c.first-item.result (map literal c.args.literals.now)
    refl (omega (arith, c.in-len1-up.len_at_least)) c.first-item.is c.in_ok-push_literal-in-len1-up.ensures) c.push_following.ensures
