use Rattle.std.proofs.Common.{◌≡◌, ◌++◌, drop, map}
use Rattle.inst_logic.specs.LiteralView.{literal}
use Rattle.tptp_write.specs.Pieces.{following_text}
use Rattle.tptp_write.proofs.clauses.push_following.Given as goal

abbrev pub invariant-loop-l : goal.invariant-loop-l
invariant-loop-l l = l.text.items ++ following_text (map literal (drop l.l-index l.literals)) ≡ l.initial.text.items ++ following_text (map literal l.literals)
