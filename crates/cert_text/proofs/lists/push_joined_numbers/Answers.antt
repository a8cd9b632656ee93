use Rattle.std.proofs.Common.{arith}
use Rattle.std.proofs.lemmas.Result.{on_ok_weaker}
use Rattle.cert_text.proofs.Pieces.{marked_written}
use Rattle.cert_text.proofs.lists.push_joined_numbers.Goals as goal

pub returns-in_ok-push_marked-in-len1-up : goal.returns-in_ok-push_marked-in-len1-up
returns-in_ok-push_marked-in-len1-up c =
    on_ok_weaker c.push_following_numbers.result
    (marked_written c.args.mark.now c.args.pen.now c.push_marked.new.pen c.push_following_numbers.new.pen c.args.numbers.now (omega (arith, c.in-len1-up.len_at_least)) c.in_ok-push_marked-in-len1-up.ensures)
    c.push_following_numbers.ensures
