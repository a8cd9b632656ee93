use Rattle.szs_prove.proofs.Ended.{ended}
use Rattle.szs_prove.proofs.answer.tell.Goals as goal

pub returns : goal.returns
returns g c =
    ended (g.K.Sink.seen c.args.out.now) (g.K.Sink.seen c.write_pieces-written.new.out) _ _ c.write_pieces-written.result _ _ _
    c.pieces-pieces.ensures c.exit.ensures c.exit_after.ensures c.write_pieces-written.ensures
