use Rattle.std.proofs.lemmas.Result.{err_from_is_err_and}
use Rattle.outside_io.proofs.CutShort.{left_off}
use Rattle.outside_io.proofs.pieces.write_pieces.Goals as goal

pub returns-in_err-write_piece : goal.returns-in_err-write_piece
returns-in_err-write_piece g c =
    let i = c.loop-piece.invariant in
    let left = left_off (g.K.Sink.seen c.args.out.now) (g.K.Sink.seen c.loop-piece.out) (g.K.Sink.seen c.write_piece.new.out) c.args.pieces.now c.loop-piece.piece-index _ c.in_err-write_piece.field-0.0
    c.loop-piece-test.true i.taken i.later i.may_want c.in_err-write_piece.ensures in
    let p = err_from_is_err_and c.from_residual.result c.from_residual.ensures.1 in
    rw (p.1, p.2) left
