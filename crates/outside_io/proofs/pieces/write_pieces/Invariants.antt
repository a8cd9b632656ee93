use Rattle.std.proofs.Common.{◌≡◌, ◌≤◌, take}
use Rattle.std.specs.Io.KnownBytes.{Appends}
use Rattle.outside_io.specs.Pieces.{text_of}
use Rattle.outside_io.proofs.pieces.write_pieces.Given as goal

abbrev pub invariant-loop-piece : goal.invariant-loop-piece
invariant-loop-piece g l = record {
  taken : Appends (g.K.Sink.seen l.initial.out).taken (g.K.Sink.seen l.out).taken (text_of (take l.piece-index l.pieces));
  later : (g.K.Sink.seen l.initial.out).faults ≤ (g.K.Sink.seen l.out).faults;
  may_want : (g.K.Sink.seen l.out).may_want ≡ (g.K.Sink.seen l.initial.out).may_want;
}
