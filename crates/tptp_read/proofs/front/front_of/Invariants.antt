use Rattle.std.proofs.Common.{◌≡◌, ◌-◌, drop, length}
use Rattle.tptp_read.specs.LexemeView.{toks}
use Rattle.tptp_read.proofs.Fronts.{SoFar}
use Rattle.tptp_read.proofs.front.front_of.Given as goal

abbrev pub invariant-loop-t : goal.invariant-loop-t
invariant-loop-t l = record {
  text : l.stream.text ≡ l.text;
  so_far : SoFar l.text (toks l.found.items) (drop l.stream.at l.text);
}

abbrev pub decreases-loop-t : goal.decreases-loop-t
decreases-loop-t l = length l.text - l.stream.at
