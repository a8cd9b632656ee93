use Rattle.std.proofs.Common.{arith, length-drop}
use Rattle.std.proofs.lemmas.List.{take_rest}
use Rattle.tptp_read.proofs.GapLemmas.{gap_goes_on}
use Rattle.tptp_read.proofs.skip.gap_len.Goals as goal

pub loop-n-preserved : goal.loop-n-preserved
loop-n-preserved c =
    let bytes = c.args.bytes.now in
    let n = c.loop-n.n in
    let k = c.piece_len-k.result in
    let same = take_rest bytes n in
    let said = rw same at c.piece_len-k.ensures in
    record {
      in_range = omega (arith, said.within, length-drop n bytes);
      total = gap_goes_on bytes n k _ said.is (omega arith) said.within c.loop-n.invariant.total;
    }
