use Rattle.std.proofs.Common.{◌++◌, codes, decimal}
use Rattle.cert_format.specs.Lines.{side_word}
use Rattle.cert_values.specs.Values.{side_of}
use Rattle.cert_text.proofs.Pieces.{four_more}
use Rattle.cert_text.proofs.lines.push_due.Goals as goal

pub returns : goal.returns
returns c =
    let numbers = codes "cover(m" ++ decimal c.args.left ++ codes ",m" ++ decimal c.args.right in
    let side = side_word (side_of c.args.side) in
    let t4 = four_more _ _ _ _ _ (codes "cover(m") (decimal c.args.left) (codes ",m") (decimal c.args.right) c.in_ok-bytes.ensures c.in_ok-number.ensures c.in_ok-bytes-2.ensures c.in_ok-number-2.ensures in
    four_more _ _ _ _ _ numbers (codes ",") side (codes "),[") t4 c.in_ok-bytes-3.ensures c.in_ok-push_side.ensures c.in_ok-bytes-4.ensures
