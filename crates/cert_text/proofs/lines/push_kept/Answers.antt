use Rattle.std.proofs.Common.{[], codes, decimal, map}
use Rattle.cert_format.specs.Lines.{listed}
use Rattle.cert_text.proofs.Pieces.{four_more}
use Rattle.cert_text.proofs.lines.push_kept.Goals as goal

pub returns : goal.returns
returns c =
    let keep = rw c.as_slice.ensures at c.in_ok-push_numbers.ensures in
    let premises = rw c.as_slice-2.ensures at c.in_ok-push_numbers-2.ensures in
    four_more _ _ _ _ _ (codes ",") (listed [] (map decimal c.args.keep.now)) (codes ",") (listed (codes "m") (map decimal c.args.premises.now)) c.in_ok-bytes.ensures keep c.in_ok-bytes-2.ensures premises
