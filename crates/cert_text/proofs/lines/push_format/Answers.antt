use Rattle.std.proofs.Common.{◌∷◌, ◌++◌, [], codes, decimal}
use Rattle.cert_text.proofs.Pieces.{more}
use Rattle.cert_text.proofs.lines.push_format.Goals as goal

pub returns : goal.returns
returns c = more _ _ _ (codes "% instgen certificate " ++ decimal c.args.format) (10 ∷ []) (more _ _ _ (codes "% instgen certificate ") (decimal c.args.format) c.in_ok-bytes.ensures c.in_ok-number.ensures) c.in_ok-bytes-2.ensures
