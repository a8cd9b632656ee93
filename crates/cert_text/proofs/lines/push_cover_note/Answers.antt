use Rattle.std.proofs.Common.{◌++◌, codes, decimal}
use Rattle.cert_format.specs.Lines.{by_text, side_word}
use Rattle.cert_values.specs.Values.{by_of, side_of}
use Rattle.cert_text.proofs.Pieces.{more}
use Rattle.cert_text.proofs.lines.push_cover_note.Goals as goal

pub returns : goal.returns
returns c =
    let cover = c.args.cover.now in
    let due = codes "cover(m" ++ decimal cover.left ++ codes ",m" ++ decimal cover.right ++ codes "," ++ side_word (side_of cover.side) ++ codes "),[" in
    let by = by_text (by_of c.args.bank.now cover.by) in
    more _ _ _ (due ++ by) (codes "]") (more _ _ _ due by c.in_ok-push_due.ensures c.in_ok-push_by.ensures) c.in_ok-bytes.ensures
