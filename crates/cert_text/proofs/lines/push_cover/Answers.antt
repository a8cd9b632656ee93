use Rattle.std.proofs.Common.{◌++◌, codes, decimal}
use Rattle.term_bank.specs.Forest.{clause_at}
use Rattle.cert_format.specs.Lines.{by_text, side_word}
use Rattle.cert_values.specs.Values.{by_of, side_of}
use Rattle.cert_text.specs.Pieces.{line_front}
use Rattle.cert_text.proofs.Pieces.{line_written}
use Rattle.cert_text.proofs.lines.push_cover.Goals as goal

pub push_front-requires : goal.push_front-requires
push_front-requires c = c.requires.clause.ids

pub push_cover_note-requires : goal.push_cover_note-requires
push_cover_note-requires c = c.requires.by

pub returns : goal.returns
returns c =
    let cover = c.args.cover.now in
    let note = codes "cover(m" ++ decimal cover.left ++ codes ",m" ++ decimal cover.right ++ codes "," ++ side_word (side_of cover.side) ++ codes "),[" ++ by_text (by_of c.args.bank.now cover.by) ++ codes "]" in
    line_written _ _ _ _ (line_front (codes "c") c.args.n (codes "plain") (clause_at c.args.bank.now cover.clause)) note
    c.in_ok-push_front.ensures c.in_ok-push_cover_note.ensures c.in_ok-bytes.ensures
