use Rattle.std.proofs.Common.{◌++◌, [], codes, decimal, map}
use Rattle.inst_logic.specs.Printing.{tree_text}
use Rattle.term_bank.specs.Forest.{tree_at}
use Rattle.cert_format.specs.Lines.{listed}
use Rattle.cert_text.proofs.Pieces.{four_more, more, term_ids}
use Rattle.cert_text.proofs.lines.push_part.Goals as goal

pub push_terms-requires : goal.push_terms-requires
push_terms-requires c = term_ids c.args.bank.now c.args.terms.now c.as_slice.result.now c.as_slice.ensures c.requires

pub returns : goal.returns
returns c =
    let terms = listed [] (map tree_text (map (tree_at c.args.bank.now) c.args.terms.now)) in
    let read = rw c.as_slice.ensures at c.in_ok-push_terms.ensures in
    let front = four_more _ _ _ _ _ (codes "part(m") (decimal c.args.member) (codes ",") terms c.in_ok-bytes.ensures c.in_ok-number.ensures c.in_ok-bytes-2.ensures read in
    more _ _ _ (codes "part(m" ++ decimal c.args.member ++ codes "," ++ terms) (codes ")") front c.in_ok-bytes-3.ensures
