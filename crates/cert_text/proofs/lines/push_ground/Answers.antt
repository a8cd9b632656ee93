use Rattle.std.proofs.Common.{◌++◌, [], codes, decimal, map}
use Rattle.inst_logic.specs.Printing.{tree_text}
use Rattle.term_bank.specs.Forest.{clause_at, tree_at}
use Rattle.cert_format.specs.Lines.{listed}
use Rattle.cert_text.specs.Pieces.{line_front}
use Rattle.cert_text.proofs.Pieces.{line_written}
use Rattle.cert_text.proofs.lines.push_ground.Goals as goal

pub push_front-requires : goal.push_front-requires
push_front-requires c = c.requires.clause.ids

pub push_instance-requires : goal.push_instance-requires
push_instance-requires c = c.requires.terms

pub returns : goal.returns
returns c =
    let line = c.args.line.now in
    line_written _ _ _ _ (line_front (codes "g") c.args.n (codes "plain") (clause_at c.args.bank.now line.clause)) (codes "ground(" ++ decimal line.input ++ codes "," ++ listed [] (map tree_text (map (tree_at c.args.bank.now) line.terms)) ++ codes ")")
    c.in_ok-push_front.ensures c.in_ok-push_instance.ensures c.in_ok-bytes.ensures
