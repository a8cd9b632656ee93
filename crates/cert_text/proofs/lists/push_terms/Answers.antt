use Rattle.std.proofs.Common.{◌++◌, ◌∙◌, ap, sym, codes, map}
use Rattle.inst_logic.specs.Printing.{joined, tree_text}
use Rattle.term_bank.specs.Forest.{tree_at}
use Rattle.cert_text.proofs.Pieces.{more, plain_listed}
use Rattle.cert_text.proofs.lists.push_terms.Goals as goal

pub returns : goal.returns
returns c =
    let pieces = map tree_text (map (tree_at c.args.bank.now) c.args.ids.now) in
    let front = more _ _ _ (codes "[") (joined (codes ",") pieces) c.in_ok-bytes.ensures c.in_ok-push_joined_terms.ensures in
    more _ _ _ (codes "[" ++ joined (codes ",") pieces) (codes "]") front c.in_ok-bytes-2.ensures ∙ ap (λ t. c.args.pen.now ++ t) (sym (plain_listed pieces))
