use Rattle.std.proofs.Common.{◌≤◌, length, arith}
use Rattle.std.proofs.lemmas.List.{length-map}
use Rattle.term_bank.specs.Forest.{clause_at, literal_tree}
use Rattle.cert_check.proofs.OriginLemmas.{plain_form}
use Rattle.cert_check.proofs.origin.is_plain.Goals as goal

pub returns-in-None : goal.returns-in-None
returns-in-None c t =
    let f = c.args.bank.now in
    let short : length (clause_at f c.args.c.now) ≤ 1 = omega (arith, c.is_short.ensures t, length-map c.args.c.now (literal_tree f)) in
    plain_form (clause_at f c.args.c.now) short c.in-None.ensures
