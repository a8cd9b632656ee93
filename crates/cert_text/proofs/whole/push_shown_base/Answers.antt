use Rattle.cert_format.specs.Lines.{shown_line}
use Rattle.term_bank.specs.Forest.{clause_at}
use Rattle.cert_values.specs.Values.{by_of}
use Rattle.cert_text.proofs.Pieces.{paired_twice}
use Rattle.cert_text.proofs.whole.push_shown_base.Goals as goal

pub returns : goal.returns
returns c =
    let bank = c.args.cert.now.cert.base.bank in
    let inputs = rw (c.as_slice-inputs.ensures, c.as_slice-shown.ensures) at c.in_ok-push_shown_clauses.ensures in
    let axioms = rw (c.as_slice-axioms.ensures, c.as_slice-shown.ensures) at c.in_ok-push_shown_clauses-2.ensures in
    paired_twice shown_line (clause_at bank) (by_of bank) _ _ _ _ c.args.cert.now.cert.base.inputs c.args.cert.now.cert.base.axioms c.args.cert.now.shown c.len-before.ensures inputs axioms
