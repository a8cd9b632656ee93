use Rattle.cert_format.specs.Text.{axiom_lines, input_lines}
use Rattle.cert_values.specs.Values.{base_of}
use Rattle.cert_text.proofs.Pieces.{more}
use Rattle.cert_text.proofs.whole.push_base.Goals as goal

pub returns : goal.returns
returns c =
    let inputs = rw (c.as_slice.ensures, c.as_slice-2.ensures) at c.in_ok-push_inputs.ensures in
    let axioms = rw c.as_slice-3.ensures at c.in_ok-push_axioms.ensures in
    more _ _ _ (input_lines (base_of c.args.base.now)) (axiom_lines (base_of c.args.base.now)) inputs axioms
