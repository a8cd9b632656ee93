use Rattle.std.proofs.Common.{◌++◌}
use Rattle.cert_format.specs.Lines.{selected_line}
use Rattle.cert_format.specs.Text.{axiom_lines, input_lines, paired_lines}
use Rattle.cert_values.specs.Values.{saturation_of}
use Rattle.cert_text.proofs.Pieces.{more}
use Rattle.cert_text.proofs.whole.push_selection.Goals as goal

pub returns : goal.returns
returns c =
    let cert = saturation_of c.args.cert.now in
    let members = rw (c.as_slice.ensures, c.as_slice-2.ensures) at c.in_ok-push_selected_members.ensures in
    more _ _ _ (input_lines cert.base ++ axiom_lines cert.base) (paired_lines selected_line 1 cert.base.members cert.places) c.in_ok-push_base.ensures members
