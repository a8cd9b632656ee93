use Rattle.std.proofs.Common.{◌++◌, codes}
use Rattle.cert_format.specs.Formats.{written_format}
use Rattle.cert_format.specs.Lines.{cover_line, end_line, format_line, selected_line, shown_line}
use Rattle.cert_format.specs.Text.{axiom_lines, head_lines, input_lines, numbered_lines, paired_lines}
use Rattle.cert_values.specs.Values.{covered_of}
use Rattle.cert_text.proofs.Pieces.{more, more_thrice}
use Rattle.cert_text.proofs.whole.push_covered.Goals as goal

pub returns : goal.returns
returns c =
    let cert = covered_of c.args.cert.now in
    let base = cert.saturation.base in
    let head = head_lines (codes "Satisfiable") (codes "Saturation") c.args.name.now ++ format_line written_format in
    let selected = paired_lines selected_line 1 base.members cert.saturation.places in
    let members = head ++ input_lines base ++ axiom_lines base ++ selected in
    let shown = paired_lines shown_line 1 (base.inputs ++ base.axioms) cert.shown in
    let named = numbered_lines cover_line 1 cert.covers in
    let covers = rw c.as_slice.ensures at c.in_ok-push_covers.ensures in
    let t2 = more_thrice _ _ _ head (input_lines base) (axiom_lines base) selected c.in_ok-push_head.ensures c.in_ok-push_selection.ensures in
    let t3 = more _ _ _ members shown t2 c.in_ok-push_shown_base.ensures in
    let t4 = more _ _ _ (members ++ shown) named t3 covers in
    more _ _ _ (members ++ shown ++ named) (end_line (codes "Saturation") c.args.name.now) t4 c.in_ok-push_end.ensures
