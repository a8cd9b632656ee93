use Rattle.std.proofs.Common.{◌++◌, codes}
use Rattle.cert_format.specs.Formats.{written_format}
use Rattle.cert_format.specs.Lines.{constant_line, end_line, format_line, ground_line_by, member_line, step_line}
use Rattle.cert_format.specs.Text.{axiom_lines, head_lines, input_lines, numbered_lines}
use Rattle.cert_values.specs.Values.{refutation_of}
use Rattle.cert_text.proofs.Pieces.{more, more_twice}
use Rattle.cert_text.proofs.whole.push_refutation.Goals as goal

pub returns : goal.returns
returns c =
    let cert = refutation_of c.args.cert.now in
    let head = head_lines (codes "Unsatisfiable") (codes "CNFRefutation") c.args.name.now ++ format_line written_format in
    let based = head ++ constant_line cert.bot ++ input_lines cert.base ++ axiom_lines cert.base in
    let derived = based ++ numbered_lines member_line 1 cert.base.members in
    let grounded = derived ++ numbered_lines ground_line_by 1 cert.grounds in
    let constant = rw c.bytes.ensures at c.in_ok-push_constant.ensures in
    let members = rw c.as_slice.ensures at c.in_ok-push_members.ensures in
    let grounds = rw c.as_slice-2.ensures at c.in_ok-push_grounds.ensures in
    let steps = rw c.as_slice-3.ensures at c.in_ok-push_steps.ensures in
    let t2 = more _ _ _ head (constant_line cert.bot) c.in_ok-push_head.ensures constant in
    let t3 = more_twice _ _ _ (head ++ constant_line cert.bot) (input_lines cert.base) (axiom_lines cert.base) t2 c.in_ok-push_base.ensures in
    let t4 = more _ _ _ based (numbered_lines member_line 1 cert.base.members) t3 members in
    let t5 = more _ _ _ derived (numbered_lines ground_line_by 1 cert.grounds) t4 grounds in
    let t6 = more _ _ _ grounded (numbered_lines step_line 1 cert.steps) t5 steps in
    more _ _ _ (grounded ++ numbered_lines step_line 1 cert.steps) (end_line (codes "CNFRefutation") c.args.name.now) t6 c.in_ok-push_end.ensures
