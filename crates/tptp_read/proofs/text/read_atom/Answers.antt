use Rattle.std.specs.Prelude.{IsTrue}
use Rattle.inst_logic.specs.LiteralView.{literal}
use Rattle.inst_logic.specs.WellFormed.{IsAtom}
use Rattle.tptp_read.specs.Atoms.{ReadsAtom}
use Rattle.tptp_read.specs.Names.{tree_is_readable}
use Rattle.tptp_read.proofs.ReadableLaws.{atom_formed, atom_readable, if_ok}
use Rattle.tptp_read.proofs.text.read_atom.Goals as goal

pub returns-clause-formed : goal.returns-clause-formed
returns-clause-formed c =
    let text = c.args.text.now in
    if_ok (λ l. ReadsAtom text (literal l)) (λ l. IsAtom (literal l).atom) c.atom_in.result (λ l r. atom_formed text (literal l) r) c.atom_in.ensures.read

pub returns-clause-names : goal.returns-clause-names
returns-clause-names c =
    let text = c.args.text.now in
    if_ok (λ l. ReadsAtom text (literal l)) (λ l. IsTrue (tree_is_readable (literal l).atom)) c.atom_in.result (λ l r. atom_readable text (literal l) r) c.atom_in.ensures.read
