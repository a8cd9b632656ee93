use Rattle.std.proofs.Common.{rules, sym}
use Rattle.tptp_read.specs.Atoms.{IsAtomCause}
use Rattle.command_words.proofs.AtomTexts.{refused_is_no_atom}
use Rattle.command_words.proofs.judges.atom_of.Goals as goal

pub returns : goal.returns
returns c =
    let cause : IsAtomCause c.args.text.now c.in-Err.error = search rules in
    refused_is_no_atom c.args.text.now c.in-Err.error cause (sym (c.if-wants_memory.ensures))
