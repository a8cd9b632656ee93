use Rattle.std.proofs.Common.{sym, subst}
use Rattle.std.specs.Str.{IsUtf8}
use Rattle.tptp_load.proofs.Firsts.{readable_is_text}
use Rattle.tptp_load.proofs.paths.text_of.Goals as goal

pub unreachable-requires : goal.unreachable-requires
unreachable-requires c = c.in-Err.ensures.cases.0 (subst IsUtf8 (sym c.bytes.ensures) (readable_is_text c.args.name.now c.requires))
