use Rattle.std.proofs.Common.{◌≡◌, take}
use Rattle.std.specs.Str.{bytes_eq}
use Rattle.inst_logic.specs.Lists.{distinct}
use Rattle.tptp_read.specs.Meaning.{variable_names}
use Rattle.tptp_read.specs.LexemeView.{toks, texts}
use Rattle.tptp_read.proofs.numbers.variables_of.Given as goal

abbrev pub invariant-loop-l : goal.invariant-loop-l
invariant-loop-l l = texts l.seen.keys ≡ distinct bytes_eq (variable_names (toks (take l.l-index l.tokens)))
