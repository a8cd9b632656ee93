use Rattle.std.proofs.Common.{◌≡◌, drop}
use Rattle.tptp_read.specs.Atoms.{has_variable}
use Rattle.tptp_read.specs.LexemeView.{toks}
use Rattle.tptp_read.proofs.atom.has_variable.Given as goal

abbrev pub invariant-loop-l : goal.invariant-loop-l
invariant-loop-l l = has_variable (toks (drop l.l-index l.tokens)) ≡ has_variable (toks l.tokens)
