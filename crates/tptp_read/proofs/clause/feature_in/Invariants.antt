use Rattle.std.proofs.Common.{◌≡◌, drop}
use Rattle.tptp_read.specs.Meaning.{first_feature}
use Rattle.tptp_read.specs.LexemeView.{toks}
use Rattle.tptp_read.proofs.clause.feature_in.Given as goal

abbrev pub invariant-loop-l : goal.invariant-loop-l
invariant-loop-l l = first_feature (toks (drop l.l-index l.tokens)) ≡ first_feature (toks l.tokens)
