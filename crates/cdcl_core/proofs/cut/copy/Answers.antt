use Rattle.std.proofs.Common.{subst}
use Rattle.std.specs.List.{AllZip}
use Rattle.cdcl_core.specs.Cut.{IsRenamed}
use Rattle.cdcl_core.proofs.cut.copy.Goals as goal

pub returns : goal.returns
returns c = λ s at. record {
  clause = c.in_ok-clause.ensures s at;
  hints = subst (λ hs. AllZip (IsRenamed c.args.numbers.now) hs c.in_ok-hints.hints) (c.hints_at.ensures s at) c.in_ok-hints.ensures;
}
