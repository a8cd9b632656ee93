use Rattle.std.proofs.Common.{take}
use Rattle.std.specs.Prelude.{All}
use Rattle.cert_format.specs.Printable.{ByFits}
use Rattle.cert_values.specs.Values.{by_of}
use Rattle.cert_values.proofs.numbers.bys_fit.Given as goal

abbrev pub invariant-loop-by : goal.invariant-loop-by
invariant-loop-by l = All (λ x. ByFits (by_of l.bank x)) (take l.by-index l.by-items)
