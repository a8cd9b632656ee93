use Rattle.std.proofs.Common.{take}
use Rattle.std.specs.Prelude.{All}
use Rattle.cert_format.specs.Printable.{IsNumber}
use Rattle.cert_values.proofs.numbers.numbers_fit.Given as goal

abbrev pub invariant-loop-number : goal.invariant-loop-number
invariant-loop-number l = All IsNumber (take l.number-index l.number-items)
