use Rattle.std.proofs.Common.{take}
use Rattle.std.specs.Prelude.{All}
use Rattle.cert_format.specs.Printable.{LineFits}
use Rattle.cert_values.specs.Values.{line_of}
use Rattle.cert_values.proofs.numbers.lines_fit.Given as goal

abbrev pub invariant-loop-line : goal.invariant-loop-line
invariant-loop-line l = All (λ x. LineFits (line_of l.bank x)) (take l.line-index l.line-items)
