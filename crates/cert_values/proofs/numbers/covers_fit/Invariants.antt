use Rattle.std.proofs.Common.{take}
use Rattle.std.specs.Prelude.{All}
use Rattle.cert_format.specs.Printable.{CoverFits}
use Rattle.cert_values.specs.Values.{cover_of}
use Rattle.cert_values.proofs.numbers.covers_fit.Given as goal

abbrev pub invariant-loop-cover : goal.invariant-loop-cover
invariant-loop-cover l = All (λ x. CoverFits (cover_of l.bank x)) (take l.cover-index l.cover-items)
