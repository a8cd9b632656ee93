use Rattle.std.proofs.Common.{take}
use Rattle.std.specs.Prelude.{All}
use Rattle.cert_format.specs.Printable.{IsNumber, cited_number}
use Rattle.cert_values.specs.Values.{hint_of}
use Rattle.cert_values.proofs.numbers.step_fits.Given as goal

abbrev pub invariant-loop-hint : goal.invariant-loop-hint
invariant-loop-hint l = All (λ x. IsNumber (cited_number (hint_of x))) (take l.hint-index l.hint-items)
