use Rattle.std.proofs.Common.{take}
use Rattle.std.specs.Prelude.{All}
use Rattle.cert_format.specs.Printable.{EntryFits}
use Rattle.cert_values.specs.Values.{entry_of}
use Rattle.cert_values.proofs.numbers.members_fit.Given as goal

abbrev pub invariant-loop-member : goal.invariant-loop-member
invariant-loop-member l = All (λ x. EntryFits (entry_of l.base.bank x)) (take l.member-index l.member-items)
