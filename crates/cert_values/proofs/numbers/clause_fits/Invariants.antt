use Rattle.std.proofs.Common.{take}
use Rattle.std.specs.Prelude.{All, IsTrue}
use Rattle.inst_logic.specs.Readable.{tree_fits}
use Rattle.term_bank.specs.Forest.{tree_at}
use Rattle.cert_values.proofs.numbers.clause_fits.Given as goal

abbrev pub invariant-loop-l : goal.invariant-loop-l
invariant-loop-l l = All (λ x. IsTrue (tree_fits (tree_at l.bank x.atom))) (take l.l-index l.l-items)
