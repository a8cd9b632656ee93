use Rattle.std.proofs.Common.{◌≡◌, length}
use Rattle.std.specs.Prelude.{All, IsTrue}
use Rattle.inst_logic.specs.Printing.{is_readable_name}
use Rattle.szs_prove.proofs.chain_problem.number_names.Given as goal

abbrev pub invariant-loop-i : goal.invariant-loop-i
invariant-loop-i l = record {
  count : length l.names.items ≡ l.i;
  readable : All (λ n. IsTrue (is_readable_name n)) l.names.items;
}
