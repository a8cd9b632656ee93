use Rattle.std.proofs.Common.{◌≡◌, ◌+◌, ◌++◌, map, drop}
use Rattle.inst_logic.specs.Measure.{trees_size}
use Rattle.inst_logic.specs.Tree.{of_list}
use Rattle.inst_logic.specs.View.{tree}
use Rattle.inst_calculus.specs.Axioms.{trees_symbols}
use Rattle.equality_axioms.specs.Pending.{pending_symbols, pending_size}
use Rattle.equality_axioms.proofs.symbols.push_terms.Given as goal

abbrev pub invariant-loop-i : goal.invariant-loop-i
invariant-loop-i l = record {
  symbols : pending_symbols (map (λ u. tree u.now) l.pending.items) ≡ trees_symbols (of_list (map tree (drop l.i l.terms))) ++ pending_symbols (map (λ u. tree u.now) l.initial.pending.items);
  size : pending_size (map (λ u. tree u.now) l.pending.items) ≡ pending_size (map (λ u. tree u.now) l.initial.pending.items) + trees_size (of_list (map tree (drop l.i l.terms)));
}
