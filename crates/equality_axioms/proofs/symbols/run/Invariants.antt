use Rattle.std.proofs.Common.{◌≡◌, map, fold}
use Rattle.inst_logic.specs.Equal.{sym_eq}
use Rattle.inst_logic.specs.Lists.{with_item}
use Rattle.inst_logic.specs.View.{tree}
use Rattle.equality_axioms.specs.Pending.{pending_symbols, pending_size}
use Rattle.equality_axioms.proofs.symbols.run.Given as goal

abbrev pub invariant-loop-t : goal.invariant-loop-t
invariant-loop-t l =
    fold (with_item sym_eq) l.seen.keys (pending_symbols (map (λ u. tree u.now) l.pending.items))
    ≡ fold (with_item sym_eq) l.initial.seen.keys (pending_symbols (map (λ u. tree u.now) l.initial.pending.items))

abbrev pub decreases-loop-t : goal.decreases-loop-t
decreases-loop-t l = pending_size (map (λ u. tree u.now) l.pending.items)
