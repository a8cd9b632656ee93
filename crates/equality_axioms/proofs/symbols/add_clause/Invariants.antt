use Rattle.std.proofs.Common.{◌≡◌, fold, take, map}
use Rattle.inst_logic.specs.LiteralView.{literal}
use Rattle.equality_axioms.proofs.Collecting.{collect}
use Rattle.equality_axioms.proofs.symbols.add_clause.Given as goal

abbrev pub invariant-loop-l : goal.invariant-loop-l
invariant-loop-l l = l.seen.keys ≡ fold (λ a x. collect a x.atom) l.initial.seen.keys (map literal (take l.l-index l.l-items))
