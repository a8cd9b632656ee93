use Rattle.std.proofs.Common.{◌≡◌, ◌++◌, map, reverse, length}
use Rattle.std.specs.Prelude.{All}
use Rattle.std.specs.List.{flat_map}
use Rattle.inst_logic.specs.declared.symbol.Sym.{Sym}
use Rattle.inst_logic.specs.Tree.{app, none}
use Rattle.inst_calculus.specs.Unrolling.{all_unrolled}
use Rattle.term_bank.specs.Forest.{Forest, tree_at, IsTermIn}
use Rattle.global_subs.specs.declared.unrolling.Task.{Task}
use Rattle.global_subs.specs.Unrolls.{IsTask, entries_at, list_of, waiting_at}
use Rattle.global_subs.proofs.unrolling.push_all.Given as goal

abbrev pub invariant-loop-i : goal.invariant-loop-i
invariant-loop-i l = record {
  tasks : All (IsTask l.bank (entries_at l.bank l.unrolling.made.now)) (reverse l.tasks.items);
  plain : (f : Forest) → IsTermIn f l.unrolling.bot → All (λ (t : Task). All (IsTermIn f) t.terms) l.tasks.items;
  lists : (b : Sym) → tree_at l.bank l.unrolling.bot ≡ app b none
      → all_unrolled b (entries_at l.bank l.unrolling.made.now) l.i ++ flat_map (list_of b (entries_at l.bank l.unrolling.made.now)) (map (waiting_at l.bank) (reverse l.tasks.items)) ≡ all_unrolled b (entries_at l.bank l.unrolling.made.now) (length l.unrolling.made.now);
}
