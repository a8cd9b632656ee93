use Rattle.std.proofs.Common.{◌≡◌, [], map, reverse}
use Rattle.std.specs.List.{flat_map}
use Rattle.inst_logic.specs.declared.symbol.Sym.{Sym}
use Rattle.inst_logic.specs.Tree.{app, none}
use Rattle.term_bank.specs.Forest.{Extends, tree_at}
use Rattle.global_subs.specs.Unrolls.{IsWalk, breadth, entries_at, list_of, load, waiting_at, with_items}
use Rattle.inst_logic.specs.WellFormed.{IsTerm}
use Rattle.global_subs.specs.Terms.{HasTerms}
use Rattle.global_subs.proofs.unrolling.run.Given as goal

abbrev pub invariant-loop-task : goal.invariant-loop-task
invariant-loop-task l = record {
  extends : Extends l.fn.bank l.bank;
  terms : IsTerm (tree_at l.fn.bank l.unrolling.bot) → HasTerms l.fn.bank l.unrolling.made.now l.fn.tasks.items → HasTerms l.bank l.unrolling.made.now l.walk.tasks.items;
  walk : (b : Sym) → tree_at l.fn.bank l.unrolling.bot ≡ app b none
      → IsWalk l.bank b (entries_at l.fn.bank l.unrolling.made.now) (with_items [] (flat_map (list_of b (entries_at l.fn.bank l.unrolling.made.now)) (map (waiting_at l.fn.bank) (reverse l.fn.tasks.items)))) (reverse l.walk.tasks.items) l.walk.seen.keys l.walk.items.keys;
}

abbrev pub decreases-loop-task : goal.decreases-loop-task
decreases-loop-task l = load (breadth l.unrolling.made.now) (reverse l.walk.tasks.items)
