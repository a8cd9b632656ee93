use Rattle.std.proofs.Common.{◌≡◌, ℕ, ◌+◌, ◌<◌, drop, map, reverse, length}
use Rattle.std.specs.Prelude.{All}
use Rattle.std.specs.List.{flat_map}
use Rattle.inst_logic.specs.declared.symbol.Sym.{Sym}
use Rattle.inst_logic.specs.Tree.{app, none}
use Rattle.inst_calculus.specs.Unrolling.{unrolled, under_terms}
use Rattle.term_bank.specs.Forest.{Forest, tree_at, IsTermIn}
use Rattle.global_subs.specs.declared.unrolling.Task.{Task}
use Rattle.global_subs.specs.Unrolls.{AreOpened, entries_at}
use Rattle.global_subs.proofs.unrolling.push_premises.Given as goal

abbrev pub invariant-loop-i : goal.invariant-loop-i
invariant-loop-i l = record {
  few : length l.tasks.items + l.i ≡ length l.initial.tasks.items + length l.premises;
  plain : (f : Forest) → All (IsTermIn f) l.terms → IsTermIn f l.unrolling.bot → All (λ (t : Task). All (IsTermIn f) t.terms) l.initial.tasks.items → All (λ (t : Task). All (IsTermIn f) t.terms) l.tasks.items;
  opened : (n : ℕ) → All (λ p. p < n) l.premises → (b : Sym) → tree_at l.bank l.unrolling.bot ≡ app b none
      → AreOpened l.bank b (entries_at l.bank l.unrolling.made.now) n (flat_map (λ p. unrolled b (entries_at l.bank l.unrolling.made.now) p (under_terms b (map (tree_at l.bank) l.terms))) (drop l.i l.premises)) (reverse l.initial.tasks.items) (reverse l.tasks.items);
}
