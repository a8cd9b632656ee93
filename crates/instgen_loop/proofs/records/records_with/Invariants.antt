use Rattle.std.proofs.Common.{◌≡◌, ℕ, map, take, Some}
use Rattle.inst_logic.specs.Derivations.{at_number}
use Rattle.inst_logic.specs.declared.symbol.Sym.{Sym}
use Rattle.inst_logic.specs.Tree.{app, none}
use Rattle.term_bank.specs.Forest.{AreFormed, Extends, IsTermIn, tree_at}
use Rattle.global_subs.specs.declared.made.Made.{Made}
use Rattle.instgen_run.specs.Clauses.{Item}
use Rattle.instgen_loop.specs.Records.{IsRecord}
use Rattle.instgen_loop.proofs.records.records_with.Given as goal

abbrev pub invariant-loop-i : goal.invariant-loop-i
invariant-loop-i l = record {
  extends : Extends l.fn.bank l.bank;
  formed : AreFormed l.bank;
  clauses : map (λ (m : Made). m.clause) l.made.items ≡ map (λ (e : Item). e.0) (take l.i l.clauses.entries);
  constant : l.room.constant ≡ l.fn.room.constant;
  term : IsTermIn l.bank l.room.constant;
  each : (bot : Sym) → tree_at l.fn.bank l.fn.room.constant ≡ app bot none → (n : ℕ) (m : Made) → at_number l.made.items n ≡ Some m → IsRecord bot l.bank l.clauses.entries n m;
}
