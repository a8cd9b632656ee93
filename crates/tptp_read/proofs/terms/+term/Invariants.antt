use Rattle.std.proofs.Common.{◌≡◌, ◌+◌, ◌-◌, ◌*◌, ◌≤◌, [], ◌∷◌, length, drop}
use Rattle.inst_logic.specs.View.{tree}
use Rattle.tptp_read.specs.Parse.{many_at, term_at}
use Rattle.tptp_read.specs.LexemeView.{texts, toks, in_lists}
use Rattle.tptp_read.proofs.terms.+term.Given as goal

abbrev pub decreases-term : goal.decreases-term
decreases-term l = 3 * l.depth

abbrev pub decreases-application : goal.decreases-application
decreases-application l = 3 * l.depth + 2

abbrev pub decreases-arguments : goal.decreases-arguments
decreases-arguments l = 3 * l.depth + 1

abbrev pub invariant-arguments-loop-args : goal.invariant-arguments-loop-args
invariant-arguments-loop-args l = record {
  in_range : (l.at ≤ l.next) × (l.at ≤ length l.reader.tokens.now → l.next ≤ length l.reader.tokens.now);
  total : in_lists (texts l.reader.vars.now.keys) l.args (many_at 44 (term_at l.depth) (length (toks (drop l.next l.reader.tokens.now))) (toks (drop l.next l.reader.tokens.now))) ≡ in_lists (texts l.reader.vars.now.keys) (tree l.fn.first ∷ []) (many_at 44 (term_at l.depth) (length (toks (drop l.at l.reader.tokens.now))) (toks (drop l.at l.reader.tokens.now)));
}

abbrev pub decreases-arguments-loop-args : goal.decreases-arguments-loop-args
decreases-arguments-loop-args l = length l.reader.tokens.now - l.next
