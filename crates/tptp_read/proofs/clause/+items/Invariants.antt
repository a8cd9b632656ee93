use Rattle.std.proofs.Common.{◌≡◌, ◌+◌, ◌-◌, ◌*◌, ◌≤◌, length, drop}
use Rattle.tptp_read.specs.Parse.{many_at}
use Rattle.tptp_read.specs.ParseClause.{item_at}
use Rattle.tptp_read.specs.LexemeView.{toks, texts}
use Rattle.tptp_read.specs.Shapes.{seen}
use Rattle.tptp_read.specs.Gathered.{gathered}
use Rattle.tptp_read.proofs.DisjunctionLaws.{of_items}
use Rattle.tptp_read.proofs.clause.+items.Given as goal

abbrev pub decreases-item : goal.decreases-item
decreases-item l = 2 * l.nesting

abbrev pub decreases-items : goal.decreases-items
decreases-items l = 2 * l.nesting + 1

abbrev pub invariant-items-loop-into : goal.invariant-items-loop-into
invariant-items-loop-into l = record {
  in_range : (l.at ≤ l.next) × (l.at ≤ length l.reader.tokens.now → l.next ≤ length l.reader.tokens.now);
  total : seen (of_items (texts l.reader.vars.now.keys) (gathered l.into)) (many_at 124 (item_at l.nesting l.depth) (length (toks (drop l.next l.reader.tokens.now))) (toks (drop l.next l.reader.tokens.now))) ≡ seen (of_items (texts l.reader.vars.now.keys) (gathered l.initial.into)) (many_at 124 (item_at l.nesting l.depth) (length (toks (drop l.at l.reader.tokens.now))) (toks (drop l.at l.reader.tokens.now)));
}

abbrev pub decreases-items-loop-into : goal.decreases-items-loop-into
decreases-items-loop-into l = length l.reader.tokens.now - l.next
