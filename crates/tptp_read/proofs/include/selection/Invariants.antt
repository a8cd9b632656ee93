use Rattle.std.proofs.Common.{◌≤◌, drop, length, ◌-◌, [], ◌∷◌}
use Rattle.tptp_read.specs.Meaning.{name_of}
use Rattle.tptp_read.specs.Parse.{many_at}
use Rattle.tptp_read.specs.ParseForm.{one_of}
use Rattle.tptp_read.specs.Grammar.{is_name}
use Rattle.tptp_read.specs.LexemeView.{tok, toks}
use Rattle.tptp_read.specs.Selected.{in_names}
use Rattle.tptp_read.proofs.Includes.{IsNames}
use Rattle.tptp_read.proofs.include.selection.Given as goal

abbrev pub invariant-loop-alloc : goal.invariant-loop-alloc
invariant-loop-alloc l = record {
  in_range : (l.at ≤ l.next) × (l.at ≤ length l.tokens → l.next ≤ length l.tokens);
  total : IsNames l.names (toks (drop l.next l.tokens)) (in_names (name_of (tok l.fn.first) ∷ []) (many_at 44 (one_of is_name) (length (toks (drop l.at l.tokens))) (toks (drop l.at l.tokens))));
}

abbrev pub decreases-loop-alloc : goal.decreases-loop-alloc
decreases-loop-alloc l = length l.tokens - l.next
