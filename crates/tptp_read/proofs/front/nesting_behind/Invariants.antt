use Rattle.std.proofs.Common.{◌≡◌, ◌≤◌, ◌+◌, take}
use Rattle.tptp_read.specs.Rules.{nesting_from, opens, closes}
use Rattle.tptp_read.specs.LexemeView.{toks}
use Rattle.tptp_read.proofs.Fronts.{count_of}
use Rattle.tptp_read.proofs.front.nesting_behind.Given as goal

abbrev pub invariant-loop-l : goal.invariant-loop-l
invariant-loop-l l = record {
  opened : l.opened ≡ count_of opens l.fn.opened (toks (take l.l-index l.tokens));
  closed : l.closed ≡ count_of closes 0 (toks (take l.l-index l.tokens));
  deepest : l.deepest ≡ nesting_from l.fn.opened 0 (toks (take l.l-index l.tokens));
  few : (l.opened ≤ l.l-index + 1) × (l.closed ≤ l.l-index);
}
