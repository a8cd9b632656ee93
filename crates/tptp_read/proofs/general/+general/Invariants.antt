use Rattle.std.proofs.Common.{◌≡◌, ◌≤◌, ◌<◌, drop, length, ◌+◌, ◌-◌, ◌*◌}
use Rattle.tptp_read.specs.LexemeView.{toks}
use Rattle.tptp_read.specs.Parse.{◌>>=◌}
use Rattle.tptp_read.specs.Skim.{after_general, after_listing, after_others}
use Rattle.tptp_read.proofs.Skimming.{close_step}
use Rattle.tptp_read.proofs.general.+general.Given as goal

abbrev pub decreases-bracket : goal.decreases-bracket
decreases-bracket l = 4 * (length l.tokens.now - l.at) + 3

abbrev pub decreases-general : goal.decreases-general
decreases-general l = 4 * (length l.tokens.now - l.at) + 1

abbrev pub decreases-listing : goal.decreases-listing
decreases-listing l = 4 * (length l.tokens.now - l.at) + 2

abbrev pub decreases-thing : goal.decreases-thing
decreases-thing l = 4 * (length l.tokens.now - l.at)

abbrev pub invariant-general-loop-at : goal.invariant-general-loop-at
invariant-general-loop-at l = record {
  in_range : l.at ≤ l.next;
  total : after_general (toks (drop l.next l.tokens)) ≡ after_general (toks (drop l.at l.tokens));
}

abbrev pub decreases-general-loop-at : goal.decreases-general-loop-at
decreases-general-loop-at l = length l.tokens - l.next

abbrev pub invariant-listing-loop-next : goal.invariant-listing-loop-next
invariant-listing-loop-next l = record {
  in_range : (l.at < l.next) × (l.next ≤ length l.tokens);
  total : (after_others (toks (drop l.next l.tokens)) >>= close_step l.close) ≡ after_listing l.close (toks (drop l.at l.tokens));
}

abbrev pub decreases-listing-loop-next : goal.decreases-listing-loop-next
decreases-listing-loop-next l = length l.tokens - l.next
