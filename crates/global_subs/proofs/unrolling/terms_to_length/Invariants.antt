use Rattle.std.proofs.Common.{◌≡◌, ℕ, ◌<◌, length}
use Rattle.std.specs.Prelude.{slice_index_or, All}
use Rattle.term_bank.specs.Forest.{Forest, AreIds, IsTermIn}
use Rattle.global_subs.proofs.unrolling.terms_to_length.Given as goal

abbrev pub invariant-loop-i : goal.invariant-loop-i
invariant-loop-i l = record {
  count : length l.list ≡ l.i;
  terms : (v : ℕ) → v < l.i → slice_index_or l.list v l.bot ≡ slice_index_or l.terms v l.bot;
  ids : (f : Forest) → AreIds f l.terms → l.bot < length f.trees → AreIds f l.list;
  plain : (f : Forest) → All (IsTermIn f) l.terms → IsTermIn f l.bot → All (IsTermIn f) l.list;
}
