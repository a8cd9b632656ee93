use Rattle.std.proofs.Common.{◌≡◌, ◌<◌, ℕ, length, slice_index_or}
use Rattle.term_index.specs.Paths.{content_at}
use Rattle.term_index.proofs.pairs.first_place.Given as goal

abbrev pub invariant-loop-place : goal.invariant-loop-place
invariant-loop-place l =
    (i : ℕ) → i < l.place → i < length (content_at l.nodes.items l.node).pairs → ¬ (slice_index_or (content_at l.nodes.items l.node).pairs i (l.atom, l.entry) ≡ (l.atom, l.entry))
