use Rattle.std.proofs.Common.{ap₂, ◌∙◌}
use Rattle.cdcl_trail.specs.Packed.{pair_at_slots}
use Rattle.cdcl_trail.proofs.PackedLaws.{pair_again}
use Rattle.cdcl_trail.proofs.packed_pair.PackedPair.with_place.Goals as goal

pub returns : goal.returns
returns c = ap₂ pair_at_slots c.slot.ensures c.slot-2.ensures ∙ pair_again c.args.pair c.requires.first
