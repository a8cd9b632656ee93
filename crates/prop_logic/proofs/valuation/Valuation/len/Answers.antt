use Rattle.std.proofs.Common.{length, sym, ap, ◌∙◌}
use Rattle.prop_logic.proofs.PackedLaws.{values_length}
use Rattle.prop_logic.proofs.valuation.Valuation.len.Goals as goal

pub returns : goal.returns
returns c = sym (values_length c.self.inside.words.items c.self.inside.len) ∙ ap length c.self.view_is
