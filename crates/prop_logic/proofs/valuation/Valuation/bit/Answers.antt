use Rattle.std.proofs.Common.{◌/◌, ◌%◌, get_or, false, ap, ◌∙◌}
use Rattle.std.specs.Prelude.{◌==◌}
use Rattle.std.specs.Int.{bit_at}
use Rattle.prop_logic.proofs.PackedLaws.{value_read}
use Rattle.prop_logic.proofs.valuation.Valuation.bit.Goals as goal

pub returns : goal.returns
returns c =
    let s = c.self.inside in
    c.has_bit.ensures ∙ ap (λ w. bit_at w (c.args.atom % 64) == 1) (c.word_at.ensures ∙ ap (λ ws. get_or ws (c.args.atom / 64) 0) c.as_slice.ensures.value) ∙ value_read s.words.items s.len c.args.atom c.self.invariant.2
    ∙ ap (λ xs. get_or xs c.args.atom false) c.self.view_is
