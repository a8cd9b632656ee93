use Rattle.std.proofs.Common.{◌%◌, get_or, false, sym, ap, ◌∙◌}
use Rattle.std.specs.Prelude.{◌==◌}
use Rattle.std.specs.Int.{bit_at}
use Rattle.prop_logic.proofs.PackedLaws.{value_read}
use Rattle.prop_logic.proofs.valuation.Valuation.word.Goals as goal

pub returns : goal.returns
returns c k e =
    let s = c.self.inside in
    sym (ap (λ w. bit_at w (k % 64) == 1) (c.word_at.ensures ∙ ap (λ ws. get_or ws c.args.place 0) c.as_slice.ensures.value ∙ ap (λ p. get_or s.words.items p 0) (sym e)) ∙ value_read s.words.items s.len k c.self.invariant.2
    ∙ ap (λ xs. get_or xs k false) c.self.view_is)
