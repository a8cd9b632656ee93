use Rattle.std.proofs.Common.{◌≡◌, ◌/◌, ◌%◌, get_or, false, sym, ap, ◌∙◌, arith}
use Rattle.std.specs.Prelude.{◌==◌}
use Rattle.std.specs.Int.{bit_at}
use Rattle.prop_logic.proofs.PackedLaws.{value_read}
use Rattle.prop_logic.proofs.valuation.Valuation.first_difference.Goals as goal

pub returns-clause-same : goal.returns-clause-same
returns-clause-same c k low high =
    let s = c.self.inside in
    let o = c.other.inside in
    let here : get_or c.as_slice.result.now (k / 64) 0 ≡ get_or c.as_slice-2.result.now (k / 64) 0 = c.first_other_word.ensures.same (k / 64) (omega (arith, low)) (omega (arith, high)) in
    let word : get_or s.words.items (k / 64) 0 ≡ get_or o.words.items (k / 64) 0 = sym (ap (λ ws. get_or ws (k / 64) 0) c.as_slice.ensures.value) ∙ here ∙ ap (λ ws. get_or ws (k / 64) 0) c.as_slice-2.ensures.value in
    sym (value_read s.words.items s.len k c.self.invariant.2 ∙ ap (λ xs. get_or xs k false) c.self.view_is) ∙ ap (λ w. bit_at w (k % 64) == 1) word ∙ value_read o.words.items o.len k c.other.invariant.2
    ∙ ap (λ xs. get_or xs k false) c.other.view_is
