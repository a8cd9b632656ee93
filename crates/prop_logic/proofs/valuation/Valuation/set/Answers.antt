use Rattle.std.proofs.Common.{◌≡◌, ◌≢◌, ◌/◌, ◌%◌, ◌<◌, ℕ, length, get_or, set, sym, ap, ◌∙◌, subst, arith, length-set}
use Rattle.std.specs.Int.{bit_at}
use Rattle.prop_logic.proofs.PackedLaws.{values_put, values_length, bit_put}
use Rattle.prop_logic.proofs.valuation.Valuation.set.Goals as goal

pub index_mut-requires : goal.index_mut-requires
index_mut-requires c =
    let s = c.self.inside in
    let low : c.args.atom < s.len = subst (λ n. c.args.atom < n) (ap length (sym c.self.view_is) ∙ values_length s.words.items s.len) c.requires in
    omega (arith, low, c.self.invariant.1, s.words.ok.0)

pub invariant_of-self : goal.invariant_of-self
invariant_of-self c =
    let s = c.self.inside in
    let a = c.args.atom in
    let low : a < s.len = subst (λ n. a < n) (ap length (sym c.self.view_is) ∙ values_length s.words.items s.len) c.requires in
    let inside : a / 64 < length s.words.items = omega (arith, low, c.self.invariant.1) in
    let word : c.word_at-word.result ≡ get_or s.words.items (a / 64) 0 = c.word_at-word.ensures ∙ ap (λ ws. get_or ws (a / 64) 0) c.as_slice.ensures.value in
    let others : (i : ℕ) → i ≢ a % 64 → bit_at c.with_bit.result i ≡ bit_at (get_or s.words.items (a / 64) 0) i = λ i n. c.with_bit.ensures.others i n ∙ ap (λ w. bit_at w i) word in (
      c.self.invariant.0,
      omega (arith, c.self.invariant.1, length-set s.words.items (a / 64) c.with_bit.result),
      λ k h. bit_put s.words.items a k c.with_bit.result c.args.value inside c.with_bit.ensures.here others (λ e. omega (arith, e, low, h)) ∙ c.self.invariant.2 k h,
    )

pub returns : goal.returns
returns c =
    let s = c.self.inside in
    let a = c.args.atom in
    let low : a < s.len = subst (λ n. a < n) (ap length (sym c.self.view_is) ∙ values_length s.words.items s.len) c.requires in
    let inside : a / 64 < length s.words.items = omega (arith, low, c.self.invariant.1) in
    let word : c.word_at-word.result ≡ get_or s.words.items (a / 64) 0 = c.word_at-word.ensures ∙ ap (λ ws. get_or ws (a / 64) 0) c.as_slice.ensures.value in
    let others : (i : ℕ) → i ≢ a % 64 → bit_at c.with_bit.result i ≡ bit_at (get_or s.words.items (a / 64) 0) i = λ i n. c.with_bit.ensures.others i n ∙ ap (λ w. bit_at w i) word in
    values_put s.words.items s.len a c.with_bit.result c.args.value low inside c.with_bit.ensures.here others ∙ ap (λ xs. set xs a c.args.value) c.self.view_is
