use Rattle.std.proofs.Common.{◌≡◌, ◌+◌, ◌*◌, ◌/◌, ◌%◌, sym, ap, ◌∙◌, arith}
use Rattle.std.specs.Prelude.{◌==◌}
use Rattle.std.specs.Int.{bit_at}
use Rattle.prop_logic.proofs.ChangesLaws.{none_changed}
use Rattle.prop_logic.proofs.differences.add_word.Goals as goal

pub returns-then-word-clause-before : goal.returns-then-word-clause-before
returns-then-word-clause-before c =
    let same : c.word.result ≡ c.word-2.result = c.if-word.true in
    none_changed c.args.old.now c.args.new.now c.args.changes.now.items (64 * c.args.place) (64 * c.args.place + 64) (omega arith)
    (λ k h l. let p : k / 64 ≡ c.args.place = omega (arith, h, l) in c.word.ensures k p ∙ ap (λ w. bit_at w (k % 64) == 1) same ∙ sym (c.word-2.ensures k p)) c.requires.before
