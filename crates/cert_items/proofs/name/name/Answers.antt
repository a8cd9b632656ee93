use Rattle.std.proofs.Common.{arith}
use Rattle.std.proofs.lemmas.Bool.Decides.{nat_tests}
use Rattle.cert_format.proofs.Names.{IsFront, front_split, front_text, no_front}
use Rattle.cert_items.proofs.name.name.Goals as goal
use Rattle.cert_items.proofs.name.name.Goals.{then-is_empty-via-then-is_empty, then-is_empty-via-else-is_empty+then-begins_word}

pub returns-then-is_empty-clause-none : goal.returns-then-is_empty-clause-none
returns-then-is_empty-clause-none c =
    let f : IsFront c.args.bytes.now c.split_at.result.0.now c.split_at.result.1.now c.name_len.result = record { is = c.name_len.ensures.is; front = c.split_at.ensures.front; back = c.split_at.ensures.back } in
    no_front c.args.bytes.now c.split_at.result.0.now c.split_at.result.1.now c.name_len.result f
    (λ some. elim c.then-is_empty.branch [ then-is_empty-via-then-is_empty w ↦ absurd (let e = w.if-is_empty.true in grind (arith, nat_tests)) | then-is_empty-via-else-is_empty+then-begins_word w ↦ cc ])

pub returns-clause-some : goal.returns-clause-some
returns-clause-some c =
    let f : IsFront c.args.bytes.now c.split_at.result.0.now c.split_at.result.1.now c.name_len.result = record { is = c.name_len.ensures.is; front = c.split_at.ensures.front; back = c.split_at.ensures.back } in
    (front_split _ _ _ _ f, front_text _ _ _ _ f (let e = c.if-is_empty.false in grind (arith, nat_tests)), cc)
