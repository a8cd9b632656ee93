use Rattle.std.proofs.Common.{◌++◌, sym, ◌∙◌, take-append-drop}
use Rattle.cert_items.proofs.Spelled.{spelled_there}
use Rattle.cert_items.proofs.literals.note_literal.Goals as goal

pub note-requires : goal.note-requires
note-requires c =
    let front = c.split_at.ensures.front in
    let back = c.split_at.ensures.back in
    let is = sym (take-append-drop c.args.candidate.len c.args.bytes.now) ∙ sym (λ i. front i ++ back i) in
    spelled_there c.args.bank.now c.args.l.now c.args.bytes.now c.split_at.result.0.now c.split_at.result.1.now c.args.rest.now c.requires.literal is c.if-after-rest.false
