use Rattle.std.proofs.Common.{◌++◌, sym, ◌∙◌, take-append-drop}
use Rattle.cert_items.proofs.Spelled.{spelled_at}
use Rattle.cert_items.proofs.literals.known_literal.Goals as goal

pub returns : goal.returns
returns c =
    let front = c.split_at.ensures.front in
    let back = c.split_at.ensures.back in
    let is = sym (take-append-drop c.args.candidate.len c.args.bytes.now) ∙ sym (λ i. front i ++ back i) in
    let behind = c.is_behind.ensures in
    spelled_at c.args.bank.now c.in_ok-l.l c.args.bytes.now c.split_at.result.0.now c.split_at.result.1.now c.in_ok-l.ensures is (behind.ends c.if-not-is_behind.false) (behind.unequal c.if-not-is_behind.false)
