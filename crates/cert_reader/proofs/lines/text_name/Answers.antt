use Rattle.std.proofs.Common.{◌++◌, ◌∙◌, List, ℕ, length, sym, ap, arith}
use Rattle.cert_reader.proofs.NameLines.{name_split, name_once, wrong_length, right_name, empty_length}
use Rattle.cert_reader.proofs.lines.text_name.Goals as goal
use Rattle.cert_reader.proofs.lines.text_name.Goals.{then-is_empty-via-then-is_empty, then-is_empty-via-else-is_empty+then-name-gt4096}

pub returns-then-is_empty-clause-none : goal.returns-then-is_empty-clause-none
returns-then-is_empty-clause-none c n rest h e =
    let name = c.split_at.result.0.now in
    let s = name_split c.args.bytes.now name c.split_at.result.1.now c.name_len.result c.name_len.ensures.is c.split_at.ensures.front c.split_at.ensures.back in
    let k = wrong_length c.args.bytes.now name c.split_at.result.1.now n rest s h e in
    elim c.then-is_empty.branch [
      | then-is_empty-via-then-is_empty w ↦ (let z = empty_length (length name) c.is_empty.result c.is_empty.ensures w.if-is_empty.true in omega (arith, k.0, z))
      | then-is_empty-via-else-is_empty+then-name-gt4096 w ↦ omega (arith, k.1, w.if-name-gt4096.true)
    ]

pub returns-in-None-clause-none : goal.returns-in-None-clause-none
returns-in-None-clause-none c n rest h e =
    let s = name_split c.args.bytes.now c.split_at.result.0.now c.split_at.result.1.now c.name_len.result c.name_len.ensures.is c.split_at.ensures.front c.split_at.ensures.back in
    c.in-None.ensures.none rest (sym (name_once c.args.bytes.now c.split_at.result.0.now c.split_at.result.1.now n rest s h e).1)

pub returns-in-Some-clause-some : goal.returns-in-Some-clause-some
returns-in-Some-clause-some c =
    let name = c.split_at.result.0.now in
    let s = name_split c.args.bytes.now name c.split_at.result.1.now c.name_len.result c.name_len.ensures.is c.split_at.ensures.front c.split_at.ensures.back in
    (s.is ∙ ap (λ (xs : List ℕ). name ++ xs) c.in-Some.ensures.some, right_name c.args.bytes.now name c.split_at.result.1.now c.is_empty.result s c.is_empty.ensures c.if-is_empty.false (omega (arith, c.if-name-gt4096.false)))
