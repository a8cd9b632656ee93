use Rattle.std.proofs.Common.{ℕ, ◌<◌, ◌∙◌, List, length, get_or, ap, subst, below_more, arith}
use Rattle.std.proofs.lemmas.List.{get_or_default}
use Rattle.inst_logic.specs.declared.signed.Signed.{Signed}
use Rattle.cert_index.specs.Lookups.{HasNoShorter}
use Rattle.cert_index.proofs.ShorterLaws.{if_none, none_shorter}
use Rattle.cert_index.proofs.covers.shorter_by_heads.Goals as goal

pub loop-literal-preserved : goal.loop-literal-preserved
loop-literal-preserved c i x less hs groups =
    let f = c.args.sought.now.bank.now in
    let ms = c.args.sought.now.members.now in
    let ps = c.args.sought.now.lookup.now.fingerprints.items in
    let ls = c.as_slice-literals.result.now in
    let j = c.loop-literal.literal-index in
    let within : j < length ls = omega (arith, c.loop-literal-test.true) in
    below_more (λ i. (x : Signed ℕ) → HasNoShorter f ms hs ps c.args.sought.now.len c.args.sought.now.clause.now (get_or ls i x)) j (λ k l y. c.loop-literal.invariant k y l hs groups)
    (λ y. let same = c.literal-item.is ∙ get_or_default ls j c.literal-item.result y within in
    subst (HasNoShorter f ms hs ps c.args.sought.now.len c.args.sought.now.clause.now) same (if_none _ c.in_ok-k.field-0 c.in_ok-k.ensures.none c.in_default.not-Some hs groups)) i less x

pub returns-clause-none : goal.returns-clause-none
returns-clause-none c any =
    let f = c.args.sought.now.bank.now in
    let ms = c.args.sought.now.members.now in
    let ps = c.args.sought.now.lookup.now.fingerprints.items in
    let known = c.requires.lookup in
    let same = c.as_slice-literals.ensures in
    none_shorter f ms known.heads ps c.args.sought.now.len c.args.sought.now.clause.now known.marked
    (λ i x less. subst (λ (ls : List (Signed ℕ)). HasNoShorter f ms known.heads ps c.args.sought.now.len c.args.sought.now.clause.now (get_or ls i x)) same
    (c.loop-literal.invariant i x (omega (arith, less, c.loop-literal-test.false, ap (λ (ls : List (Signed ℕ)). length ls) same)) known.heads known.groups)) any
