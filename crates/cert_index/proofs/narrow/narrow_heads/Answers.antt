use Rattle.std.proofs.Common.{List, sym, subst, arith, rules}
use Rattle.cert_index.specs.Fingerprints.{fingerprint_at}
use Rattle.cert_index.specs.Narrow.{IsNarrow}
use Rattle.cert_index.specs.Partners.{Head, head_at}
use Rattle.cert_index.proofs.NarrowLaws.{are_narrow, one_more_narrow}
use Rattle.cert_index.proofs.narrow.narrow_heads.Goals as goal

pub loop-i-preserved : goal.loop-i-preserved
loop-i-preserved c =
    let hs = c.args.heads.now in
    let ps = c.args.fingerprints.now in
    let ks = c.args.unmarked.now.keys in
    let cs = c.narrow_head.new.classes.keys in
    let n = c.in_ok-numbered.numbered in
    let i = c.loop-i.i in
    record {
      count = search rules;
      each = λ k less. subst (λ (ns : List Head). IsNarrow cs ks (head_at hs k) (fingerprint_at ps k) (head_at ns k)) (sym c.in_ok-push.ensures.items)
          (one_more_narrow c.loop-i.classes.keys cs c.in_ok-numbered.ensures.grown ks hs ps c.loop-i.narrow.items i n c.loop-i.invariant.count c.loop-i.invariant.each c.in_ok-numbered.ensures.is k less);
    }

pub returns-clause-count : goal.returns-clause-count
returns-clause-count c = omega (arith, c.loop-i.invariant.count, c.loop-i-test.false)

pub returns-clause-narrow : goal.returns-clause-narrow
returns-clause-narrow c =
    are_narrow c.args.heads.now c.args.fingerprints.now c.args.unmarked.now.keys c.loop-i.classes.keys c.loop-i.narrow.items c.requires.unmarked
    (λ k less. c.loop-i.invariant.each k (omega (arith, less, c.loop-i-test.false)))
