use Rattle.std.proofs.Common.{◌+◌, List, ℕ, sym, subst}
use Rattle.cert_index.specs.Buckets.{AreNumbered}
use Rattle.cert_index.proofs.BucketLaws.{one_more_number}
use Rattle.cert_index.proofs.buckets.number_all.Goals as goal

pub loop-i-preserved : goal.loop-i-preserved
loop-i-preserved c =
    let hs = c.args.heads.now in
    let ps = c.args.fingerprints.now in
    let i = c.loop-i.i in
    subst (λ (ns : List ℕ). AreNumbered c.number_of.new.known.keys hs ps ns (i + 1)) (sym c.in_ok-push.ensures.items)
    (one_more_number c.loop-i.known.keys c.number_of.new.known.keys c.in_ok-number.ensures.grown hs ps c.loop-i.numbers.items i c.in_ok-number.number c.loop-i.invariant c.in_ok-number.ensures.number)
