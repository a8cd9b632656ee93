use Rattle.std.proofs.Common.{◌≡◌, ◌+◌, List, ℕ, length, sym, subst, arith}
use Rattle.cert_index.specs.Chains.{AreOpposite, AreOpposites}
use Rattle.cert_index.proofs.MeetingLaws.{opposites_more}
use Rattle.cert_index.proofs.meetings.find_opposites.Goals as goal

pub loop-p-preserved : goal.loop-p-preserved
loop-p-preserved c =
    let hs = c.args.classes.now.heads.items in
    let ps = c.args.fingerprints.now in
    let last : AreOpposite hs ps c.loop-p.p c.deref.result.now = subst (AreOpposite hs ps c.loop-p.p) (sym c.deref.ensures.value) c.in_ok-find_opposite.ensures in
    subst (λ (vs : List (List ℕ)). AreOpposites hs ps (c.loop-p.p + 1) vs) (sym c.in_ok-push.ensures.ok)
    (opposites_more hs ps c.loop-p.p c.loop-p.opposites c.deref.result.now c.loop-p.invariant last)

pub returns : goal.returns
returns c =
    let end : c.loop-p.p ≡ length c.args.fingerprints.now = omega (arith, c.loop-p-test.false) in
    subst (λ n. AreOpposites c.args.classes.now.heads.items c.args.fingerprints.now n c.loop-p.opposites) end c.loop-p.invariant
