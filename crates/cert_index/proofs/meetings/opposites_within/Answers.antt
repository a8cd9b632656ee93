use Rattle.std.proofs.Common.{◌≡◌, ◌+◌, ◌<◌, List, ℕ, length, sym, subst, arith}
use Rattle.std.specs.List.{Contains}
use Rattle.cert_index.specs.Chains.{AreAlike, AreOpposite, AreOpposites}
use Rattle.cert_index.proofs.MeetingLaws.{opposite_within, opposites_more}
use Rattle.cert_index.proofs.meetings.opposites_within.Goals as goal

pub find_alike-requires-clause-there : goal.find_alike-requires-clause-there
find_alike-requires-clause-there c q h = let low = (c.in_ok-gather.ensures.only q (subst (λ (xs : List ℕ). Contains xs q) c.deref.ensures.value h)).1 in omega (arith, c.requires.count, low)

pub loop-p-preserved : goal.loop-p-preserved
loop-p-preserved c hs tells =
    let ps = c.args.fingerprints.now in
    let p = c.loop-p.p in
    let here : p < length hs = omega (arith, c.loop-p-test.true, c.requires.count, tells.count) in
    let alike = c.find_alike.new.alike.items in
    let last : AreOpposite hs ps p alike = opposite_within hs ps c.args.meetings.now tells p here c.gather.new.items.items alike c.in_ok-gather.ensures
    (subst (λ (xs : List ℕ). AreAlike ps p xs alike) c.deref.ensures.value c.in_ok-find_alike.ensures) in
    subst (λ (vs : List (List ℕ)). AreOpposites hs ps (p + 1) vs) (sym c.in_ok-push.ensures.ok)
    (opposites_more hs ps p c.loop-p.opposites c.deref-in-loop-p.result.now (c.loop-p.invariant hs tells) (subst (AreOpposite hs ps p) (sym c.deref-in-loop-p.ensures.value) last))

pub returns : goal.returns
returns c hs tells =
    let end : c.loop-p.p ≡ length hs = omega (arith, c.loop-p-test.false, c.requires.count, tells.count) in
    subst (λ n. AreOpposites hs c.args.fingerprints.now n c.loop-p.opposites) end (c.loop-p.invariant hs tells)
