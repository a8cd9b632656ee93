use Rattle.std.proofs.Common.{get_or, sym, subst, take}
use Rattle.std.proofs.lemmas.List.Elements.{Contains-get_or}
use Rattle.cert_index.specs.Chains.{AreAlike}
use Rattle.cert_index.proofs.MeetingLaws.{alike_all, alike_more, alike_none}
use Rattle.cert_index.proofs.meetings.find_alike.Goals as goal

pub loop-q-init : goal.loop-q-init
loop-q-init c = subst (AreAlike c.args.fingerprints.now c.args.p (take 0 c.args.places.now)) (sym c.clear.ensures.items) (alike_none c.args.fingerprints.now c.args.p c.args.places.now)

pub add_alike-requires-clause-there : goal.add_alike-requires-clause-there
add_alike-requires-clause-there c = c.requires.there (get_or c.args.places.now c.loop-q.q-index 0) (Contains-get_or c.args.places.now c.loop-q.q-index 0 c.loop-q-test.true)

pub loop-q-preserved : goal.loop-q-preserved
loop-q-preserved c = alike_more c.args.fingerprints.now c.args.p c.args.places.now c.loop-q.q-index c.loop-q.alike.items c.add_alike.new.alike.items c.loop-q-test.true c.loop-q.invariant c.in_ok-add_alike.ensures

pub returns : goal.returns
returns c = alike_all c.args.fingerprints.now c.args.p c.args.places.now c.loop-q.q-index c.loop-q.alike.items c.loop-q-test.false c.loop-q.invariant
