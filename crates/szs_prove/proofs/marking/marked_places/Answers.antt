use Rattle.std.proofs.Common.{refl, arith, get_or}
use Rattle.szs_prove.proofs.Marked.{all_within, taken_or_not}
use Rattle.szs_prove.proofs.marking.marked_places.Goals as goal

pub loop-i-preserved : goal.loop-i-preserved
loop-i-preserved c =
    taken_or_not c.args.places.now c.requires.rising c.loop-i.i 0 (omega arith) c.loop-i.some.items c.loop-i.invariant (get_or c.args.places.now c.loop-i.i 0) c.push_marked.new.some.items refl c.in_ok-push_marked.ensures

pub returns-clause-within : goal.returns-clause-within
returns-clause-within c = all_within c.args.places.now c.loop-i.i c.loop-i.some.items c.loop-i.invariant
