use Rattle.szs_prove.proofs.CoreParts.{rests_so_far}
use Rattle.szs_prove.proofs.core_text.push_rests.Goals as goal

pub loop-i-preserved : goal.loop-i-preserved
loop-i-preserved c =
    rests_so_far c.args.lists.now c.args.file.now c.args.places.now c.args.text.now.items c.loop-i.text.items c.push_rest.new.text.items c.loop-i.i c.loop-i.invariant c.in_ok-push_rest.ensures
