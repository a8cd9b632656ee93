use Rattle.std.proofs.Common.{refl, arith, get_or}
use Rattle.szs_prove.proofs.CoreParts.{place_words_so_far}
use Rattle.szs_prove.proofs.core_text.push_places.Goals as goal

pub loop-i-preserved : goal.loop-i-preserved
loop-i-preserved c =
    place_words_so_far c.args.places.now c.loop-i.text.items c.push_place.new.text.items c.args.text.now.items c.loop-i.i 0 (get_or c.args.places.now c.loop-i.i 0) (omega arith) refl c.loop-i.invariant c.in_ok-push_place.ensures
