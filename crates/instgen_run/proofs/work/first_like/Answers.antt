use Rattle.instgen_run.proofs.Alike.{found_in}
use Rattle.instgen_run.proofs.work.first_like.Goals as goal

pub returns : goal.returns
returns g c =
    let index = g.I.PartnerIndex in
    found_in c.next.result (index.pairs c.args.index.now) (index.to_come c.args.index.now c.in_ok-cursor.cursor) (index.to_come c.args.index.now c.next.new.cursor) _ _ c.in_ok-cursor.ensures.asked.stored c.next.ensures.gives
