use Rattle.cdcl_core.specs.declared.search.Search.{Search}
use Rattle.cdcl_core.proofs.ForgetLaws.{same_learned, same_both}
use Rattle.cdcl_core.proofs.search.Search.reduce.Goals as goal

pub loop-init : goal.loop-init
loop-init c = same_learned c.args.self.now c.sort-end.new.self c.requires.kept

pub loop-preserved : goal.loop-preserved
loop-preserved c =
    let old = c.args.self.now in
    let s = c.loop.self in
    let learned = c.pop-rank.new.self in
    let mid : Search = record s { learned = learned } in
    let less = c.forget.new.self in
    let forgot = same_both old mid less (same_both old s mid c.loop.invariant (same_learned s learned c.loop.invariant.kept)) c.forget.ensures.same in
    let again = c.list_again.new.self in
    let last : Search = record less { learned = again } in
    same_both old less last forgot (same_learned less again c.forget.ensures.same.kept)
