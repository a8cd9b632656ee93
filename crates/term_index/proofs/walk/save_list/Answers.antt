use Rattle.std.proofs.Common.{arith, ◌≡◌, length}
use Rattle.term_index.proofs.FrameLaws.{saved_list}
use Rattle.term_index.proofs.walk.save_list.Goals as goal

pub returns-clause-list : goal.returns-clause-list
returns-clause-list c =
    let n : c.len.result ≡ length c.push.new.self.items = omega (arith, c.len.ensures, c.push.new.self.ok.0) in
    saved_list c.args.query.now c.args.cells.now.items c.push.new.self.items c.args.frame c.len.result c.requires.cells c.requires.rest c.in_ok-push.ensures.items n
