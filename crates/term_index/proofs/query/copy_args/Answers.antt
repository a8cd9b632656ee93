use Rattle.std.proofs.Common.{arith, ◌≡◌, take, subst}
use Rattle.std.proofs.lemmas.List.{take_all}
use Rattle.term_index.specs.Copies.{CopiesArgs}
use Rattle.term_index.proofs.CopyLaws.{copies_none, copies_more}
use Rattle.term_index.proofs.query.copy_args.Goals as goal

pub loop-a-init : goal.loop-a-init
loop-a-init c = copies_none c.args.ids.now c.args.numbers.now.items

pub loop-a-preserved : goal.loop-a-preserved
loop-a-preserved c =
    copies_more c.args.ids.now c.loop-a.ids c.number_of.new.self c.args.numbers.now.items c.loop-a.numbers.items c.push.new.self.items c.args.args.now c.loop-a.a-index c.a-item.result c.in_ok-number_of.field-0
    c.loop-a-test.true c.a-item.is c.loop-a.invariant c.in_ok-number_of.ensures c.in_ok-push.ensures.items

pub returns : goal.returns
returns c =
    let e : take c.loop-a.a-index c.args.args.now ≡ c.args.args.now = take_all c.loop-a.a-index c.args.args.now (omega arith) in
    subst (CopiesArgs c.args.ids.now c.loop-a.ids c.args.numbers.now.items c.loop-a.numbers.items) e c.loop-a.invariant
