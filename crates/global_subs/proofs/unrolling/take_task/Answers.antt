use Rattle.std.proofs.Common.{arith, List, reverse, sym, subst}
use Rattle.global_subs.specs.declared.unrolling.Task.{Task}
use Rattle.global_subs.specs.Unrolls.{IsWalk, entries_at}
use Rattle.std.proofs.lemmas.List.{length-reverse}
use Rattle.global_subs.proofs.LoadLaws.{seen_falls, opened_falls}
use Rattle.global_subs.proofs.WalkLaws.{seen_walk, opened_walk}
use Rattle.global_subs.proofs.TermLaws.{but_last}
use Rattle.global_subs.proofs.unrolling.take_task.Goals as goal

pub returns-then-not-branch-clause-taken : goal.returns-then-not-branch-clause-taken
returns-then-not-branch-clause-taken c = λ b e result w.
    let f = c.args.bank.now in
    let (there, keys) = c.in_ok-see.ensures.old c.if-not-branch.true in
    subst (λ (ks : List Task). IsWalk f b (entries_at f c.args.unrolling.now.made.now) result (reverse c.args.walk.now.tasks.items) ks c.args.walk.now.items.keys) (sym keys)
    (seen_walk f b (entries_at f c.args.unrolling.now.made.now) result c.args.task.now (reverse c.args.walk.now.tasks.items) c.args.walk.now.seen.keys c.args.walk.now.items.keys w there)

pub returns-clause-taken : goal.returns-clause-taken
returns-clause-taken c = λ b e result w.
    let f = c.args.bank.now in
    let g = c.open_task.new.bank in
    let made = entries_at f c.args.unrolling.now.made.now in
    subst (λ (ks : List Task). IsWalk g b made result (reverse c.open_task.new.tasks.items) ks c.open_task.new.items.keys) (sym (c.in_ok-see.ensures.new c.if-not-branch.false))
    (opened_walk f g b made result c.args.task.now (reverse c.args.walk.now.tasks.items) (reverse c.open_task.new.tasks.items) c.args.walk.now.seen.keys c.args.walk.now.items.keys c.open_task.new.items.keys
    c.in_ok-open_task.ensures.extends c.distinct.ensures w (c.in_ok-open_task.ensures.opened b e))

pub returns-then-not-branch-clause-smaller : goal.returns-then-not-branch-clause-smaller
returns-then-not-branch-clause-smaller c = λ k e. seen_falls k c.args.task.now (reverse c.args.walk.now.tasks.items)

pub returns-clause-smaller : goal.returns-clause-smaller
returns-clause-smaller c = λ k e.
    let (b, at) = c.requires.unrolling.constant in
    let old = reverse c.args.walk.now.tasks.items in
    let new = reverse c.open_task.new.tasks.items in
    let before = length-reverse c.args.walk.now.tasks.items in
    let after = length-reverse c.open_task.new.tasks.items in
    opened_falls c.args.bank.now c.open_task.new.bank b (entries_at c.args.bank.now c.args.unrolling.now.made.now) k c.args.task.now old new c.args.walk.now.items.keys c.open_task.new.items.keys (c.in_ok-open_task.ensures.opened b at)
    (omega (arith, before, after, c.in_ok-open_task.ensures.few, e))

pub returns-then-not-branch-clause-terms : goal.returns-then-not-branch-clause-terms
returns-then-not-branch-clause-terms c = λ constant. but_last c.args.bank.now c.args.unrolling.now.made.now c.args.walk.now.tasks.items c.args.task.now

pub returns-clause-terms : goal.returns-clause-terms
returns-clause-terms c = c.in_ok-open_task.ensures.terms
