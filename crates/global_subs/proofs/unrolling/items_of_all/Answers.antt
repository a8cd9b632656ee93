use Rattle.std.proofs.Common.{[]}
use Rattle.std.proofs.lemmas.Result.{on_ok_weaker}
use Rattle.global_subs.proofs.TermLaws.{no_tasks, with_tasks}
use Rattle.global_subs.proofs.unrolling.items_of_all.Goals as goal

pub returns-clause-formed : goal.returns-clause-formed
returns-clause-formed c =
    let f = c.args.bank.now in
    let made = c.args.unrolling.now.made.now in
    on_ok_weaker c.run.result
    (λ formed constant old terms.
    formed constant (with_tasks f made [] c.push_all.new.tasks.items (no_tasks f made old c.requires.entries terms) (c.in_ok-push_all.ensures.plain f (c.requires.bot, constant)))) c.run.ensures.formed
