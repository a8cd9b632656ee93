use Rattle.std.proofs.Common.{sym, subst}
use Rattle.std.proofs.lemmas.List.Elements.{All-nil}
use Rattle.std.proofs.lemmas.Result.{on_ok_weaker}
use Rattle.global_subs.specs.Terms.{HasTerms}
use Rattle.global_subs.proofs.TermLaws.{no_tasks, one_more_task}
use Rattle.global_subs.proofs.unrolling.items_of.Goals as goal
use Rattle.term_bank.specs.Forest.{IsTermIn}

pub returns-clause-formed : goal.returns-clause-formed
returns-clause-formed c =
    let f = c.args.bank.now in
    let made = c.args.unrolling.now.made.now in
    on_ok_weaker c.run.result
    (λ formed constant old terms.
    formed constant (subst (HasTerms f made) (sym c.in_ok-push.ensures.items)
    (one_more_task f made c.new-tasks.result.items c.in_ok-task.task (subst (HasTerms f made) (sym c.new-tasks.ensures.items) (no_tasks f made old c.requires.unrolling.entries terms)) (c.in_ok-task.ensures.plain f (All-nil (IsTermIn f)) (c.requires.unrolling.bot, constant))))) c.run.ensures.formed
