use Rattle.ground_abs.proofs.Images.{constant_is_formed}
use Rattle.instgen_run.proofs.Grown.{entries_kept}
use Rattle.instgen_loop.proofs.RecordLaws.{concluded_extends}
use Rattle.instgen_loop.proofs.records.records_of.Goals as goal

pub records_with-requires-clause-entries : goal.records_with-requires-clause-entries
records_with-requires-clause-entries c =
    entries_kept c.args.bank.now c.app.new.self c.in_ok-constant.ensures.extends (c.in_ok-constant.ensures.formed c.requires.entries.formed (constant_is_formed c.args.bot.now c.requires.constant)) c.args.clauses.now.entries c.requires.entries

pub records_with-requires-clause-concluded : goal.records_with-requires-clause-concluded
records_with-requires-clause-concluded c = concluded_extends c.args.bank.now c.app.new.self c.in_ok-constant.ensures.extends c.args.clauses.now.entries c.requires.entries c.requires.concluded
