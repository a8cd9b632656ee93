use Rattle.std.proofs.Common.{rules}
use Rattle.instgen_select.proofs.Trues.{first_is_chosen}
use Rattle.instgen_select.proofs.choice.choose_in.Goals as goal

pub returns-then-is_kept : goal.returns-then-is_kept
returns-then-is_kept c = record { chosen = c.is_kept.ensures.yes (search rules) }

pub returns : goal.returns
returns c = record { chosen = first_is_chosen c.args.old c.args.clause.now c.args.v.now c.first_true.result (c.is_kept.ensures.no (search rules)) c.first_true.ensures.some c.first_true.ensures.none }
