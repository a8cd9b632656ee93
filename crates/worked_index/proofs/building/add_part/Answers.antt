use Rattle.std.proofs.Common.{subst, sym}
use Rattle.term_bank.specs.Forest.{AreIds}
use Rattle.term_bank.proofs.Growth.{ids_pushed}
use Rattle.worked_index.proofs.building.add_part.Goals as goal

pub returns-clause-ids : goal.returns-clause-ids
returns-clause-ids c =
    subst (AreIds c.part_id.new.bank) (sym c.in_ok-push.ensures.items)
    (ids_pushed c.args.bank.now c.part_id.new.bank c.args.terms.now.items c.in_ok-id.id c.part_id.ensures.extends c.requires c.in_ok-id.ensures.within)
