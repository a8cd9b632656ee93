use Rattle.std.proofs.Common.{sym, subst}
use Rattle.global_subs.specs.Unrolls.{AreEntriesOf}
use Rattle.worked_lemmas.proofs.EntryLaws.{may_be_unrolled}
use Rattle.worked_lemmas.proofs.unrolling.unrolls_in.Goals as goal

pub unroll-requires-clause-entries : goal.unroll-requires-clause-entries
unroll-requires-clause-entries c =
    let at = c.in_ok-ids.ensures in
    let ids = c.in_ok-ids.ids in
    subst (AreEntriesOf c.ids_in.new.bank) (sym c.in_ok-made.ensures) (may_be_unrolled c.ids_in.new.bank ids.variable ids.p ids.q at.variable at.p at.q)
