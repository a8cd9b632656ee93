use Rattle.std.proofs.Common.{inl, inr, refl, subst}
use Rattle.instgen_run.specs.Loops.{IsSigned}
use Rattle.instgen_run.proofs.Works.{selected_within}
use Rattle.instgen_run.proofs.Tending.{indexed_by, partners_positive, stored_positive, partners_negative, stored_negative}
use Rattle.instgen_run.proofs.queue.store.Goals as goal

pub returns-in_ok-insert-clause-partners : goal.returns-in_ok-insert-clause-partners
returns-in_ok-insert-clause-partners g c =
    partners_positive g.I.PartnerIndex.pairs g.I.PartnerIndex.fits c.args.run.now c.args.partners.now (record c.args.partners.now { positive = c.insert.new.self }) c.args.n c.selected_atom-atom.result c.requires.within c.selected_atom-atom.ensures c.requires.partners
    (subst (IsSigned c.args.run.now c.args.n) c.if-is_positive.true c.is_positive.ensures) c.in_ok-insert.ensures.fits c.in_ok-insert.ensures.added refl

pub returns-in_ok-insert-clause-stored : goal.returns-in_ok-insert-clause-stored
returns-in_ok-insert-clause-stored g c =
    stored_positive g.I.PartnerIndex.pairs g.I.PartnerIndex.fits c.args.run.now c.args.partners.now (record c.args.partners.now { positive = c.insert.new.self }) c.args.n c.selected_atom-atom.result c.requires.within c.selected_atom-atom.ensures c.requires.partners
    (subst (IsSigned c.args.run.now c.args.n) c.if-is_positive.true c.is_positive.ensures) c.in_ok-insert.ensures.fits c.in_ok-insert.ensures.added refl

pub returns-in_ok-insert-2-clause-partners : goal.returns-in_ok-insert-2-clause-partners
returns-in_ok-insert-2-clause-partners g c =
    partners_negative g.I.PartnerIndex.pairs g.I.PartnerIndex.fits c.args.run.now c.args.partners.now (record c.args.partners.now { negative = c.insert-else-is_positive.new.self }) c.args.n c.selected_atom-atom.result c.requires.within c.selected_atom-atom.ensures c.requires.partners
    (subst (IsSigned c.args.run.now c.args.n) c.if-is_positive.false c.is_positive.ensures) c.in_ok-insert-2.ensures.fits c.in_ok-insert-2.ensures.added refl

pub returns-in_ok-insert-2-clause-stored : goal.returns-in_ok-insert-2-clause-stored
returns-in_ok-insert-2-clause-stored g c =
    stored_negative g.I.PartnerIndex.pairs g.I.PartnerIndex.fits c.args.run.now c.args.partners.now (record c.args.partners.now { negative = c.insert-else-is_positive.new.self }) c.args.n c.selected_atom-atom.result c.requires.within c.selected_atom-atom.ensures c.requires.partners
    (subst (IsSigned c.args.run.now c.args.n) c.if-is_positive.false c.is_positive.ensures) c.in_ok-insert-2.ensures.fits c.in_ok-insert-2.ensures.added refl

pub insert-requires-clause-absent : goal.insert-requires-clause-absent
insert-requires-clause-absent g c = λ i. c.requires.absent (indexed_by g.I.PartnerIndex.pairs c.args.partners.now (c.selected_atom-atom.result, c.args.n) (inl i))

pub insert-requires-else-is_positive-clause-absent : goal.insert-requires-else-is_positive-clause-absent
insert-requires-else-is_positive-clause-absent g c = λ i. c.requires.absent (indexed_by g.I.PartnerIndex.pairs c.args.partners.now (c.selected_atom-atom.result, c.args.n) (inr i))

pub insert-requires-else-is_positive-clause-within : goal.insert-requires-else-is_positive-clause-within
insert-requires-else-is_positive-clause-within g c = (selected_within c.args.run.now c.args.n c.selected_atom-atom.result c.requires.safe.entries c.selected_atom-atom.ensures).0
