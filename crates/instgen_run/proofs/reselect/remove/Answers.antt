use Rattle.std.proofs.Common.{refl, subst, inl, inr}
use Rattle.instgen_run.specs.Loops.{IsSigned}
use Rattle.instgen_run.proofs.Withdrawn.{what_is_left, was_there, is_there, on_ok_map, positive_there, negative_there, removed_positive, removed_negative, stays_positive, stays_negative}
use Rattle.instgen_run.proofs.Tending.{indexed_by}
use Rattle.instgen_run.proofs.reselect.remove.Goals as goal

pub returns-then-is_positive-clause-partners : goal.returns-then-is_positive-clause-partners
returns-then-is_positive-clause-partners g c =
    on_ok_map _ _ c.remove.result (what_is_left c.remove.result (g.I.PartnerIndex.pairs c.args.partners.now.positive) (g.I.PartnerIndex.pairs c.remove.new.self) (c.selected_atom-atom.result, c.args.n) c.remove.ensures.there c.remove.ensures.absent)
    (λ left. removed_positive g.I.PartnerIndex.pairs g.I.PartnerIndex.fits c.args.run.now c.args.partners.now (record c.args.partners.now { positive = c.remove.new.self }) c.args.n c.selected_atom-atom.result c.selected_atom-atom.ensures c.requires.partners
    (subst (IsSigned c.args.run.now c.args.n) c.if-is_positive.true c.is_positive.ensures) refl c.remove.ensures.fits left)

pub returns-then-is_positive-clause-stays : goal.returns-then-is_positive-clause-stays
returns-then-is_positive-clause-stays g c =
    on_ok_map _ _ c.remove.result (what_is_left c.remove.result (g.I.PartnerIndex.pairs c.args.partners.now.positive) (g.I.PartnerIndex.pairs c.remove.new.self) (c.selected_atom-atom.result, c.args.n) c.remove.ensures.there c.remove.ensures.absent)
    (λ left. stays_positive g.I.PartnerIndex.pairs g.I.PartnerIndex.fits c.args.run.now c.args.partners.now (record c.args.partners.now { positive = c.remove.new.self }) c.args.n c.selected_atom-atom.result c.selected_atom-atom.ensures c.requires.partners
    (subst (IsSigned c.args.run.now c.args.n) c.if-is_positive.true c.is_positive.ensures) refl left)

pub returns-then-is_positive-clause-there : goal.returns-then-is_positive-clause-there
returns-then-is_positive-clause-there g c =
    was_there c.remove.result (g.I.PartnerIndex.pairs c.args.partners.now.positive) (g.I.PartnerIndex.pairs c.remove.new.self) (c.selected_atom-atom.result, c.args.n) _ c.remove.ensures.there
    (λ i. indexed_by g.I.PartnerIndex.pairs c.args.partners.now (c.selected_atom-atom.result, c.args.n) (inl i))

pub returns-then-is_positive-clause-absent : goal.returns-then-is_positive-clause-absent
returns-then-is_positive-clause-absent g c =
    is_there c.remove.result (g.I.PartnerIndex.pairs c.args.partners.now.positive) (g.I.PartnerIndex.pairs c.remove.new.self) (c.selected_atom-atom.result, c.args.n) _ c.remove.ensures.absent
    (positive_there g.I.PartnerIndex.pairs g.I.PartnerIndex.fits c.args.run.now c.args.partners.now (record c.args.partners.now { positive = c.remove.new.self }) c.args.n c.selected_atom-atom.result c.selected_atom-atom.ensures c.requires.partners
    (subst (IsSigned c.args.run.now c.args.n) c.if-is_positive.true c.is_positive.ensures) refl)

pub returns-else-is_positive-clause-partners : goal.returns-else-is_positive-clause-partners
returns-else-is_positive-clause-partners g c =
    on_ok_map _ _ c.remove-else-is_positive.result (what_is_left c.remove-else-is_positive.result (g.I.PartnerIndex.pairs c.args.partners.now.negative) (g.I.PartnerIndex.pairs c.remove-else-is_positive.new.self) (c.selected_atom-atom.result, c.args.n) c.remove-else-is_positive.ensures.there c.remove-else-is_positive.ensures.absent)
    (λ left. removed_negative g.I.PartnerIndex.pairs g.I.PartnerIndex.fits c.args.run.now c.args.partners.now (record c.args.partners.now { negative = c.remove-else-is_positive.new.self }) c.args.n c.selected_atom-atom.result c.selected_atom-atom.ensures c.requires.partners
    (subst (IsSigned c.args.run.now c.args.n) c.if-is_positive.false c.is_positive.ensures) refl c.remove-else-is_positive.ensures.fits left)

pub returns-else-is_positive-clause-stays : goal.returns-else-is_positive-clause-stays
returns-else-is_positive-clause-stays g c =
    on_ok_map _ _ c.remove-else-is_positive.result (what_is_left c.remove-else-is_positive.result (g.I.PartnerIndex.pairs c.args.partners.now.negative) (g.I.PartnerIndex.pairs c.remove-else-is_positive.new.self) (c.selected_atom-atom.result, c.args.n) c.remove-else-is_positive.ensures.there c.remove-else-is_positive.ensures.absent)
    (λ left. stays_negative g.I.PartnerIndex.pairs g.I.PartnerIndex.fits c.args.run.now c.args.partners.now (record c.args.partners.now { negative = c.remove-else-is_positive.new.self }) c.args.n c.selected_atom-atom.result c.selected_atom-atom.ensures c.requires.partners
    (subst (IsSigned c.args.run.now c.args.n) c.if-is_positive.false c.is_positive.ensures) refl left)

pub returns-else-is_positive-clause-there : goal.returns-else-is_positive-clause-there
returns-else-is_positive-clause-there g c =
    was_there c.remove-else-is_positive.result (g.I.PartnerIndex.pairs c.args.partners.now.negative) (g.I.PartnerIndex.pairs c.remove-else-is_positive.new.self) (c.selected_atom-atom.result, c.args.n) _ c.remove-else-is_positive.ensures.there
    (λ i. indexed_by g.I.PartnerIndex.pairs c.args.partners.now (c.selected_atom-atom.result, c.args.n) (inr i))

pub returns-else-is_positive-clause-absent : goal.returns-else-is_positive-clause-absent
returns-else-is_positive-clause-absent g c =
    is_there c.remove-else-is_positive.result (g.I.PartnerIndex.pairs c.args.partners.now.negative) (g.I.PartnerIndex.pairs c.remove-else-is_positive.new.self) (c.selected_atom-atom.result, c.args.n) _ c.remove-else-is_positive.ensures.absent
    (negative_there g.I.PartnerIndex.pairs g.I.PartnerIndex.fits c.args.run.now c.args.partners.now (record c.args.partners.now { negative = c.remove-else-is_positive.new.self }) c.args.n c.selected_atom-atom.result c.selected_atom-atom.ensures c.requires.partners
    (subst (IsSigned c.args.run.now c.args.n) c.if-is_positive.false c.is_positive.ensures) refl)
