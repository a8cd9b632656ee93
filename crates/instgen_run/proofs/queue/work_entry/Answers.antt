use Rattle.std.proofs.Common.{inl, inr, subst, true, false, Contains}
use Rattle.std.proofs.lemmas.Result.{on_ok_weaker}
use Rattle.term_index.specs.Pairs.{Posting}
use Rattle.instgen_run.specs.Loops.{IsSigned, IsPairWorked, Goes}
use Rattle.instgen_run.proofs.Tending.{worked_with_all, indexed_by}
use Rattle.instgen_run.proofs.Opposites.{opposite_signs}
use Rattle.instgen_run.proofs.Tending.{on_ok_both}
use Rattle.instgen_run.proofs.queue.work_entry.Goals as goal

pub returns-then-is_positive-clause-running : goal.returns-then-is_positive-clause-running
returns-then-is_positive-clause-running g c = on_ok_weaker c.work_with.result
    (λ w. w (λ p i. opposite_signs c.args.run.now c.args.n p.1 true false (subst (IsSigned c.args.run.now c.args.n) c.if-is_positive.true c.is_positive.ensures) (c.requires.partners.negative_signed p i) (λ e. cc)))
    c.work_with.ensures.running

pub returns-else-is_positive-clause-running : goal.returns-else-is_positive-clause-running
returns-else-is_positive-clause-running g c = on_ok_weaker c.work_with-else-is_positive.result
    (λ w. w (λ p i. opposite_signs c.args.run.now c.args.n p.1 false true (subst (IsSigned c.args.run.now c.args.n) c.if-is_positive.false c.is_positive.ensures) (c.requires.partners.positive_signed p i) (λ e. cc)))
    c.work_with-else-is_positive.ensures.running

pub returns-then-is_positive-clause-worked : goal.returns-then-is_positive-clause-worked
returns-then-is_positive-clause-worked g c =
    let pairs = g.I.PartnerIndex.pairs in
    let p = c.args.partners.now in
    on_ok_weaker c.work_with.result
    (λ (h : Goes c.args.run.now c.work_with.new.run × ((q : Posting) → Contains (pairs p.negative) q → IsPairWorked c.work_with.new.run c.args.n q.1)).
    worked_with_all pairs c.args.run.now c.work_with.new.run p c.args.n true (pairs p.positive) (pairs p.negative) h.0 c.requires.safe.entries
    (subst (IsSigned c.args.run.now c.args.n) c.if-is_positive.true c.is_positive.ensures) c.requires.partners.positive_signed (λ q k. k) h.1)
    (on_ok_both _ _ c.work_with.result c.work_with.ensures.goes c.work_with.ensures.worked)

pub returns-else-is_positive-clause-worked : goal.returns-else-is_positive-clause-worked
returns-else-is_positive-clause-worked g c =
    let pairs = g.I.PartnerIndex.pairs in
    let p = c.args.partners.now in
    let w = c.work_with-else-is_positive in
    on_ok_weaker w.result
    (λ (h : Goes c.args.run.now w.new.run × ((q : Posting) → Contains (pairs p.positive) q → IsPairWorked w.new.run c.args.n q.1)).
    worked_with_all pairs c.args.run.now w.new.run p c.args.n false (pairs p.negative) (pairs p.positive) h.0 c.requires.safe.entries
    (subst (IsSigned c.args.run.now c.args.n) c.if-is_positive.false c.is_positive.ensures) c.requires.partners.negative_signed (λ q k. elim k [ inl a ↦ inr a | inr b ↦ inl b ]) h.1)
    (on_ok_both _ _ w.result w.ensures.goes w.ensures.worked)

pub work_with-requires-clause-worked : goal.work_with-requires-clause-worked
work_with-requires-clause-worked g c = λ p q a b.
    let i = indexed_by g.I.PartnerIndex.pairs c.args.partners.now p (inl a) in
    let j = indexed_by g.I.PartnerIndex.pairs c.args.partners.now q (inr b) in
    (c.requires.worked p.1 q.1 i j, c.requires.worked q.1 p.1 j i)

pub work_with-requires-else-is_positive-clause-worked : goal.work_with-requires-else-is_positive-clause-worked
work_with-requires-else-is_positive-clause-worked g c = λ p q a b.
    let i = indexed_by g.I.PartnerIndex.pairs c.args.partners.now p (inr a) in
    let j = indexed_by g.I.PartnerIndex.pairs c.args.partners.now q (inl b) in
    (c.requires.worked p.1 q.1 i j, c.requires.worked q.1 p.1 j i)
