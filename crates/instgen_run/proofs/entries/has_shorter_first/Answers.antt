use Rattle.std.proofs.Common.{rules, arith, ap, length, ◌∙◌, subst, get_or, List, All}
use Rattle.std.proofs.lemmas.List.{take_all}
use Rattle.prop_logic.proofs.ListLaws.{all_more}
use Rattle.instgen_run.specs.Clauses.{IsPastSought}
use Rattle.instgen_run.proofs.entries.has_shorter_first.Goals as goal

pub loop-l-preserved : goal.loop-l-preserved
loop-l-preserved g c =
    let pairs = g.I.PartnerIndex.pairs in
    let e = c.args.entries.now in
    let s = c.args.sought.now in
    let same = c.as_slice-l-items.ensures in
    record {
      past = all_more (IsPastSought pairs e s) s.clause.now c.loop-l.l-index c.l-item.result (omega (arith, ap length same)) c.loop-l.invariant.past
          (subst (IsPastSought pairs e s) (c.l-item.is ∙ ap (λ (xs : List _). get_or xs c.loop-l.l-index c.l-item.result) same) (c.in_ok-has_shorter_at.ensures.no (search rules)));
      tested = c.in_ok-has_shorter_at.ensures.tested (search rules);
    }

pub returns-clause-no : goal.returns-clause-no
returns-clause-no g c = λ q.
    let s = c.args.sought.now in
    subst (All (IsPastSought g.I.PartnerIndex.pairs c.args.entries.now s)) (take_all c.loop-l.l-index s.clause.now (omega (arith, ap length c.as_slice-l-items.ensures))) c.loop-l.invariant.past
