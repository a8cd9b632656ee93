use Rattle.std.proofs.Common.{rules, arith, ap, length, ◌∙◌, sym, subst, get_or, List, All}
use Rattle.std.proofs.lemmas.List.{take_all}
use Rattle.prop_logic.proofs.ListLaws.{all_more}
use Rattle.instgen_run.specs.Clauses.{IsNoUnit}
use Rattle.instgen_run.proofs.entries.has_unit.Goals as goal

pub loop-l-preserved : goal.loop-l-preserved
loop-l-preserved g c =
    let e = c.args.entries.now in
    let same = c.as_slice-l-items.ensures in
    all_more (IsNoUnit e.bank e.clauses.entries) c.args.d.now c.loop-l.l-index c.l-item.result (omega (arith, ap length same)) c.loop-l.invariant
    (subst (IsNoUnit e.bank e.clauses.entries) (c.l-item.is ∙ ap (λ (xs : List _). get_or xs c.loop-l.l-index c.l-item.result) same) (c.in_ok-is_unit.ensures.no (search rules)))

pub returns-then-branch-clause-yes : goal.returns-then-branch-clause-yes
returns-then-branch-clause-yes g c = λ q.
    let same = c.as_slice-l-items.ensures in
    let at = c.l-item.is ∙ ap (λ (xs : List _). get_or xs c.loop-l.l-index c.l-item.result) same in (
      c.l-item.result,
      (c.loop-l.l-index, omega (arith, ap length same), sym at),
      c.in_ok-is_unit.ensures.yes (search rules),
    )

pub returns-clause-no : goal.returns-clause-no
returns-clause-no g c = λ q.
    let e = c.args.entries.now in
    subst (All (IsNoUnit e.bank e.clauses.entries)) (take_all c.loop-l.l-index c.args.d.now (omega (arith, ap length c.as_slice-l-items.ensures))) c.loop-l.invariant
