use Rattle.std.proofs.Common.{◌∙◌, ap, ap₂, arith, fold}
use Rattle.inst_logic.specs.Equal.{sym_eq}
use Rattle.inst_logic.specs.Lists.{with_item}
use Rattle.inst_logic.specs.Measure.{tree_size, trees_size}
use Rattle.inst_logic.specs.Tree.{of_list}
use Rattle.inst_logic.specs.View.{tree}
use Rattle.equality_axioms.proofs.symbols.visit.Goals as goal

pub returns-in_ok-push_terms-in-App-clause-symbols : goal.returns-in_ok-push_terms-in-App-clause-symbols
returns-in_ok-push_terms-in-App-clause-symbols c =
    ap₂ (fold (with_item sym_eq)) c.in_ok-note-in-App.ensures c.in_ok-push_terms-in-App.ensures.symbols ∙ rw (c.as_slice.ensures, c.in-App.is)

pub returns-in_ok-push_terms-in-App-clause-size : goal.returns-in_ok-push_terms-in-App-clause-size
returns-in_ok-push_terms-in-App-clause-size c =
    let a = c.in_ok-push_terms-in-App.ensures.size in
    let d = ap (λ ts. trees_size (of_list ts)) c.as_slice.ensures in
    let e = ap (λ t. tree_size (tree t)) c.in-App.is in
    omega (arith, a, d, e)
