use Rattle.std.proofs.Common.{◌∙◌, ap, map, arith}
use Rattle.inst_logic.specs.Tree.{of_list}
use Rattle.inst_logic.specs.View.{tree}
use Rattle.inst_logic.specs.Measure.{tree_size, trees_size}
use Rattle.term_bank.specs.declared.walk.Step.TheVariants.{Apply}
use Rattle.term_bank.specs.Forest.{tree_at}
use Rattle.term_bank.specs.Steps.{all_done, steps_size}
use Rattle.term_bank.proofs.Growth.{map_pushed}
use Rattle.term_bank.proofs.Walks.{steps_size_push, spread}
use Rattle.term_bank.proofs.walk.visit.Goals as goal

pub returns-in_ok-push-in-Var-clause-done : goal.returns-in_ok-push-in-Var-clause-done
returns-in_ok-push-in-Var-clause-done c =
    let at = c.in_ok-id-in-Var.ensures.at in
    rw (c.in_ok-push-in-Var.ensures.items, c.in-Var.is) (ap (all_done c.args.steps.now.items) (map_pushed c.args.bank.now c.var.new.self c.args.ids.now.items c.in_ok-id-in-Var.id _ c.var.ensures.extends c.requires at.1))

pub returns-in_ok-push_terms-in-App-clause-done : goal.returns-in_ok-push_terms-in-App-clause-done
returns-in_ok-push_terms-in-App-clause-done c =
    let ts = map (tree_at c.args.bank.now) c.args.ids.now.items in
    c.in_ok-push_terms-in-App.ensures.done ts ∙ rw (c.in_ok-push-in-App.ensures.items, c.as_slice.ensures, c.len.ensures, c.in-App.is) (spread c.args.steps.now.items _ ts c.in-App.args)

pub returns-in_ok-push_terms-in-App-clause-size : goal.returns-in_ok-push_terms-in-App-clause-size
returns-in_ok-push_terms-in-App-clause-size c =
    let a = c.in_ok-push_terms-in-App.ensures.size in
    let b = ap steps_size c.in_ok-push-in-App.ensures.items ∙ steps_size_push c.args.steps.now.items (Apply _ c.len.result) in
    let d = ap (λ ts. trees_size (of_list ts)) c.as_slice.ensures in
    let e = ap (λ t. tree_size (tree t)) c.in-App.is in
    omega (arith, a, b, d, e)
