use Rattle.std.proofs.Common.{◌∙◌, ◌++◌, List, ℕ, sym, ap, map, subst, arith}
use Rattle.std.proofs.lemmas.Result.{on_ok_weaker}
use Rattle.inst_logic.specs.Tree.{Tree, of_list}
use Rattle.inst_logic.specs.Measure.{tree_size}
use Rattle.inst_logic.specs.Printing.{name_text, tree_text, arguments_text}
use Rattle.term_bank.specs.Forest.{tree_at}
use Rattle.term_bank.specs.Shapes.{IsRootOf}
use Rattle.cert_text.specs.Steps.{steps_text}
use Rattle.cert_text.proofs.Writing.{named_text}
use Rattle.cert_text.proofs.walk.print.Goals as goal

pub returns-in_ok-push_name-in-App-clause-text : goal.returns-in_ok-push_name-in-App-clause-text
returns-in_ok-push_name-in-App-clause-text c =
    let root = subst (IsRootOf c.args.bank.now c.args.id) c.in-App.is c.root.ensures in
    let ts = map (tree_at c.args.bank.now) c.in-App.args.now in
    let n = c.in_ok-push_name-in-App.ensures ∙ ap (λ (b : List ℕ). c.args.text.now.items ++ name_text b) c.bytes.ensures in
    let rest = steps_text c.args.bank.now c.args.steps.now.items in
    on_ok_weaker c.open.result (λ e. named_text c.args.text.now.items (name_text c.in-App.sym.now.name) (arguments_text (of_list ts)) rest c.push_name.new.text.items _ n e ∙ ap (λ (t : Tree). c.args.text.now.items ++ (tree_text t ++ rest)) (sym root.0)) c.open.ensures.text

pub returns-in_ok-push_name-in-App-clause-size : goal.returns-in_ok-push_name-in-App-clause-size
returns-in_ok-push_name-in-App-clause-size c =
    let root = subst (IsRootOf c.args.bank.now c.args.id) c.in-App.is c.root.ensures in
    let s = ap tree_size root.0 in
    on_ok_weaker c.open.result (λ e. omega (arith, s)) c.open.ensures.size
