use Rattle.std.proofs.Common.{arith, ◌≡◌, List, sym, ◌∙◌, Some, None, subst}
use Rattle.std.specs.Prelude.{position}
use Rattle.unify_core.specs.declared.side.Variable.{Variable}
use Rattle.clause_form.specs.Orders.{is_variable}
use Rattle.cert_inference.proofs.ComparisonLaws.{met_before, met_now}
use Rattle.cert_inference.proofs.comparison.number_of.Goals as goal

pub returns-in-Some : goal.returns-in-Some
returns-in-Some c =
    met_before c.args.order.now.items c.args.v c.in-Some.number (subst (λ (xs : List Variable). position (is_variable c.args.v) xs ≡ Some c.in-Some.number) c.deref.ensures.value (sym c.place_of.ensures ∙ c.in-Some.is))

pub returns : goal.returns
returns c =
    let k = met_now c.args.order.now.items c.push.new.self.items c.args.v (subst (λ (xs : List Variable). position (is_variable c.args.v) xs ≡ None) c.deref.ensures.value (sym c.place_of.ensures ∙ c.in_default.is)) c.in_ok-push.ensures.items in
    (k.0, let n = c.len-count.ensures in let m = k.1 in omega arith)
