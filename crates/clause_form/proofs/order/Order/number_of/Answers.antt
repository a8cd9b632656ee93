use Rattle.std.proofs.Common.{◌≡◌, ◌+◌, ◌++◌, List, [], sym, ap, ap₂, ◌∙◌, subst, length, arith, Some, None}
use Rattle.std.specs.Prelude.{position}
use Rattle.unify_core.specs.declared.side.Variable.{Variable}
use Rattle.clause_form.specs.Orders.{is_variable, with_variable, number_in}
use Rattle.clause_form.proofs.Orders.{in_first, not_in_first, number_last, full, insert_first, insert_last, insert_later}
use Rattle.clause_form.proofs.order.Order.number_of.Goals as goal

there : (c : goal.In-Some) → position (is_variable c.args.v) c.self.inside.first.items ≡ Some c.in-Some.number
there c = subst (λ (xs : List Variable). position (is_variable c.args.v) xs ≡ Some c.in-Some.number) c.deref.ensures.value (sym c.place_of.ensures ∙ c.in-Some.is)

pub returns-in-Some-clause-met : goal.returns-in-Some-clause-met
returns-in-Some-clause-met c =
    subst (λ (xs : List Variable). xs ≡ with_variable xs c.args.v) c.self.view_is
    (insert_first is_variable c.self.inside.first.items c.self.inside.later.keys c.args.v c.in-Some.number (there c))

pub returns-in-Some-clause-number : goal.returns-in-Some-clause-number
returns-in-Some-clause-number c =
    subst (λ (xs : List Variable). c.in-Some.number ≡ number_in xs c.args.v) c.self.view_is
    (in_first (is_variable c.args.v) c.self.inside.first.items c.self.inside.later.keys c.in-Some.number (there c)).1

pub returns-then-count-lt-FEW-clause-met : goal.returns-then-count-lt-FEW-clause-met
returns-then-count-lt-FEW-clause-met c =
    let alone : c.self.inside.later.keys ≡ [] = c.self.invariant.1 (let n = c.len.ensures in let l = c.if-count-lt-FEW.true in omega arith) in
    subst (λ (xs : List Variable). c.push.new.self.items ++ c.self.inside.later.keys ≡ with_variable xs c.args.v) c.self.view_is
    (insert_last is_variable c.self.inside.first.items c.self.inside.later.keys c.push.new.self.items c.args.v
    (subst (λ (xs : List Variable). position (is_variable c.args.v) xs ≡ None) c.deref.ensures.value (sym c.place_of.ensures ∙ c.in_default.is)) alone c.in_ok-push.ensures.items)

pub returns-then-count-lt-FEW-clause-number : goal.returns-then-count-lt-FEW-clause-number
returns-then-count-lt-FEW-clause-number c =
    let alone : c.self.inside.later.keys ≡ [] = c.self.invariant.1 (let n = c.len.ensures in let l = c.if-count-lt-FEW.true in omega arith) in
    subst (λ (xs : List Variable). c.len.result + c.len-2.result ≡ number_in xs c.args.v) c.self.view_is
    (let m = c.len.ensures in
    let n = c.len-2.ensures.len in
    let k = number_last (is_variable c.args.v) c.self.inside.first.items c.self.inside.later.keys
    (subst (λ (xs : List Variable). position (is_variable c.args.v) xs ≡ None) c.deref.ensures.value (sym c.place_of.ensures ∙ c.in_default.is)) alone in
    omega arith)

pub returns-clause-met : goal.returns-clause-met
returns-clause-met c =
    subst (λ (xs : List Variable). c.self.inside.first.items ++ c.insert_full.new.self.keys ≡ with_variable xs c.args.v) c.self.view_is
    (ap (λ (ys : List Variable). c.self.inside.first.items ++ ys) c.in_ok-place.ensures.keys
    ∙ insert_later is_variable c.self.inside.first.items c.self.inside.later.keys c.args.v
    (subst (λ (xs : List Variable). position (is_variable c.args.v) xs ≡ None) c.deref.ensures.value (sym c.place_of.ensures ∙ c.in_default.is)))

pub returns-clause-number : goal.returns-clause-number
returns-clause-number c =
    let all : length c.self.inside.first.items ≡ 8 = full (length c.self.inside.first.items) c.self.inside.later.keys c.self.invariant.0 c.self.invariant.1
    (let m = c.len.ensures in let n = c.len-2.ensures.len in let l = c.if-count-lt-FEW.false in omega arith) in
    subst (λ (xs : List Variable). 8 + c.in_ok-place.place ≡ number_in xs c.args.v) c.self.view_is
    (ap₂ (λ m n. m + n) (sym all) c.in_ok-place.ensures.index
    ∙ sym (not_in_first (is_variable c.args.v) c.self.inside.first.items c.self.inside.later.keys
    (subst (λ (xs : List Variable). position (is_variable c.args.v) xs ≡ None) c.deref.ensures.value (sym c.place_of.ensures ∙ c.in_default.is))).1)
