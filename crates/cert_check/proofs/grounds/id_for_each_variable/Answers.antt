use Rattle.std.proofs.Common.{◌≡◌, ◌+◌, ap, ◌∙◌, sym, subst, refl, length, arith, ℕ, List, [], ◌∷◌, ◌++◌, All, Some}
use Rattle.std.proofs.lemmas.List.{length_push}
use Rattle.std.proofs.lemmas.List.Elements.{All-push}
use Rattle.term_bank.specs.Forest.{clause_at}
use Rattle.clause_form.proofs.Greatest.{variables_up_to}
use Rattle.cert_check.proofs.grounds.id_for_each_variable.Goals.{else-loop-test, then-loop-test+in_ok-push+else-counter-last}
use Rattle.cert_check.proofs.grounds.id_for_each_variable.Goals as goal

longer : (xs ys : List ℕ) (x n : ℕ) → ys ≡ xs ++ x ∷ [] → length xs ≡ n → length ys ≡ n + 1
longer xs ys x n e h = ap (λ (zs : List ℕ). length zs) e ∙ length_push xs x ∙ ap (λ m. m + 1) h

all_same : (xs ys : List ℕ) (x : ℕ) → ys ≡ xs ++ x ∷ [] → All (λ y. y ≡ x) xs → All (λ y. y ≡ x) ys
all_same xs ys x e h = subst (λ (zs : List ℕ). All (λ y. y ≡ x) zs) (sym e) (All-push (λ y. y ≡ x) xs x h refl)

pub loop-preserved : goal.loop-preserved
loop-preserved c = record {
  count = longer c.loop.ids c.push.new.self c.args.term c.loop.counter c.in_ok-push.ensures.ok c.loop.invariant.count;
  same = all_same c.loop.ids c.push.new.self c.args.term c.in_ok-push.ensures.ok c.loop.invariant.same;
}

pub returns-clause-enough : goal.returns-clause-enough
returns-clause-enough c =
    let count = variables_up_to (clause_at c.args.bank.now c.args.c.now) (Some c.in-Some.last) c.requires.canonical c.in-Some.ensures in
    let h = c.loop.invariant.count in
    elim c.loop-test.branch [
      | else-loop-test w ↦ let k = ap (λ (xs : List ℕ). length xs) w.ids-is in omega (arith, count)
      | then-loop-test+in_ok-push+else-counter-last w ↦ let k = ap (λ (xs : List ℕ). length xs) w.ids-is in let l = longer c.loop.ids w.push.new.self c.args.term c.loop.counter w.in_ok-push.ensures.ok h in omega (arith, count)
    ]

pub returns-clause-same : goal.returns-clause-same
returns-clause-same c = elim c.loop-test.branch [
  | else-loop-test w ↦ subst (λ (zs : List ℕ). All (λ y. y ≡ c.args.term) zs) (sym w.ids-is) c.loop.invariant.same
  | then-loop-test+in_ok-push+else-counter-last w ↦ subst (λ (zs : List ℕ). All (λ y. y ≡ c.args.term) zs) (sym w.ids-is) (all_same c.loop.ids w.push.new.self c.args.term w.in_ok-push.ensures.ok c.loop.invariant.same)
]
