use Rattle.std.proofs.Common.{◌≡◌, ℕ, ◌+◌, ◌-◌, ◌<◌, List, [], ◌∷◌, drop, map, reverse, length, sym, subst, ap, ◌∙◌, arith}
use Rattle.std.specs.List.{flat_map}
use Rattle.std.proofs.lemmas.List.{length-append}
use Rattle.std.specs.Prelude.{All}
use Rattle.std.proofs.lemmas.List.Elements.{All-get_or, All-push}
use Rattle.global_subs.specs.declared.unrolling.Task.{Task}
use Rattle.inst_calculus.specs.Unrolling.{Grounded, unrolled, under_terms}
use Rattle.term_bank.specs.Forest.{tree_at, IsTermIn}
use Rattle.clause_form.proofs.Stacks.{reverse_push}
use Rattle.global_subs.specs.Unrolls.{AreOpened, entries_at}
use Rattle.global_subs.proofs.TaskLaws.{opened_none, opened_premise}
use Rattle.global_subs.proofs.unrolling.push_premises.Goals as goal

pub loop-i-init : goal.loop-i-init
loop-i-init c = record {
  few = omega arith;
  plain = λ f terms constant tasks. tasks;
  opened = λ n lower b e.
      let f = c.args.bank.now in
      let made = entries_at f c.args.unrolling.now.made.now in
      opened_none f b made n (λ p. unrolled b made p (under_terms b (map (tree_at f) c.args.terms.now))) c.args.premises.now _ (reverse c.args.tasks.now.items) (omega arith);
}

pub loop-i-preserved : goal.loop-i-preserved
loop-i-preserved c = record {
  few =
      let more = ap (λ (ts : List Task). length ts) c.in_ok-push.ensures.items ∙ length-append c.loop-i.tasks.items (c.in_ok-task.task ∷ []) in
      omega (arith, more, c.loop-i.invariant.few);
  plain = λ f terms constant tasks.
      subst (All (λ (t : Task). All (IsTermIn f) t.terms)) (sym c.in_ok-push.ensures.items)
      (All-push (λ (t : Task). All (IsTermIn f) t.terms) c.loop-i.tasks.items c.in_ok-task.task (c.loop-i.invariant.plain f terms constant tasks) (c.in_ok-task.ensures.plain f terms constant));
  opened = λ n lower b e.
      let f = c.args.bank.now in
      let made = entries_at f c.args.unrolling.now.made.now in
      let premises = c.args.premises.now in
      let i : ℕ = c.loop-i.i - 1 in
      let lists : ℕ → List Grounded = λ p. unrolled b made p (under_terms b (map (tree_at f) c.args.terms.now)) in
      let next : c.loop-i.i ≡ i + 1 = omega arith in
      let low : i < length premises = omega arith in
      let below = All-get_or (λ p. p < n) premises i 0 low lower in
      opened_premise f b made n lists premises i c.in_ok-task.task (reverse c.args.tasks.now.items) (reverse c.loop-i.tasks.items) (reverse c.push.new.self.items) low
      (subst (λ k. AreOpened f b made n (flat_map lists (drop k premises)) (reverse c.args.tasks.now.items) (reverse c.loop-i.tasks.items)) next (c.loop-i.invariant.opened n lower b e))
      c.in_ok-task.ensures.task (omega (arith, below, c.in_ok-task.ensures.entry)) (c.in_ok-task.ensures.list b e)
      (ap reverse c.in_ok-push.ensures.items ∙ reverse_push c.loop-i.tasks.items c.in_ok-task.task);
}

pub returns-clause-opened : goal.returns-clause-opened
returns-clause-opened c = λ n lower b e.
    let f = c.args.bank.now in
    let made = entries_at f c.args.unrolling.now.made.now in
    let lists : ℕ → List Grounded = λ p. unrolled b made p (under_terms b (map (tree_at f) c.args.terms.now)) in
    let none_left : c.loop-i.i ≡ 0 = omega (arith, c.loop-i-test.false) in
    subst (λ k. AreOpened f b made n (flat_map lists (drop k c.args.premises.now)) (reverse c.args.tasks.now.items) (reverse c.loop-i.tasks.items)) none_left (c.loop-i.invariant.opened n lower b e)

pub returns-clause-plain : goal.returns-clause-plain
returns-clause-plain c = c.loop-i.invariant.plain
