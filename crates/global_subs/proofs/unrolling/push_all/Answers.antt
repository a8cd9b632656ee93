use Rattle.std.proofs.Common.{◌≡◌, ℕ, suc, ◌+◌, ◌-◌, List, ◌∷◌, ◌++◌, map, reverse, sym, ap, ◌∙◌, subst, arith, append_assoc}
use Rattle.std.specs.Prelude.{All}
use Rattle.std.specs.List.{flat_map}
use Rattle.std.proofs.lemmas.List.{append-nil}
use Rattle.std.proofs.lemmas.List.Elements.{All-nil, All-cons, All-push}
use Rattle.inst_calculus.specs.Abstraction.{grounding}
use Rattle.inst_calculus.specs.Unrolling.{Grounded, all_unrolled, unrolled}
use Rattle.clause_form.proofs.Stacks.{reverse_push}
use Rattle.global_subs.specs.declared.unrolling.Task.{Task}
use Rattle.global_subs.specs.Unrolls.{IsTask, entries_at, list_of, waiting_at}
use Rattle.global_subs.proofs.unrolling.push_all.Goals as goal
use Rattle.term_bank.specs.Forest.{IsTermIn}

pub loop-i-init : goal.loop-i-init
loop-i-init c =
    let f = c.args.bank.now in
    let made = entries_at f c.args.unrolling.now.made.now in
    record {
      tasks = subst (λ (ts : List Task). All (IsTask f made) (reverse ts)) (sym c.requires.empty) (All-nil (IsTask f made));
      plain = λ f constant. subst (All (λ (t : Task). All (IsTermIn f) t.terms)) (sym c.requires.empty) (All-nil (λ (t : Task). All (IsTermIn f) t.terms));
      lists = λ b e. ap (λ (ts : List Task). all_unrolled b made c.len-i.result ++ flat_map (list_of b made) (map (waiting_at f) (reverse ts))) c.requires.empty ∙ append-nil (all_unrolled b made c.len-i.result) ∙ ap (all_unrolled b made) c.len-i.ensures;
    }

pub loop-i-preserved : goal.loop-i-preserved
loop-i-preserved c =
    let f = c.args.bank.now in
    let made = entries_at f c.args.unrolling.now.made.now in
    let i : ℕ = c.loop-i.i - 1 in
    let t : Task = c.in_ok-task.task in
    let now : reverse c.push.new.self.items ≡ t ∷ reverse c.loop-i.tasks.items = ap reverse c.in_ok-push.ensures.items ∙ reverse_push c.loop-i.tasks.items t in
    record {
      tasks = subst (λ (ts : List Task). All (IsTask f made) ts) (sym now) (All-cons (IsTask f made) t (reverse c.loop-i.tasks.items) c.in_ok-task.ensures.task c.loop-i.invariant.tasks);
      plain = λ h constant.
          subst (All (λ (t : Task). All (IsTermIn h) t.terms)) (sym c.in_ok-push.ensures.items)
          (All-push (λ (t : Task). All (IsTermIn h) t.terms) c.loop-i.tasks.items t (c.loop-i.invariant.plain h constant) (c.in_ok-task.ensures.plain h (All-nil (IsTermIn h)) constant));
      lists = λ b e.
          let lists = list_of b made in
          let rest = flat_map lists (map (waiting_at f) (reverse c.loop-i.tasks.items)) in
          let one : i + 1 ≡ suc i = omega arith in
          let next : suc i ≡ c.loop-i.i = omega arith in
          ap (λ (ts : List Task). all_unrolled b made i ++ flat_map lists (map (waiting_at f) ts)) now
          ∙ ap (λ (gs : List Grounded). all_unrolled b made i ++ (gs ++ rest)) (c.in_ok-task.ensures.list b e ∙ ap (λ n. unrolled b made n (grounding b)) one)
          ∙ sym (append_assoc (all_unrolled b made i) (unrolled b made (suc i) (grounding b)) rest)
          ∙ ap (λ n. all_unrolled b made n ++ rest) next ∙ c.loop-i.invariant.lists b e;
    }

pub returns-clause-tasks : goal.returns-clause-tasks
returns-clause-tasks c = c.loop-i.invariant.tasks

pub returns-clause-lists : goal.returns-clause-lists
returns-clause-lists c = λ b e.
    let f = c.args.bank.now in
    let made = entries_at f c.args.unrolling.now.made.now in
    let none_left : c.loop-i.i ≡ 0 = omega (arith, c.loop-i-test.false) in
    sym (ap (λ n. all_unrolled b made n ++ flat_map (list_of b made) (map (waiting_at f) (reverse c.loop-i.tasks.items))) none_left) ∙ c.loop-i.invariant.lists b e

pub returns-clause-plain : goal.returns-clause-plain
returns-clause-plain c = c.loop-i.invariant.plain
