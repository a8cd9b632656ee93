use Rattle.std.proofs.Common.{◌≡◌, ◌<◌, ◌∷◌, ◌++◌, List, [], length, map, reverse, refl, sym, ap, ◌∙◌, subst, arith}
use Rattle.std.specs.Prelude.{All}
use Rattle.std.specs.List.{flat_map}
use Rattle.std.proofs.lemmas.List.Elements.{All-head}
use Rattle.clause_form.proofs.Stacks.{reverse_push}
use Rattle.inst_logic.specs.Tree.{app, none}
use Rattle.inst_calculus.specs.Unrolling as trees
use Rattle.term_bank.proofs.Growth.{at_extends, extends_itself, extends_trans}
use Rattle.term_bank.specs.Forest.{AreIds}
use Rattle.global_subs.specs.declared.made.Grounded.{Grounded}
use Rattle.global_subs.specs.declared.unrolling.Task.{Task}
use Rattle.global_subs.specs.Unrolls.{IsTask, IsWalk, breadth, entries_at, grounded_at, list_of, load, waiting_at, with_items}
use Rattle.global_subs.proofs.TaskLaws.{entries_same, unrolling_stays}
use Rattle.global_subs.proofs.WalkLaws.{items_once, walk_begins}
use Rattle.global_subs.specs.Terms.{HasTerms}
use Rattle.global_subs.proofs.TermLaws.{term_stays}
use Rattle.global_subs.proofs.unrolling.run.Goals as goal

pub loop-task-init : goal.loop-task-init
loop-task-init c = record {
  extends = extends_itself c.args.bank.now;
  terms = λ constant h. h;
  walk = λ b e. walk_begins c.args.bank.now b (entries_at c.args.bank.now c.args.unrolling.now.made.now) (reverse c.args.tasks.items) c.new.result.keys c.new-2.result.keys c.requires.tasks c.new.ensures.empty c.new-2.ensures.empty;
}

nothing : (xs : List Task) → length xs ≡ 0 → xs ≡ []
nothing [] e = refl
nothing (x ∷ xs) e = absurd (omega (arith, e))

-- the last of the tasks comes first
popped : (tasks rest : List Task) (t : Task) → tasks ≡ rest ++ t ∷ [] → reverse tasks ≡ t ∷ reverse rest
popped tasks rest t e = ap reverse e ∙ reverse_push rest t

pub take_task-requires-clause-unrolling : goal.take_task-requires-clause-unrolling
take_task-requires-clause-unrolling c = unrolling_stays c.args.bank.now c.loop-task.bank c.loop-task.invariant.extends c.args.unrolling.now c.requires.unrolling

pub take_task-requires-clause-task : goal.take_task-requires-clause-task
take_task-requires-clause-task c =
    let f = c.args.bank.now in
    let g = c.loop-task.bank in
    let (b, e) = c.requires.unrolling.constant in
    let w = c.loop-task.invariant.walk b e in
    let first = popped c.loop-task.walk.tasks.items c.pop.new.self.items c.in-Some.task c.in-Some.ensures.items in
    subst (λ (ms : List trees.Made). IsTask g ms c.in-Some.task) (sym (entries_same f g c.loop-task.invariant.extends c.args.unrolling.now.made.now c.requires.unrolling.entries))
    (All-head (IsTask g (entries_at f c.args.unrolling.now.made.now)) c.in-Some.task (reverse c.pop.new.self.items) (subst (λ (ts : List Task). All (IsTask g (entries_at f c.args.unrolling.now.made.now)) ts) first w.tasks_in))

pub loop-task-preserved : goal.loop-task-preserved
loop-task-preserved c = record {
  extends = extends_trans c.args.bank.now c.loop-task.bank c.take_task.new.bank c.loop-task.invariant.extends c.in_ok-take_task.ensures.extends;
  terms = λ constant h.
      let f0 = c.args.bank.now in
      let f = c.loop-task.bank in
      c.in_ok-take_task.ensures.terms (term_stays f0 f c.loop-task.invariant.extends c.args.unrolling.now.bot (c.requires.unrolling.bot, constant)).1
      (subst (HasTerms f c.args.unrolling.now.made.now) c.in-Some.ensures.items (c.loop-task.invariant.terms constant h));
  walk = λ b e.
      let f0 = c.args.bank.now in
      let f = c.loop-task.bank in
      let g = c.take_task.new.bank in
      let made = c.args.unrolling.now.made.now in
      let result = with_items [] (flat_map (list_of b (entries_at f0 made)) (map (waiting_at f0) (reverse c.args.tasks.items))) in
      let same = entries_same f0 f c.loop-task.invariant.extends made c.requires.unrolling.entries in
      let first = popped c.loop-task.walk.tasks.items c.pop.new.self.items c.in-Some.task c.in-Some.ensures.items in
      let there = at_extends f0 f c.args.unrolling.now.bot (app b none) c.loop-task.invariant.extends (c.requires.unrolling.bot, e) in
      subst (λ (ms : List trees.Made). IsWalk g b ms result (reverse c.take_task.new.walk.tasks.items) c.take_task.new.walk.seen.keys c.take_task.new.walk.items.keys) same
      (c.in_ok-take_task.ensures.taken b there.1 result
      (subst (λ (ms : List trees.Made). IsWalk f b ms result (c.in-Some.task ∷ reverse c.pop.new.self.items) c.loop-task.walk.seen.keys c.loop-task.walk.items.keys) (sym same)
      (subst (λ (ts : List Task). IsWalk f b (entries_at f0 made) result ts c.loop-task.walk.seen.keys c.loop-task.walk.items.keys) first (c.loop-task.invariant.walk b e))));
}

pub loop-task-smaller : goal.loop-task-smaller
loop-task-smaller c =
    let k = breadth c.args.unrolling.now.made.now in
    let first = popped c.loop-task.walk.tasks.items c.pop.new.self.items c.in-Some.task c.in-Some.ensures.items in
    subst (λ (ts : List Task). load k (reverse c.take_task.new.walk.tasks.items) < load k ts) (sym first) (c.in_ok-take_task.ensures.smaller k refl)

pub returns-clause-ids : goal.returns-clause-ids
returns-clause-ids c =
    let (b, e) = c.requires.unrolling.constant in
    let w = c.loop-task.invariant.walk b e in
    subst (λ (gs : List Grounded). All (λ g. AreIds c.loop-task.bank g.terms) gs) (sym c.in_ok-list.ensures) w.items_in

pub returns-clause-list : goal.returns-clause-list
returns-clause-list c = λ b e.
    let f = c.args.bank.now in
    let g = c.loop-task.bank in
    let made = entries_at f c.args.unrolling.now.made.now in
    let w = c.loop-task.invariant.walk b e in
    let none_left : reverse c.loop-task.walk.tasks.items ≡ [] = ap reverse (nothing c.loop-task.walk.tasks.items (omega (arith, c.in_default.ensures.cases.0))) in
    let all = flat_map (list_of b made) (map (waiting_at f) (reverse c.args.tasks.items)) in
    ap (map (grounded_at g)) c.in_ok-list.ensures
    ∙ sym (ap (λ (ts : List Task). with_items (map (grounded_at g) c.loop-task.walk.items.keys) (flat_map (list_of b made) (map (waiting_at g) ts))) none_left)
    ∙ w.left ∙ items_once all

pub returns-clause-formed : goal.returns-clause-formed
returns-clause-formed c = λ constant h. (c.loop-task.invariant.terms constant h).formed
