use Rattle.std.proofs.Common.{◌≡◌, ◌≤◌, length, ap, sym, subst, arith, rules, refl, inl, List}
use Rattle.inst_logic.specs.Unifiers.{IsMostGeneral}
use Rattle.term_bank.specs.Forest.{tree_at}
use Rattle.unify_core.specs.Sides.{Binding, IsResolvedBy}
use Rattle.unify_core.specs.Terms.{AreOfOneKind}
use Rattle.unify_core.proofs.Stays.{substitutions_stay}
use Rattle.instgen_run.proofs.Selected.{same_places}
use Rattle.instgen_run.proofs.Inferred.{unified_stays}
use Rattle.instgen_run.specs.Loops.{items, IsUnified}
use Rattle.instgen_run.proofs.Works.{goes_on, goes_rebound, tree_stays, pair_without, selected_within}
use Rattle.instgen_run.proofs.Works.{selected_stays}
use Rattle.instgen_run.proofs.Alike.{done_or, parts_after}
use Rattle.instgen_run.proofs.Opposites.{running_rebound, paired_left, paired_right, opposite_stays, opposite_swapped}
use Rattle.instgen_run.proofs.work.work_pair.Goals as goal

pub returns-then-not-branch-clause-worked : goal.returns-then-not-branch-clause-worked
returns-then-not-branch-clause-worked g c =
    let old = c.args.run.now in
    let entries = c.requires.safe.entries in
    let rebound = goes_rebound old c.unify.new.self in
    pair_without (record old { bindings = c.unify.new.self }) c.args.i c.args.j (tree_at old.entries.bank c.selected_atom-a.result) (tree_at old.entries.bank c.selected_atom-b.result)
    (tree_stays old (record old { bindings = c.unify.new.self }) rebound entries c.args.i (tree_at old.entries.bank c.selected_atom-a.result) (c.selected_atom-a.result, c.selected_atom-a.ensures, refl))
    (tree_stays old (record old { bindings = c.unify.new.self }) rebound entries c.args.j (tree_at old.entries.bank c.selected_atom-b.result) (c.selected_atom-b.result, c.selected_atom-b.ensures, refl))
    (c.in_ok-unify.ensures.no (search rules))

pub infer_unless_done-requires-clause-unified : goal.infer_unless_done-requires-clause-unified
infer_unless_done-requires-clause-unified g c =
    let old = c.args.run.now in
    let kinds : AreOfOneKind (tree_at old.entries.bank c.selected_atom-a.result) (tree_at old.entries.bank c.selected_atom-b.result) =
    inl ((selected_within old c.args.i c.selected_atom-a.result c.requires.safe.entries c.selected_atom-a.ensures).1, (selected_within old c.args.j c.selected_atom-b.result c.requires.safe.entries c.selected_atom-b.ensures).1) in
    let (s, resolved, general) = c.in_ok-unify.ensures.yes (search rules) in
    record {
      bindings = c.in_ok-unify.ensures.bindings (search rules);
      terms = c.in_ok-unify.ensures.terms (search rules) kinds;
      left = tree_at old.entries.bank c.selected_atom-a.result;
      right = tree_at old.entries.bank c.selected_atom-b.result;
      left_atom = (selected_within old c.args.i c.selected_atom-a.result c.requires.safe.entries c.selected_atom-a.ensures).1;
      right_atom = (selected_within old c.args.j c.selected_atom-b.result c.requires.safe.entries c.selected_atom-b.ensures).1;
      unifier = s;
      resolved = resolved;
      most_general = general;
    }

pub infer_unless_done-requires-2-clause-unified : goal.infer_unless_done-requires-2-clause-unified
infer_unless_done-requires-2-clause-unified g c =
    let old = c.args.run.now in
    let mid = c.infer_unless_done.new.run in
    let kinds : AreOfOneKind (tree_at old.entries.bank c.selected_atom-a.result) (tree_at old.entries.bank c.selected_atom-b.result) =
    inl ((selected_within old c.args.i c.selected_atom-a.result c.requires.safe.entries c.selected_atom-a.ensures).1, (selected_within old c.args.j c.selected_atom-b.result c.requires.safe.entries c.selected_atom-b.ensures).1) in
    let (s, resolved, general) = c.in_ok-unify.ensures.yes (search rules) in
    let first : IsUnified old.entries.bank c.unify.new.self.entries = record {
      bindings = c.in_ok-unify.ensures.bindings (search rules);
      terms = c.in_ok-unify.ensures.terms (search rules) kinds;
      left = tree_at old.entries.bank c.selected_atom-a.result;
      right = tree_at old.entries.bank c.selected_atom-b.result;
      left_atom = (selected_within old c.args.i c.selected_atom-a.result c.requires.safe.entries c.selected_atom-a.ensures).1;
      right_atom = (selected_within old c.args.j c.selected_atom-b.result c.requires.safe.entries c.selected_atom-b.ensures).1;
      unifier = s;
      resolved = resolved;
      most_general = general;
    } in
    subst (IsUnified mid.entries.bank) (sym c.in_ok-infer_unless_done.ensures.bindings) (unified_stays old.entries.bank mid.entries.bank c.unify.new.self.entries c.in_ok-infer_unless_done.ensures.goes.bank first)

pub returns-clause-goes : goal.returns-clause-goes
returns-clause-goes g c =
    let old = c.args.run.now in
    let same = record old { bindings = c.unify.new.self } in
    goes_on old c.infer_unless_done.new.run c.infer_unless_done-2.new.run (goes_on old same c.infer_unless_done.new.run (goes_rebound old c.unify.new.self) c.in_ok-infer_unless_done.ensures.goes) c.in_ok-infer_unless_done-2.ensures.goes

pub returns-clause-worked : goal.returns-clause-worked
returns-clause-worked g c =
    let old = c.args.run.now in
    let es = c.unify.new.self.entries in
    let same = record old { bindings = c.unify.new.self } in
    let mid = c.infer_unless_done.new.run in
    let new = c.infer_unless_done-2.new.run in
    let t = tree_at old.entries.bank c.selected_atom-a.result in
    let u = tree_at old.entries.bank c.selected_atom-b.result in
    let one = c.in_ok-infer_unless_done.ensures in
    let two = c.in_ok-infer_unless_done-2.ensures in
    let entries = c.requires.safe.entries in
    let later = one.safe.entries in
    let (s, resolved, general) = c.in_ok-unify.ensures.yes (search rules) in
    let first = tree_stays old same (goes_rebound old c.unify.new.self) entries c.args.i t (c.selected_atom-a.result, c.selected_atom-a.ensures, refl) in
    let second = tree_stays old same (goes_rebound old c.unify.new.self) entries c.args.j u (c.selected_atom-b.result, c.selected_atom-b.ensures, refl) in
    let resolved_later : IsResolvedBy mid.entries.bank mid.bindings.entries s =
    subst (λ (bs : List Binding). IsResolvedBy mid.entries.bank bs s) (sym one.bindings) (substitutions_stay old.entries.bank mid.entries.bank es s one.goes.bank (c.in_ok-unify.ensures.bindings (search rules)) resolved) in
    let short : length mid.selection.places ≤ length (items mid) = one.safe.within in
    let places : length mid.selection.places ≡ length old.selection.places = ap length (same_places one.goes.selection) in
    let within : length old.selection.places ≤ length (items old) = c.requires.safe.within in
    parts_after same mid new c.args.i c.args.j t u s one.goes two.goes entries later (omega (arith, c.requires.first.1), omega (arith, c.requires.second.1))
    (omega (arith, c.requires.first.1), omega (arith, c.requires.second.1)) general first second
    (done_or c.args.done.first c.requires.first_done (λ e. one.worked e t u s resolved general first))
    (done_or c.args.done.second c.requires.second_done (λ e. two.worked e t u s resolved_later general (tree_stays same mid one.goes entries c.args.j u second)))

pub returns-then-not-branch-clause-running : goal.returns-then-not-branch-clause-running
returns-then-not-branch-clause-running g c = λ o. running_rebound g.S.Solver.atoms g.S.Solver.added c.args.run.now c.unify.new.self

pub returns-clause-running : goal.returns-clause-running
returns-clause-running g c = λ o bot cs budget v h.
    let S = g.S.Solver in
    let old = c.args.run.now in
    let a = c.selected_atom-a.result in
    let b = c.selected_atom-b.result in
    let same = record old { bindings = c.unify.new.self } in
    let mid = c.infer_unless_done.new.run in
    let one = c.in_ok-infer_unless_done.ensures in
    let two = c.in_ok-infer_unless_done-2.ensures in
    let entries = c.requires.safe.entries in
    let rebound = goes_rebound old c.unify.new.self in
    let (s, resolved, general) = c.in_ok-unify.ensures.yes (search rules) in
    let first = selected_stays old same rebound entries c.args.i a c.selected_atom-a.ensures in
    let second = selected_stays old same rebound entries c.args.j b c.selected_atom-b.ensures in
    let here = opposite_stays old same rebound c.args.i c.args.j o in
    let resolved_later : IsResolvedBy mid.entries.bank mid.bindings.entries s =
    subst (λ (bs : List Binding). IsResolvedBy mid.entries.bank bs s) (sym one.bindings) (substitutions_stay old.entries.bank mid.entries.bank c.unify.new.self.entries s one.goes.bank (c.in_ok-unify.ensures.bindings (search rules)) resolved) in
    let left : tree_at mid.entries.bank a ≡ tree_at old.entries.bank a = one.goes.bank.trees.1 a (selected_within old c.args.i a entries c.selected_atom-a.ensures).0 in
    let right : tree_at mid.entries.bank b ≡ tree_at old.entries.bank b = one.goes.bank.trees.1 b (selected_within old c.args.j b entries c.selected_atom-b.ensures).0 in
    two.running (paired_right mid c.args.i c.args.j a b s (opposite_swapped mid c.args.i c.args.j (opposite_stays same mid one.goes c.args.i c.args.j here))
    (selected_stays same mid one.goes entries c.args.i a first) (selected_stays same mid one.goes entries c.args.j b second) resolved_later
    (subst (λ x. IsMostGeneral s x (tree_at mid.entries.bank b)) (sym left) (subst (λ y. IsMostGeneral s (tree_at old.entries.bank a) y) (sym right) general)))
    bot cs budget v (one.running (paired_left same c.args.i c.args.j a b s here first second resolved general) bot cs budget v (running_rebound S.atoms S.added old c.unify.new.self bot cs budget v h))
