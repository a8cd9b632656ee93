use Rattle.std.proofs.Common.{◌≡◌, ◌≢◌, true, ◌<◌, ◌⊎◌, length, set, Some, None, sym, ap, ◌∙◌, subst, false, arith}
use Rattle.std.proofs.lemmas.Option.{none-some, same_Some}
use Rattle.std.specs.Prelude.{All, Contains, ◌==◌}
use Rattle.std.proofs.lemmas.Bool.{eqb-true}
use Rattle.cdcl_trail.specs.Arena.{AreCopies}
use Rattle.cdcl_trail.specs.Clauses.{clause_number}
use Rattle.cdcl_trail.specs.Propagation.{IsFalseIn}
use Rattle.cdcl_trail.specs.Running.{IsRunning, Runs}
use Rattle.cdcl_trail.specs.Values.{entries_of}
use Rattle.cdcl_trail.specs.Watch.{slot_of, pair_at, AreWatched}
use Rattle.cdcl_trail.specs.declared.watch.WatchedPair.{WatchedPair}
use Rattle.cdcl_trail.proofs.ScanLaws.{decided_false}
use Rattle.cdcl_trail.proofs.VisitLaws.{runs_none, neither, atom_below, lists_small, slot_below, slot_injective}
use Rattle.cdcl_trail.proofs.WatchLaws.{pair_at_set}
use Rattle.cdcl_trail.proofs.CopyLaws.{copied}
use Rattle.cdcl_trail.proofs.LooseLaws.{two_of, paired_watched, paired_runs, unit_running, unit_runs, last_true, none_at}
use Rattle.cdcl_trail.proofs.ValuesLaws.{level_small}
use Rattle.cdcl_trail.proofs.loose.look_at.Goals as goal

pub put-requires-clause-level : goal.put-requires-clause-level
put-requires-clause-level c =
    let r = c.requires.running in
    omega (arith, level_small c.args.watched.now.values c.args.level false r.values r.trail)

pub watch_pair-requires-clause-small : goal.watch_pair-requires-clause-small
watch_pair-requires-clause-small c = lists_small c.args.clauses.now c.args.level c.args.watched.now.values c.args.watched.now.lists.items c.args.watched.now.pairs.items c.requires.running

pub returns-in_default-first_open-clause-looked : goal.returns-in_default-first_open-clause-looked
returns-in_default-first_open-clause-looked c =
    (c.in-Some.clause.now, sym c.in-Some.ensures, c.in_default-first_open.ensures.none)

pub put-requires-clause-unset : goal.put-requires-clause-unset
put-requires-clause-unset c = neither (entries_of c.args.watched.now.values) c.in-Some-first_open.first (decided_false _ _ _ c.is_true.ensures c.if-not-is_true.true) c.in-Some-first_open.ensures.some.1

pub returns-in_ok-watch_pair-in-Some-other_open-clause-running : goal.returns-in_ok-watch_pair-in-Some-other_open-clause-running
returns-in_ok-watch_pair-in-Some-other_open-clause-running c =
    let clauses = c.args.clauses.now in
    let n = c.args.number in
    let r = c.requires.running in
    let a = c.in-Some-first_open.first in
    let b = c.in-Some-other_open.second in
    let atoms = length c.args.watched.now.values.entries.items in
    let at : clause_number clauses n ≡ Some c.in-Some.clause.now = sym c.in-Some.ensures in
    let room = c.requires.room c.in-Some.clause.now at in
    let none : pair_at c.args.watched.now.pairs.items n ≡ None = none_at c.pair_of_clause.result (pair_at c.args.watched.now.pairs.items n) c.pair_of_clause.ensures (sym c.if-is_some.ensures) in
    let has_a : Contains c.in-Some.clause.now a = c.in-Some-first_open.ensures.some.0 in
    let has_b : Contains c.in-Some.clause.now b = c.in-Some-other_open.ensures.some.0 in
    let in_a = subst (λ m. slot_of a < m) (sym r.slots) (slot_below a atoms (atom_below clauses n atoms c.in-Some.clause.now a r.below at has_a)) in
    let in_b = subst (λ m. slot_of b < m) (sym r.slots) (slot_below b atoms (atom_below clauses n atoms c.in-Some.clause.now b r.below at has_b)) in
    let e = c.in_ok-watch_pair-in-Some-other_open.ensures in
    let apart : a ≢ b = λ s. c.in-Some-other_open.ensures.some.1 (sym s) in
    let count = length c.in-Some.clause.now in
    let two = λ (t : (count == 2) ≡ true). two_of c.in-Some.clause.now a b (eqb-true count 2 t) has_a has_b apart in
    let w = paired_watched clauses c.args.watched.now.lists.items c.args.watched.now.pairs.items n (record { first = a; second = b }) (count == 2) c.in-Some.clause.now r.watched none at has_a has_b two (λ s. apart (slot_injective a b s)) in_a in_b room in
    subst (λ v. IsRunning clauses c.args.level v c.watch_pair.new.watched.lists.items c.watch_pair.new.watched.pairs.items) (sym e.values)
    (record {
      values = r.values;
      trail = r.trail;
      watched = subst (AreWatched clauses c.watch_pair.new.watched.lists.items) (sym e.pairs) (subst (λ ls. AreWatched clauses ls (set c.args.watched.now.pairs.items n (Some (record { first = a; second = b })))) (sym e.lists) w);
      slots = e.size ∙ r.slots;
      below = r.below;
    })

pub returns-in_ok-watch_pair-in-Some-other_open-clause-runs : goal.returns-in_ok-watch_pair-in-Some-other_open-clause-runs
returns-in_ok-watch_pair-in-Some-other_open-clause-runs c =
    let n = c.args.number in
    let room = c.requires.room c.in-Some.clause.now (sym c.in-Some.ensures) in
    let e = c.in_ok-watch_pair-in-Some-other_open.ensures in
    subst (λ v. Runs c.args.clauses.now c.args.level c.args.watched.now.values c.args.watched.now.pairs.items v c.watch_pair.new.watched.pairs.items) (sym e.values)
    (subst (Runs c.args.clauses.now c.args.level c.args.watched.now.values c.args.watched.now.pairs.items c.args.watched.now.values) (sym e.pairs)
    (paired_runs c.args.clauses.now c.args.level c.args.watched.now.values c.args.watched.now.pairs.items n (record { first = c.in-Some-first_open.first; second = c.in-Some-other_open.second }) room c.in-Some-first_open.ensures.some.1 c.in-Some-other_open.ensures.some.2))

pub returns-in_ok-watch_pair-in-Some-other_open-clause-looked : goal.returns-in_ok-watch_pair-in-Some-other_open-clause-looked
returns-in_ok-watch_pair-in-Some-other_open-clause-looked c d at e =
    let n = c.args.number in
    let p : WatchedPair = record { first = c.in-Some-first_open.first; second = c.in-Some-other_open.second } in
    none-some p (sym e ∙ ap (λ ps. pair_at ps n) c.in_ok-watch_pair-in-Some-other_open.ensures.pairs ∙ pair_at_set c.args.watched.now.pairs.items n (Some p) (c.requires.room d at))

pub returns-then-not-is_true-clause-running : goal.returns-then-not-is_true-clause-running
returns-then-not-is_true-clause-running c =
    let a = c.in-Some-first_open.first in
    let r = c.requires.running in
    let has_a : Contains c.in-Some.clause.now a = c.in-Some-first_open.ensures.some.0 in
    let low = atom_below c.args.clauses.now c.args.number (length c.args.watched.now.values.entries.items) c.in-Some.clause.now a r.below (sym c.in-Some.ensures) has_a in
    let unset = neither (entries_of c.args.watched.now.values) a (decided_false _ _ _ c.is_true.ensures c.if-not-is_true.true) c.in-Some-first_open.ensures.some.1 in
    unit_running c.args.clauses.now c.args.level c.args.watched.now.values c.put.new.self c.args.watched.now.lists.items c.args.watched.now.pairs.items c.args.number a r low unset c.put.ensures.values c.put.ensures.entries c.put.ensures.atoms

pub returns-then-not-is_true-clause-runs : goal.returns-then-not-is_true-clause-runs
returns-then-not-is_true-clause-runs c =
    let a = c.in-Some-first_open.first in
    let es = entries_of c.args.watched.now.values in
    let has_a : Contains c.in-Some.clause.now a = c.in-Some-first_open.ensures.some.0 in
    let all : All (λ m. IsFalseIn es m ⊎ (m ≡ a)) c.in-Some.clause.now = c.in-None.ensures.none in
    unit_runs c.args.clauses.now c.args.level c.args.watched.now.values c.put.new.self c.args.watched.now.pairs.items c.args.number a c.in-Some.clause.now (sym c.in-Some.ensures) has_a all c.put.ensures.entries c.put.ensures.atoms

pub returns-then-not-is_true-clause-looked : goal.returns-then-not-is_true-clause-looked
returns-then-not-is_true-clause-looked c d at =
    let a = c.in-Some-first_open.first in
    let has_a : Contains c.in-Some.clause.now a = c.in-Some-first_open.ensures.some.0 in
    (a, subst (λ e. Contains e a) (same_Some c.in-Some.clause.now d (c.in-Some.ensures ∙ at)) has_a, last_true (entries_of c.args.watched.now.values) (entries_of c.put.new.self) a c.args.level c.args.number c.put.ensures.entries)

pub returns-else-not-is_true-clause-runs : goal.returns-else-not-is_true-clause-runs
returns-else-not-is_true-clause-runs c = runs_none c.args.clauses.now c.args.level c.args.watched.now.values c.args.watched.now.pairs.items

pub returns-in_ok-watch_pair-in-Some-other_open-clause-copies : goal.returns-in_ok-watch_pair-in-Some-other_open-clause-copies
returns-in_ok-watch_pair-in-Some-other_open-clause-copies c =
    let n = c.args.number in
    let p : WatchedPair = record { first = c.in-Some-first_open.first; second = c.in-Some-other_open.second } in
    let kept = c.in_ok-keep-in-Some-other_open.ensures in
    subst (AreCopies c.args.clauses.now c.keep.new.self) (sym c.in_ok-watch_pair-in-Some-other_open.ensures.pairs)
    (copied c.args.clauses.now c.args.arena.now c.keep.new.self c.args.watched.now.pairs.items n p c.in-Some.clause.now c.requires.copies (sym c.in-Some.ensures) kept.here kept.others)
