use Rattle.std.proofs.Common.{ℕ, ◌≡◌, ◌+◌, ◌<◌, [], ◌∷◌, ◌++◌, length, drop, map, sym, ap, ◌∙◌, subst, arith, ◌↔◌}
use Rattle.std.specs.Prelude.{All, Contains, IsTrue}
use Rattle.std.proofs.lemmas.Bool.{false≢true}
use Rattle.std.proofs.lemmas.List.Elements.{All-contains}
use Rattle.inst_logic.specs.declared.signed.Signed.{Signed}
use Rattle.inst_logic.specs.Signed.{complement}
use Rattle.prop_logic.specs.declared.literal.Hint.{Hint}
use Rattle.prop_logic.specs.declared.literal.Hint.TheVariants.{Added}
use Rattle.prop_logic.specs.Literal.{cited, AtomsBelow}
use Rattle.inst_logic.specs.Derivations.{IsOnlyOutside}
use Rattle.prop_logic.specs.Analysis.{ClosesAll}
use Rattle.proof_log.specs.Marks.{room, Holds, with_mark}
use Rattle.proof_log.proofs.Hints.{left_more, left_last, left_unnamed, left_stuck, left_from, left_count, left_none, cited_below}
use Rattle.proof_log.proofs.MarkedSets.{holds_insert, with_mark_room}
use Rattle.proof_log.proofs.propagation.closes.Goals as goal

-- what the present hint names
abbrev first_hint : Hint
first_hint = Added 0

pub returns-in_default-clause-closed : goal.returns-in_default-clause-closed
returns-in_default-clause-closed c = λ F h.
    let g = c.loop-i.invariant.left F h in
    let name = cited c.args.given.now c.args.earlier.now in
    let from = left_from name c.args.hints.now c.loop-i.i first_hint c.loop-i-test.true in (
      λ e. absurd (false≢true e),
      λ k. absurd (left_unnamed g.0 _ (map name (drop (c.loop-i.i + 1) c.args.hints.now)) (sym c.in_default.ensures) (subst (λ xs. ClosesAll g.0 xs) from (g.2.0 k))),
    )

pub all_marked-requires : goal.all_marked-requires
all_marked-requires c =
    let below : AtomsBelow (room c.args.marks.now) c.in-Some.clause.now = cited_below (room c.args.marks.now) c.args.given.now c.args.earlier.now c.requires.given c.requires.earlier _ c.in-Some.clause.now (sym c.in-Some.ensures) in
    rw (c.as_slice.ensures, c.loop-i.invariant.same_room) below

pub returns-then-i-hints-clause-closed : goal.returns-then-i-hints-clause-closed
returns-then-i-hints-clause-closed c = λ F h.
    let g = c.loop-i.invariant.left F h in
    let name = cited c.args.given.now c.args.earlier.now in
    let clause = c.in-Some.clause.now in
    let rest = map name (drop (c.loop-i.i + 1) c.args.hints.now) in
    let from = left_from name c.args.hints.now c.loop-i.i first_hint c.loop-i-test.true in
    let none : length rest ≡ 0 = left_count name c.args.hints.now (c.loop-i.i + 1) ∙ (omega arith) in
    let last = left_last g.0 clause _ rest (sym c.in-Some.ensures) none in
    let all : IsTrue c.all_marked.result ↔ All (Contains g.0) clause = subst (λ xs. IsTrue c.all_marked.result ↔ All (Contains g.0) xs) c.as_slice.ensures (c.all_marked.ensures g.0 g.1) in (
      λ e. g.2.1 (subst (λ xs. ClosesAll g.0 xs) (sym from) (last.1 (all.0 e))),
      λ k. all.1 (last.0 (subst (λ xs. ClosesAll g.0 xs) from (g.2.0 k))),
    )

pub only_unmarked-requires : goal.only_unmarked-requires
only_unmarked-requires c =
    let below : AtomsBelow (room c.args.marks.now) c.in-Some.clause.now = cited_below (room c.args.marks.now) c.args.given.now c.args.earlier.now c.requires.given c.requires.earlier _ c.in-Some.clause.now (sym c.in-Some.ensures) in
    rw (c.as_slice-in-loop-i.ensures, c.loop-i.invariant.same_room) below

pub insert-requires : goal.insert-requires
insert-requires c =
    let below : AtomsBelow (room c.args.marks.now) c.in-Some.clause.now = cited_below (room c.args.marks.now) c.args.given.now c.args.earlier.now c.requires.given c.requires.earlier _ c.in-Some.clause.now (sym c.in-Some.ensures) in
    let here : Contains c.in-Some.clause.now c.in-Some-only_unmarked.l = subst (λ xs. Contains xs c.in-Some-only_unmarked.l) c.as_slice-in-loop-i.ensures c.in-Some-only_unmarked.ensures.here in
    let low : c.in-Some-only_unmarked.l.atom < room c.args.marks.now = All-contains (λ l. l.atom < room c.args.marks.now) c.in-Some.clause.now c.in-Some-only_unmarked.l below here in
    rw (c.complement.ensures, c.loop-i.invariant.same_room) low

pub returns-in-None-clause-closed : goal.returns-in-None-clause-closed
returns-in-None-clause-closed c = λ F h.
    let g = c.loop-i.invariant.left F h in
    let name = cited c.args.given.now c.args.earlier.now in
    let clause = c.in-Some.clause.now in
    let rest = map name (drop (c.loop-i.i + 1) c.args.hints.now) in
    let from = left_from name c.args.hints.now c.loop-i.i first_hint c.loop-i-test.true in
    let count = left_count name c.args.hints.now (c.loop-i.i + 1) in
    let some : 0 < length rest = omega (arith, count, c.if-i-hints.false) in
    let stuck = subst (λ xs. (l : Signed ℕ) → IsOnlyOutside g.0 xs l → ⊥) c.as_slice-in-loop-i.ensures (c.in-None.ensures.outside g.0 g.1) in (
      λ e. absurd (false≢true e),
      λ k. absurd (left_stuck g.0 clause _ rest (sym c.in-Some.ensures) some stuck (subst (λ xs. ClosesAll g.0 xs) from (g.2.0 k))),
    )

pub loop-i-preserved : goal.loop-i-preserved
loop-i-preserved c =
    let name = cited c.args.given.now c.args.earlier.now in
    let clause = c.in-Some.clause.now in
    let l = c.in-Some-only_unmarked.l in
    let rest = map name (drop (c.loop-i.i + 1) c.args.hints.now) in
    let from = left_from name c.args.hints.now c.loop-i.i first_hint c.loop-i-test.true in
    let count = left_count name c.args.hints.now (c.loop-i.i + 1) in
    let some : 0 < length rest = omega (arith, count, c.if-i-hints.false) in
    let added : c.insert.new.self ≡ with_mark c.loop-i.marks (complement l) = c.insert.ensures ∙ ap (with_mark c.loop-i.marks) c.complement.ensures in
    let below : AtomsBelow (room c.args.marks.now) clause = cited_below (room c.args.marks.now) c.args.given.now c.args.earlier.now c.requires.given c.requires.earlier _ clause (sym c.in-Some.ensures) in
    let here : Contains clause l = subst (λ xs. Contains xs l) c.as_slice-in-loop-i.ensures c.in-Some-only_unmarked.ensures.here in
    let low : (complement l).atom < room c.loop-i.marks = subst (λ n. l.atom < n) (sym c.loop-i.invariant.same_room) (All-contains (λ l. l.atom < room c.args.marks.now) clause l below here) in
    record {
      same_room = ap room added ∙ with_mark_room c.loop-i.marks (complement l) ∙ c.loop-i.invariant.same_room;
      left = λ F h.
          let g = c.loop-i.invariant.left F h in
          let one : IsOnlyOutside g.0 clause l = subst (λ xs. IsOnlyOutside g.0 xs l) c.as_slice-in-loop-i.ensures (c.in-Some-only_unmarked.ensures.outside g.0 g.1) in
          let more = left_more g.0 clause l _ rest (sym c.in-Some.ensures) some one in (
            g.0 ++ complement l ∷ [],
            subst (λ m. Holds m (g.0 ++ complement l ∷ [])) (sym added) (holds_insert c.loop-i.marks g.0 (complement l) low g.1),
            (
              λ k. more.0 (subst (λ xs. ClosesAll g.0 xs) from (g.2.0 k)),
              λ k. g.2.1 (subst (λ xs. ClosesAll g.0 xs) (sym from) (more.1 k)),
            ),
          );
    }

pub returns-clause-closed : goal.returns-clause-closed
returns-clause-closed c = λ F h.
    let g = c.loop-i.invariant.left F h in
    (λ e. absurd (false≢true e), λ k. absurd (left_none _ g.0 c.args.hints.now c.loop-i.i c.loop-i-test.false (g.2.0 k)))
