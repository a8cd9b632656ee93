use Rattle.std.proofs.Common.{◌≡◌, ◌<◌, [], Some, sym, subst, length}
use Rattle.std.specs.Prelude.{slice_get}
use Rattle.std.proofs.lemmas.List.Elements.{All-contains}
use Rattle.inst_logic.specs.Truth.{IsTrueClause}
use Rattle.inst_logic.proofs.ShownLaws.{slice_get_contains}
use Rattle.prop_logic.specs.Valuation.{IsHeld}
use Rattle.instgen_run.specs.Choosing.{IsUnderWay, AreNumbersPlaced}
use Rattle.instgen_run.proofs.UnderWay.{chosen_below, next_under_way, next_numbers}
use Rattle.instgen_run.proofs.settle.place_next.Goals as goal

pub chosen_literal-chosen-requires-clause-holds : goal.chosen_literal-chosen-requires-clause-holds
chosen_literal-chosen-requires-clause-holds c =
    All-contains (IsTrueClause (IsHeld c.args.v.now)) c.args.literals.now c.clause_after.result.now c.requires.hold (slice_get_contains c.args.literals.now c.len.result c.clause_after.result.now c.clause_after.ensures)

pub select_next-requires : goal.select_next-requires
select_next-requires c =
    let (l, at, holds, same) = c.chosen_literal-chosen.ensures in
    record { atom = subst (λ a. a < length c.args.selection.now.users) same (chosen_below c.args.literals.now (length c.args.selection.now.users) c.len.result c.clause_after.result.now c.chosen_literal-chosen.result.place l c.requires.below c.clause_after.ensures at) }

pub returns-clause-under_way : goal.returns-clause-under_way
returns-clause-under_way c =
    let (l, at, holds, same) = c.chosen_literal-chosen.ensures in
    let below = subst (λ a. a < length c.args.selection.now.users) same (chosen_below c.args.literals.now (length c.args.selection.now.users) c.len.result c.clause_after.result.now c.chosen_literal-chosen.result.place l c.requires.below c.clause_after.ensures at) in
    subst (IsUnderWay c.args.literals.now c.args.v.now [] []) (sym c.in_ok-select_next.ensures)
    (next_under_way c.args.literals.now c.args.v.now c.args.selection.now c.chosen_literal-chosen.result.place c.chosen_literal-chosen.result.atom c.clause_after.result.now
    (subst (λ k. slice_get c.args.literals.now k ≡ Some c.clause_after.result.now) c.len.ensures c.clause_after.ensures) (l, at, holds, same) below c.requires.under_way)

pub returns-clause-numbers : goal.returns-clause-numbers
returns-clause-numbers c =
    let (l, at, holds, same) = c.chosen_literal-chosen.ensures in
    let below = subst (λ a. a < length c.args.selection.now.users) same (chosen_below c.args.literals.now (length c.args.selection.now.users) c.len.result c.clause_after.result.now c.chosen_literal-chosen.result.place l c.requires.below c.clause_after.ensures at) in
    subst AreNumbersPlaced (sym c.in_ok-select_next.ensures)
    (next_numbers c.args.literals.now c.args.v.now c.args.selection.now c.chosen_literal-chosen.result.place c.chosen_literal-chosen.result.atom c.clause_after.result.now
    (subst (λ k. slice_get c.args.literals.now k ≡ Some c.clause_after.result.now) c.len.ensures c.clause_after.ensures) (l, at, holds, same) below c.requires.numbers)
