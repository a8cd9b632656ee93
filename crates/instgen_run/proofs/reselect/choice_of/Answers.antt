use Rattle.std.proofs.lemmas.List.Elements.{All-contains}
use Rattle.inst_logic.specs.Truth.{IsTrueClause}
use Rattle.inst_logic.proofs.ShownLaws.{at_number_contains}
use Rattle.prop_logic.specs.Valuation.{IsHeld}
use Rattle.instgen_run.proofs.Withdrawn.{old_place}
use Rattle.instgen_run.proofs.reselect.choice_of.Goals as goal

pub chosen_literal-requires-clause-place : goal.chosen_literal-requires-clause-place
chosen_literal-requires-clause-place g c =
    old_place c.args.run.now c.args.v.now c.args.n c.place_of-old.result c.numbered_clause.result.now c.requires.selectable c.requires.safe.placed c.requires.within c.place_of-old.ensures c.numbered_clause.ensures

pub chosen_literal-requires-clause-holds : goal.chosen_literal-requires-clause-holds
chosen_literal-requires-clause-holds g c =
    All-contains (IsTrueClause (IsHeld c.args.v.now)) c.args.run.now.ground.literals c.numbered_clause.result.now c.requires.selectable.hold (at_number_contains c.args.run.now.ground.literals c.args.n c.numbered_clause.result.now c.numbered_clause.ensures)
