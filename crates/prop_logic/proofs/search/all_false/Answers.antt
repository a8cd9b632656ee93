use Rattle.std.proofs.Common.{ℕ, false, get_or, subst}
use Rattle.std.specs.Prelude.{All}
use Rattle.std.proofs.lemmas.List.{take_all}
use Rattle.std.proofs.lemmas.List.Elements.{All-more}
use Rattle.std.proofs.lemmas.Option.{slice_get-get_or}
use Rattle.inst_logic.specs.declared.signed.Signed.{Signed}
use Rattle.prop_logic.specs.Search.{IsFalseIn}
use Rattle.prop_logic.proofs.ListLaws.{Contains-slice_get}
use Rattle.prop_logic.proofs.search.all_false.Goals as goal

pub returns-then-not-is_false : goal.returns-then-not-is_false
returns-then-not-is_false c =
    let xs = c.args.clause.now in
    let i = c.loop-lit.lit-index in
    let d : Signed ℕ = record { positive = false; atom = 0 } in
    (get_or xs i d, Contains-slice_get xs i (get_or xs i d) (slice_get-get_or xs i d c.loop-lit-test.true), c.if-not-is_false.ensures)

pub loop-lit-preserved : goal.loop-lit-preserved
loop-lit-preserved c =
    let d : Signed ℕ = record { positive = false; atom = 0 } in
    All-more (IsFalseIn c.args.entries.now) c.args.clause.now c.loop-lit.lit-index d c.loop-lit-test.true c.loop-lit.invariant c.if-not-is_false.ensures

pub returns : goal.returns
returns c = subst (λ xs. All (IsFalseIn c.args.entries.now) xs) (take_all c.loop-lit.lit-index c.args.clause.now c.loop-lit-test.false) c.loop-lit.invariant
