use Rattle.std.proofs.Common.{ℕ, false, subst}
use Rattle.std.specs.Prelude.{All, Contains}
use Rattle.std.proofs.lemmas.List.{take_all}
use Rattle.inst_logic.specs.declared.signed.Signed.{Signed}
use Rattle.inst_logic.specs.Signed.{complement}
use Rattle.prop_logic.proofs.SearchLaws.{core_more, core_same}
use Rattle.prop_logic.proofs.PlainLaws.{not_contained}
use Rattle.prop_logic.proofs.core_of.core_of.Goals as goal

pub loop-lit-preserved-then-not-contains : goal.loop-lit-preserved-then-not-contains
loop-lit-preserved-then-not-contains c =
    let d : Signed ℕ = record { positive = false; atom = 0 } in
    core_same c.args.clause.now c.args.assumptions.now c.loop-lit.core c.loop-lit.lit-index d c.loop-lit-test.true (not_contained c.args.clause.now c.complement.result _ c.complement.ensures c.if-not-contains.ensures) c.loop-lit.invariant

pub loop-lit-preserved : goal.loop-lit-preserved
loop-lit-preserved c =
    let d : Signed ℕ = record { positive = false; atom = 0 } in
    core_more c.args.clause.now c.args.assumptions.now c.loop-lit.core c.push.new.self c.loop-lit.lit-index d c.loop-lit-test.true c.in_ok-push.ensures.ok c.loop-lit.invariant

pub returns-clause-whole : goal.returns-clause-whole
returns-clause-whole c = subst (λ xs. All (λ l. Contains c.args.clause.now (complement l) → Contains c.loop-lit.core l) xs) (take_all c.loop-lit.lit-index c.args.assumptions.now c.loop-lit-test.false) c.loop-lit.invariant.whole
