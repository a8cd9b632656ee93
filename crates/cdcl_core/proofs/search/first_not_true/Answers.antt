use Rattle.std.proofs.Common.{ℕ, false, subst}
use Rattle.std.specs.Prelude.{All, Contains}
use Rattle.std.proofs.lemmas.List.{take_all}
use Rattle.std.proofs.lemmas.List.Elements.{All-more}
use Rattle.inst_logic.specs.declared.signed.Signed.{Signed}
use Rattle.cdcl_trail.specs.Trail.{literals_of}
use Rattle.cdcl_core.proofs.search.first_not_true.Goals as goal

pub loop-place-preserved : goal.loop-place-preserved
loop-place-preserved c =
    let d : Signed ℕ = record { positive = false; atom = 0 } in
    All-more (Contains (literals_of c.args.trail.now.trail.entries)) c.args.assumptions.now c.loop-place.place d c.loop-place-test.true c.loop-place.invariant c.if-not-is_true.ensures

pub returns-clause-none : goal.returns-clause-none
returns-clause-none c = subst (λ xs. All (Contains (literals_of c.args.trail.now.trail.entries)) xs) (take_all c.loop-place.place c.args.assumptions.now c.loop-place-test.false) c.loop-place.invariant
