use Rattle.std.proofs.Common.{ℕ, ◌<◌, ◌^◌, false, subst, rules}
use Rattle.std.specs.Prelude.{All}
use Rattle.std.proofs.lemmas.List.{take_all}
use Rattle.std.proofs.lemmas.List.Elements.{All-more}
use Rattle.inst_logic.specs.declared.signed.Signed.{Signed}
use Rattle.compact_lists.proofs.clauses.are_packable.Goals as goal

pub loop-lit-preserved : goal.loop-lit-preserved
loop-lit-preserved c =
    let xs = c.args.clause.now in
    let i = c.loop-lit.lit-index in
    let d : Signed ℕ = record { positive = false; atom = 0 } in
    All-more (λ x. x.atom < 2 ^ 31) xs i d c.loop-lit-test.true c.loop-lit.invariant (search rules)

pub returns : goal.returns
returns c t = subst (λ ys. All (λ (x : Signed ℕ). x.atom < 2 ^ 31) ys) (take_all c.loop-lit.lit-index c.args.clause.now c.loop-lit-test.false) c.loop-lit.invariant
