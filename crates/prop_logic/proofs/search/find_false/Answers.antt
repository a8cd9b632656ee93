use Rattle.std.proofs.Common.{inl, subst}
use Rattle.std.specs.Prelude.{All}
use Rattle.std.proofs.lemmas.List.{take_all}
use Rattle.std.proofs.lemmas.List.Elements.{All-more, All-weaker}
use Rattle.prop_logic.specs.Search.{HasRest, IsFalseIn, IsOpposed}
use Rattle.prop_logic.proofs.PlainLaws.{added_named}
use Rattle.prop_logic.proofs.search.find_false.Goals as goal

pub returns-then-all_false-clause-some : goal.returns-then-all_false-clause-some
returns-then-all_false-clause-some c = λ steps assumptions.
    let clause = c.index-clauses-place.result in
    let all = subst (All (IsFalseIn c.args.entries.now)) c.as_slice.ensures c.if-all_false.ensures in
    (clause, added_named c.args.clauses.now c.loop-place.place clause c.loop-place-test.true c.index-clauses-place.is, All-weaker (IsFalseIn c.args.entries.now) (IsOpposed assumptions c.args.entries.now) (λ l f. inl f) clause all)

pub loop-place-preserved : goal.loop-place-preserved
loop-place-preserved c =
    let clause = c.index-clauses-place.result in
    let rest : HasRest c.args.entries.now clause = subst (HasRest c.args.entries.now) c.as_slice.ensures c.if-all_false.ensures in
    All-more (HasRest c.args.entries.now) c.args.clauses.now c.loop-place.place clause c.loop-place-test.true c.loop-place.invariant (subst (HasRest c.args.entries.now) c.index-clauses-place.is rest)

pub returns-clause-none : goal.returns-clause-none
returns-clause-none c = subst (λ xs. All (HasRest c.args.entries.now) xs) (take_all c.loop-place.place c.args.clauses.now c.loop-place-test.false) c.loop-place.invariant
