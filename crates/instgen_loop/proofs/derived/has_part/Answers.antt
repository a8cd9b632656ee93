use Rattle.std.proofs.Common.{◌≡◌, ◌+◌, ◌++◌, ◌∷◌, [], ◌∙◌, sym, ap, subst, suc, take, length, Some, All, arith}
use Rattle.std.specs.Prelude.{slice_get}
use Rattle.std.proofs.Math.Seq.{take-length}
use Rattle.std.proofs.lemmas.List.Elements.{All-push}
use Rattle.inst_logic.specs.Derivations.{at_number}
use Rattle.instgen_run.specs.Clauses.{Item}
use Rattle.instgen_run.specs.Origins.{IsNoPart}
use Rattle.instgen_run.proofs.Decisions.{take_next}
use Rattle.instgen_loop.proofs.derived.has_part.Goals as goal

pub loop-i-preserved : goal.loop-i-preserved
loop-i-preserved c =
    let es = c.args.clauses.now.entries in
    let i = c.loop-i.i in
    let (item, at, same) = c.origin_of.ensures in
    let next : i + 1 ≡ suc i = omega arith in
    let here : slice_get es i ≡ Some item = sym (ap (at_number es) next) ∙ at in
    let more : take (i + 1) es ≡ take i es ++ item ∷ [] = ap (λ n. take n es) next ∙ take_next es i item here in
    subst (All (λ (e : Item). IsNoPart e.1)) (sym more)
    (All-push (λ (e : Item). IsNoPart e.1) (take i es) item c.loop-i.invariant (subst IsNoPart (sym same) (c.is_part.ensures c.if-is_part.false)))

pub returns : goal.returns
returns c = λ no.
    let es = c.args.clauses.now.entries in
    let all : c.loop-i.i ≡ length es = omega (arith, c.loop-i-test.false, c.len-i-end.ensures.len, c.loop-i.auto.i-end) in
    subst (All (λ (e : Item). IsNoPart e.1)) (ap (λ n. take n es) all ∙ take-length es) c.loop-i.invariant
