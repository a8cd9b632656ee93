use Rattle.std.proofs.Common.{◌≡◌, ◌∙◌, ◌+◌, ◌++◌, ◌∷◌, ℕ, suc, [], List, refl, ap, sym, take, arith}
use Rattle.std.proofs.Math.Seq.{take-suc}
use Rattle.inst_logic.specs.declared.signed.Signed.{Signed}
use Rattle.inst_logic.specs.Lists.{distinct}
use Rattle.clause_form.specs.Literals.{id_eq}
use Rattle.cert_items.proofs.Repeats.{one_more}
use Rattle.cert_items.proofs.canonical.are_distinct.Goals as goal

one : (ls : List (Signed ℕ)) → distinct id_eq (take 1 ls) ≡ take 1 ls
one [] = refl
one (l ∷ ls) = refl

pub loop-i-init : goal.loop-i-init
loop-i-init c = one c.args.literals.now

pub loop-i-preserved : goal.loop-i-preserved
loop-i-preserved c =
    let ls = c.args.literals.now in
    let l = c.index-literals-i.result in
    let next : suc c.loop-i.i ≡ c.loop-i.i + 1 = omega arith in
    let more : take (c.loop-i.i + 1) ls ≡ take c.loop-i.i ls ++ l ∷ [] =
    ap (λ n. take n ls) (sym next) ∙ take-suc ls c.loop-i.i l c.loop-i-test.true ∙ ap (λ (k : Signed ℕ). take c.loop-i.i ls ++ k ∷ []) (sym c.index-literals-i.is) in
    one_more (take c.loop-i.i ls) (take (c.loop-i.i + 1) ls) l more c.loop-i.invariant (sym c.contains.ensures.value ∙ c.if-contains.false)
