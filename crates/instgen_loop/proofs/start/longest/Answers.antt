use Rattle.std.proofs.Common.{◌<◌, ◌≤◌, ℕ, List, All, length, take, sym, arith, subst}
use Rattle.std.proofs.lemmas.List.{take_all}
use Rattle.std.proofs.lemmas.Option.{get_or_from_slice_get}
use Rattle.inst_logic.specs.declared.signed.Signed.{Signed}
use Rattle.prop_logic.proofs.ListLaws.{all_more}
use Rattle.instgen_loop.proofs.FirstEntries.{bounds_grow}
use Rattle.instgen_loop.proofs.start.longest.Goals as goal

pub loop-i-preserved : goal.loop-i-preserved
loop-i-preserved c =
    let xs = c.args.clauses.now in
    let i = c.loop-i.i in
    let d = c.literals_after.result.now in
    let n = c.greater-longest.result in
    record {
      least = omega (arith, c.greater-longest.ensures.first, c.loop-i.invariant.least);
      each = all_more (λ (d : List (Signed ℕ)). length d ≤ n) xs i d (subst (λ n. i < n) c.len-i-end.ensures c.loop-i-test.true)
          (bounds_grow (take i xs) c.loop-i.longest n c.greater-longest.ensures.first c.loop-i.invariant.each)
          (subst (λ (d : List (Signed ℕ)). length d ≤ n) (sym (get_or_from_slice_get xs i d d c.literals_after.ensures)) (omega (arith, c.greater-longest.ensures.second)));
    }

pub returns-clause-each : goal.returns-clause-each
returns-clause-each c = subst (All (λ (d : List (Signed ℕ)). length d ≤ c.loop-i.longest)) (take_all c.loop-i.i c.args.clauses.now (omega arith)) c.loop-i.invariant.each
