use Rattle.std.proofs.Common.{ℕ, false, ◌≡◌, ◌⊎◌, get_or, take, subst}
use Rattle.std.specs.Prelude.{All, Contains}
use Rattle.std.proofs.lemmas.List.{take_all}
use Rattle.std.proofs.lemmas.List.Elements.{All-more, All-weaker}
use Rattle.std.proofs.lemmas.Option.{slice_get-get_or}
use Rattle.inst_logic.specs.declared.signed.Signed.{Signed}
use Rattle.prop_logic.proofs.ListLaws.{Contains-slice_get}
use Rattle.prop_logic.proofs.PlainLaws.{either_map, added_from}
use Rattle.prop_logic.proofs.resolution.add_others.Goals as goal

pub loop-lit-preserved : goal.loop-lit-preserved
loop-lit-preserved c =
    let xs = c.args.literals.now in
    let i = c.loop-lit.lit-index in
    let d : Signed ℕ = record { positive = false; atom = 0 } in
    let old = c.loop-lit.clause in
    let new = c.add_other.new.clause in
    let step = c.in_ok-add_other.ensures in
    let v = c.loop-lit.invariant in
    record {
      kept = λ m inside. step.kept m (v.kept m inside);
      added = All-more (λ m. (m.atom ≡ c.args.atom) ⊎ Contains new m) xs i d c.loop-lit-test.true
          (All-weaker (λ m. (m.atom ≡ c.args.atom) ⊎ Contains old m) (λ m. (m.atom ≡ c.args.atom) ⊎ Contains new m) (λ m h. either_map h (step.kept m)) (take i xs) v.added) step.added;
      from = λ m inside. added_from xs (get_or xs i d) m c.args.atom (Contains-slice_get xs i (get_or xs i d) (slice_get-get_or xs i d c.loop-lit-test.true)) (v.from m) (step.from m inside);
    }

pub returns-clause-added : goal.returns-clause-added
returns-clause-added c = subst (λ xs. All (λ m. (m.atom ≡ c.args.atom) ⊎ Contains c.loop-lit.clause m) xs) (take_all c.loop-lit.lit-index c.args.literals.now c.loop-lit-test.false) c.loop-lit.invariant.added
