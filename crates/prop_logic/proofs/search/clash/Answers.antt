use Rattle.std.proofs.Common.{[], ◌∷◌, ◌++◌, map, sym, ap, ◌∙◌, subst, arith}
use Rattle.std.specs.Prelude.{Contains}
use Rattle.std.proofs.lemmas.List.Elements.{All-contains}
use Rattle.inst_logic.specs.Signed.{complement}
use Rattle.prop_logic.specs.Solving.{Refutes}
use Rattle.prop_logic.proofs.SearchLaws.{clash_refutes, complement_twice}
use Rattle.prop_logic.proofs.search.clash.Goals as goal

pub returns : goal.returns
returns c = λ n clauses low.
    let assumptions = c.args.assumptions.now in
    let l = c.args.lit in
    let core = c.in_ok-core.core in
    let pair = l ∷ c.complement.result ∷ [] in
    let first : Contains pair (complement (complement l)) = (0, omega arith, sym (complement_twice l)) in
    let second : Contains pair (complement l) = (1, omega arith, c.complement.ensures) in
    let whole = c.in_ok-core.ensures.whole in
    let here : Contains core l = All-contains (λ x. Contains pair (complement x) → Contains core x) assumptions l whole c.requires.lit second in
    let there : Contains core (complement l) = All-contains (λ x. Contains pair (complement x) → Contains core x) assumptions (complement l) whole c.requires.other first in
    let clause = c.in_ok-clause.ensures ∙ ap (map complement) c.as_slice.ensures in
    let grown = c.in_ok-push.ensures.ok ∙ ap (λ ss. ss ++ (record { clause = c.in_ok-clause.clause; hints = c.new.result }) ∷ []) c.new-derivation.ensures ∙ ap (λ f. (record { clause = f; hints = c.new.result }) ∷ []) clause
    ∙ ap (λ hs. (record { clause = map complement core; hints = hs }) ∷ []) c.new.ensures in
    subst (Refutes n clauses assumptions core) (sym grown) (clash_refutes n clauses assumptions core l low c.in_ok-core.ensures.within here there)
