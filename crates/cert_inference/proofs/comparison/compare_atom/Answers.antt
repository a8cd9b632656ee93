use Rattle.std.proofs.Common.{◌≡◌, ◌∷◌, ◌++◌, [], List, ap, refl, reverse, subst, sym}
use Rattle.unify_core.proofs.Lists.{if_ok}
use Rattle.clause_form.specs.Walks.{numbers_of, on}
use Rattle.clause_form.specs.declared.walk.Leaves.TheVariants.{Led}
use Rattle.cert_inference.specs.Comparisons.{ArePairs, IsStep}
use Rattle.cert_inference.specs.declared.comparison.NodePair.{NodePair}
use Rattle.cert_inference.proofs.ComparisonLaws.{all_pairs, step_trans}
use Rattle.cert_inference.proofs.comparison.compare_atom.Goals as goal

pub compare_all-requires-clause-pairs : goal.compare_all-requires-clause-pairs
compare_all-requires-clause-pairs c =
    let f = c.args.bank.now in
    let bs = c.args.of.now.bindings in
    let empty : reverse c.clear.new.self.items ≡ [] = ap reverse c.clear.ensures.items in
    let next : NodePair = record { node = on c.args.of.now.side c.args.l.now.atom; term = c.args.other.now.atom } in
    all_pairs f (Led bs) (next ∷ reverse c.clear.new.self.items) (reverse c.compare_next.new.pairs.items) (numbers_of c.args.room.now.order.items) (numbers_of c.compare_next.new.order.items) (c.in_ok-compare_next.ensures c.if-not-branch.false [] bs refl)
    (c.requires.node, c.requires.term, subst (ArePairs f) (sym empty) tt)

pub returns : goal.returns
returns c =
    let f = c.args.bank.now in
    let next : NodePair = record { node = on c.args.of.now.side c.args.l.now.atom; term = c.args.other.now.atom } in
    let empty : reverse c.clear.new.self.items ≡ [] = ap reverse c.clear.ensures.items in
    let os = numbers_of c.args.room.now.order.items in
    let ns = numbers_of c.compare_next.new.order.items in
    if_ok _ _ c.compare_all.result c.compare_all.ensures
    (λ r k t rest bs e.
    let qs = reverse c.compare_next.new.pairs.items ++ rest in
    step_trans f (Led bs) (next ∷ rest) qs rest os ns (numbers_of c.compare_all.new.order.items)
    (subst (λ (zs : List NodePair). IsStep f (Led bs) (next ∷ (zs ++ rest)) qs os ns) empty (c.in_ok-compare_next.ensures c.if-not-branch.false rest bs e)) (k t rest bs e))
