use Rattle.std.proofs.Common.{arith, refl, reverse, subst, sym, List, [], ◌++◌}
use Rattle.std.proofs.lemmas.List.{nil_from_length}
use Rattle.clause_form.specs.Walks.{numbers_of}
use Rattle.clause_form.specs.declared.walk.Leaves.TheVariants.{Led}
use Rattle.cert_inference.specs.Comparisons.{ArePairs, IsStep}
use Rattle.cert_inference.specs.declared.comparison.NodePair.{NodePair}
use Rattle.cert_inference.proofs.ComparisonLaws.{no_step, step_trans, step_done, top_pair, all_pairs}
use Rattle.cert_inference.proofs.comparison.compare_all.Goals as goal

pub loop-init : goal.loop-init
loop-init c rest bs e = no_step c.args.bank.now (Led bs) (reverse c.args.pairs.now.items ++ rest) (numbers_of c.args.order.now.items)

pub returns-in_default : goal.returns-in_default
returns-in_default c t rest bs e =
    step_done c.args.bank.now (Led bs) (reverse c.args.pairs.now.items ++ rest) c.loop.pairs.items rest (numbers_of c.args.order.now.items) (numbers_of c.loop.order.items) (nil_from_length c.loop.pairs.items (let n = c.in_default.ensures.cases.0 in omega arith)) (c.loop.invariant rest bs e)

pub compare_next-requires-clause-node : goal.compare_next-requires-clause-node
compare_next-requires-clause-node c =
    let top = top_pair c.loop.pairs.items c.pop.new.self.items c.in-Some.next c.in-Some.ensures.items in
    (subst (ArePairs c.args.bank.now) top (all_pairs c.args.bank.now (Led c.args.bindings) (reverse c.args.pairs.now.items) (reverse c.loop.pairs.items) _ _ (c.loop.invariant [] c.args.bindings refl) c.requires.pairs)).0

pub compare_next-requires-clause-term : goal.compare_next-requires-clause-term
compare_next-requires-clause-term c =
    let top = top_pair c.loop.pairs.items c.pop.new.self.items c.in-Some.next c.in-Some.ensures.items in
    (subst (ArePairs c.args.bank.now) top (all_pairs c.args.bank.now (Led c.args.bindings) (reverse c.args.pairs.now.items) (reverse c.loop.pairs.items) _ _ (c.loop.invariant [] c.args.bindings refl) c.requires.pairs)).1

pub loop-preserved : goal.loop-preserved
loop-preserved c rest bs e =
    let f = c.args.bank.now in
    let top = top_pair c.loop.pairs.items c.pop.new.self.items c.in-Some.next c.in-Some.ensures.items in
    let ns = numbers_of c.loop.order.items in
    let ms = numbers_of c.compare_next.new.order.items in
    let qs = reverse c.loop.pairs.items ++ rest in
    let rs = reverse c.compare_next.new.pairs.items ++ rest in
    let next = subst (λ (zs : List NodePair). IsStep f (Led bs) (zs ++ rest) rs ns ms) (sym top) (c.in_ok-compare_next.ensures c.if-not-branch.false rest bs e) in
    step_trans f (Led bs) (reverse c.args.pairs.now.items ++ rest) qs rs (numbers_of c.args.order.now.items) ns ms (c.loop.invariant rest bs e) next
