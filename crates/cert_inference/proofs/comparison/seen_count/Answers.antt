use Rattle.std.proofs.Common.{◌≡◌, ◌+◌, ◌++◌, ℕ, length, drop, arith, subst}
use Rattle.clause_form.specs.declared.walk.Leaves.TheVariants.{Led}
use Rattle.cert_inference.specs.Comparisons.{IsStep, pairs_of}
use Rattle.cert_inference.proofs.ComparisonLaws.{no_step, step_pair}
use Rattle.cert_inference.proofs.comparison.seen_count.Goals as goal

pub loop-count-init : goal.loop-count-init
loop-count-init c rest os bs e = no_step c.args.bank.now (Led bs) (pairs_of c.args.side c.args.nodes.now c.args.terms.now ++ rest) os

pub loop-count-preserved : goal.loop-count-preserved
loop-count-preserved c rest os bs e =
    let ns = c.args.nodes.now in
    let ts = c.args.terms.now in
    let i = c.loop-count.count in
    step_pair c.args.bank.now (Led bs) c.args.side ns ts i c.index-nodes-count.result c.index-terms-count.result (pairs_of c.args.side ns ts ++ rest) rest os os os (omega arith) c.requires.counted c.index-nodes-count.is c.index-terms-count.is
    (c.loop-count.invariant rest os bs e)
    (c.leads_to_ground.ensures c.if-not-leads_to_ground.false (pairs_of c.args.side (drop (i + 1) ns) (drop (i + 1) ts) ++ rest) os bs e)

pub returns-clause-seen : goal.returns-clause-seen
returns-clause-seen c rest os bs e =
    let ns = c.args.nodes.now in
    let ts = c.args.terms.now in
    let end : c.loop-count.count ≡ length ns = omega (arith, c.loop-count.auto.count-end, c.loop-count-test.false) in
    subst (λ (n : ℕ). IsStep c.args.bank.now (Led bs) (pairs_of c.args.side ns ts ++ rest) (pairs_of c.args.side (drop n ns) (drop n ts) ++ rest) os os) end (c.loop-count.invariant rest os bs e)
