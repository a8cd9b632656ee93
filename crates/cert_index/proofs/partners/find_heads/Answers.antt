use Rattle.std.proofs.Common.{ℕ, ◌<◌, List, subst, sym, rules}
use Rattle.cert_index.specs.Partners.{Head, IsHeadOf, head_at}
use Rattle.cert_index.proofs.HeadLaws.{all_apart, one_more_head}
use Rattle.cert_index.proofs.partners.find_heads.Goals as goal

pub loop-i-preserved : goal.loop-i-preserved
loop-i-preserved c = record {
  count = search rules;
  each = λ k less. subst (λ (hs : List Head). IsHeadOf c.args.cert.now k (head_at hs k)) (sym c.in_ok-push.ensures.items)
      (one_more_head c.args.cert.now c.loop-i.heads.items c.loop-i.i c.head-head.result c.loop-i.invariant.count c.loop-i.invariant.each c.head-head.ensures k less);
}

pub returns-clause-heads : goal.returns-clause-heads
returns-clause-heads c = subst (λ n. (k : ℕ) → k < n → IsHeadOf c.args.cert.now k (head_at c.loop-i.heads.items k)) (sym c.loop-i.invariant.count) c.loop-i.invariant.each

pub returns-clause-apart : goal.returns-clause-apart
returns-clause-apart c = all_apart c.args.cert.now c.loop-i.heads.items (subst (λ n. (k : ℕ) → k < n → IsHeadOf c.args.cert.now k (head_at c.loop-i.heads.items k)) (sym c.loop-i.invariant.count) c.loop-i.invariant.each)
