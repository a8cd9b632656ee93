use Rattle.std.proofs.Common.{refl}
use Rattle.cert_check.proofs.Differences.{first_difference}
use Rattle.cert_check.proofs.Refutations.{not_true}
use Rattle.cert_check.proofs.difference.different_ids.Goals as goal

pub returns-then-not-same_at : goal.returns-then-not-same_at
returns-then-not-same_at c =
    first_difference c.args.xs.now c.args.ys.now c.loop-i.i c.loop-i.invariant
    (λ e. not_true c.same_at.result c.same_at.result refl c.if-not-same_at.true (c.same_at.ensures.1 e))
