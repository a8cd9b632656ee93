use Rattle.std.proofs.Common.{add-one, arith}
use Rattle.cert_check.proofs.DueLaws.{all_compared, first_spare_cover, first_wrong_cover}
use Rattle.cert_check.proofs.compare.wrong_cover.Goals as goal

pub returns-then-progress : goal.returns-then-progress
returns-then-progress c v count ds due h = rw add-one (first_wrong_cover v c.args.progress ds h due c.if-progress.true)

pub returns-then-progress-covers : goal.returns-then-progress-covers
returns-then-progress-covers c v count ds due h = rw add-one (first_spare_cover v c.args.progress ds h due c.if-progress.false (omega (arith, count, c.if-progress-covers.true)))

pub returns : goal.returns
returns c v count ds due h = all_compared v c.args.progress ds h due c.if-progress.false (omega (arith, count, c.if-progress-covers.false))
