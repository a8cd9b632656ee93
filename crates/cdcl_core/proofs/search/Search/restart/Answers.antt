use Rattle.std.proofs.Common.{arith}
use Rattle.cdcl_core.proofs.BackLaws.{back_from}
use Rattle.cdcl_core.proofs.search.Search.restart.Goals as goal

pub returns-clause-back : goal.returns-clause-back
returns-clause-back c =
    let b = c.back_to.ensures in
    back_from c.args.self.now c.back_to.new.self c.min-level.result b.right (omega (arith, c.min-level.ensures, c.level.ensures)) b.trail b.kept b.assumed b.checked b.log
