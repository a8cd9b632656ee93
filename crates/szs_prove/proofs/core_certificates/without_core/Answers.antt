use Rattle.szs_prove.proofs.CoreRests.{without_core}
use Rattle.szs_prove.proofs.core_certificates.without_core.Goals as goal

pub returns-in-Ok : goal.returns-in-Ok
returns-in-Ok c = without_core c.args.lists.now c.in-Ok.saturation c.requires c.in-Ok.ensures
