use Rattle.cert_items.proofs.Reading.{none_if}
use Rattle.cert_items.proofs.Origins.{no_inst}
use Rattle.cert_items.proofs.origin.inst.Goals as goal

pub returns-in_err-i-clause-none : goal.returns-in_err-i-clause-none
returns-in_err-i-clause-none c format = none_if _ _ (no_inst format c.args.bytes.now c.in_err-i.ensures.none)
