use Rattle.cert_items.proofs.Reading.{none_if}
use Rattle.cert_items.proofs.Marked.{no_second}
use Rattle.cert_items.proofs.origin.pair.Goals as goal

pub returns-in_err-n-clause-none : goal.returns-in_err-n-clause-none
returns-in_err-n-clause-none c =
    let s = c.in_ok-m in
    none_if _ _ (no_second s.m c.args.byte c.args.bytes.now s.after.now s.ensures.some s.ensures.fits c.in_err-n.ensures.none)
