use Rattle.cert_items.proofs.Reading.{none_if}
use Rattle.cert_items.proofs.Origins.{no_partner, no_other}
use Rattle.cert_items.proofs.origin.read_instance.Goals as goal

pub returns-in_err-second-clause-none : goal.returns-in_err-second-clause-none
returns-in_err-second-clause-none c =
    let s = c.in_ok-from in
    none_if _ _ (no_partner s.from s.place c.args.byte c.args.bytes.now s.after.now s.ensures.some s.ensures.fits.0 s.ensures.fits.1 c.in_err-second.ensures.none)

pub returns-in_err-partner-clause-none : goal.returns-in_err-partner-clause-none
returns-in_err-partner-clause-none c =
    let s = c.in_ok-from in
    none_if _ _ (no_other s.from s.place c.args.byte c.args.bytes.now s.after.now c.in_ok-second.second.now s.ensures.some s.ensures.fits.0 s.ensures.fits.1 c.in_ok-second.ensures.some c.in_err-partner.ensures.none)
