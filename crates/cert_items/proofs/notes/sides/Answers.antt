use Rattle.cert_values.specs.Values.{side_of}
use Rattle.cert_items.proofs.Reading.{none_if}
use Rattle.cert_items.proofs.Covering.{no_word, no_list}
use Rattle.cert_items.proofs.notes.sides.Goals as goal

pub returns-in_err-side-clause-none : goal.returns-in_err-side-clause-none
returns-in_err-side-clause-none c =
    let s = c.in_ok-left in
    none_if _ _ (no_word c.args.bytes.now s.after.now s.left s.right s.ensures.some s.ensures.fits.0 s.ensures.fits.1 c.in_err-side.ensures.none)

pub returns-in_err-rest-clause-none : goal.returns-in_err-rest-clause-none
returns-in_err-rest-clause-none c =
    let s = c.in_ok-left in
    let d = c.in_ok-side in
    none_if _ _ (no_list c.args.bytes.now s.after.now s.left s.right s.ensures.some s.ensures.fits.0 s.ensures.fits.1 (side_of d.side) d.behind.now d.ensures.some c.in_err-rest.ensures.none)
