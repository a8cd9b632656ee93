use Rattle.cert_items.proofs.Reading.{none_if}
use Rattle.cert_items.proofs.Marked.{other_mark}
use Rattle.cert_items.proofs.number.number_before.Goals as goal

pub returns-in_err-rest-clause-none : goal.returns-in_err-rest-clause-none
returns-in_err-rest-clause-none c =
    let s = c.in_ok-n in
    none_if _ _ (other_mark s.n c.args.byte c.args.bytes.now s.after.now s.ensures.some.0 s.ensures.fits s.ensures.some.1 c.requires c.in_err-rest.ensures.none)
