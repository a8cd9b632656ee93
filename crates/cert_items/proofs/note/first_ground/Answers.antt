use Rattle.std.proofs.Common.{◌≢◌, arith}
use Rattle.std.proofs.lemmas.Bool.Decides.{nat_tests}
use Rattle.cert_items.proofs.Reading.{none_if}
use Rattle.cert_items.proofs.GroupNotes.{no_first_ground, other_ground}
use Rattle.cert_items.proofs.note.first_ground.Goals as goal

pub returns-in_err-k-clause-none : goal.returns-in_err-k-clause-none
returns-in_err-k-clause-none c = none_if _ _ (no_first_ground c.args.shape c.args.n c.args.bytes.now c.requires.format (λ rest. c.in_err-k.ensures.none c.args.n rest c.ranges.n.fits))

pub returns-then-k-n-clause-none : goal.returns-then-k-n-clause-none
returns-then-k-n-clause-none c =
    let differ : c.in_ok-k.k ≢ c.args.n = (λ e. (let t = c.if-k-n.true in absurd (grind (arith, nat_tests)))) in
    other_ground c.args.shape c.args.n c.in_ok-k.k c.args.bytes.now c.in_ok-k.rest.now c.requires.format c.ranges.n.fits c.in_ok-k.ensures.fits differ c.in_ok-k.ensures.some
