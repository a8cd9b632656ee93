use Rattle.cert_items.proofs.Reading.{none_if}
use Rattle.cert_items.proofs.Covering.{no_left, no_letter, no_right}
use Rattle.cert_items.proofs.notes.members.Goals as goal

pub returns-in_err-left-clause-none : goal.returns-in_err-left-clause-none
returns-in_err-left-clause-none c =
    let a = c.in_ok-first in
    none_if _ _ (no_left c.args.bytes.now a.first.now a.ensures.some c.in_err-left.ensures.none)

pub returns-in_err-second-clause-none : goal.returns-in_err-second-clause-none
returns-in_err-second-clause-none c =
    let a = c.in_ok-first in
    let s = c.in_ok-left in
    none_if _ _ (no_letter c.args.bytes.now a.first.now a.ensures.some s.left s.behind.now s.ensures.some s.ensures.fits c.in_err-second.ensures.none)

pub returns-in_err-right-clause-none : goal.returns-in_err-right-clause-none
returns-in_err-right-clause-none c =
    let a = c.in_ok-first in
    let s = c.in_ok-left in
    let m = c.in_ok-second in
    none_if _ _ (no_right c.args.bytes.now a.first.now a.ensures.some s.left s.behind.now s.ensures.some s.ensures.fits m.second.now m.ensures.some c.in_err-right.ensures.none)
