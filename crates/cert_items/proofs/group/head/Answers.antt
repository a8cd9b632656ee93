use Rattle.cert_items.proofs.Reading.{none_if}
use Rattle.cert_items.proofs.Items.{no_role}
use Rattle.cert_items.proofs.group.head.Goals as goal

pub returns-in_err-rest-clause-none : goal.returns-in_err-rest-clause-none
returns-in_err-rest-clause-none c =
    let a = c.in_ok-after in
    let s = c.in_ok-group in
    none_if _ _ (no_role s.group s.n c.args.bytes.now a.after.now s.behind.now a.ensures.some s.ensures.some.0 s.ensures.some.1 c.in_err-rest.ensures.none)
