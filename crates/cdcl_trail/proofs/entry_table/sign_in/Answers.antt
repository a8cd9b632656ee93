use Rattle.std.proofs.Common.{Some, None, refl, ap}
use Rattle.cdcl_trail.specs.Slots.{entry_by}
use Rattle.cdcl_trail.proofs.entry_table.sign_in.Goals as goal

pub returns-in-Decided-clause-some : goal.returns-in-Decided-clause-some
returns-in-Decided-clause-some c =
    let s = c.args.slot in
    (record { lit = record { positive = s.positive; atom = s.atom }; level = s.level; reason = None }, ap (λ state. entry_by state s) c.in-Decided.is, refl)

pub returns-in-Implied-clause-some : goal.returns-in-Implied-clause-some
returns-in-Implied-clause-some c =
    let s = c.args.slot in
    (record { lit = record { positive = s.positive; atom = s.atom }; level = s.level; reason = Some s.reason }, ap (λ state. entry_by state s) c.in-Implied.is, refl)
