use Rattle.std.proofs.Common.{◌≡◌, ◌+◌, None, Some, get_or, sym, ap, ◌∙◌, subst}
use Rattle.cdcl_trail.specs.Clauses.{AddsClause}
use Rattle.cdcl_trail.proofs.ClausesLaws.{adds}
use Rattle.cdcl_trail.proofs.clauses.Clauses.add.Goals as goal

pub returns-clause-number : goal.returns-clause-number
returns-clause-number c =
    let old = c.self.inside.clauses.slots in
    let new = c.insert.new.self.slots in
    let key = c.in_ok-insert.field-0 in
    let e = c.in_ok-insert.ensures in
    let number : key + 1 ≡ c.vacant_key-key.result + 1 = ap (λ n. n + 1) (e.key ∙ sym c.vacant_key-key.ensures.value) in
    let stored : get_or new key None ≡ Some c.args.c.now = e.updates.changed ∙ ap Some (c.from-copy.ensures ∙ c.in_ok-from_slice.ensures.items) in
    subst (λ s. AddsClause s new c.args.c.now (c.vacant_key-key.result + 1)) c.self.view_is
    (subst (AddsClause old new c.args.c.now) number (adds old new c.args.c.now key e.was_vacant stored e.updates.others (λ none. e.key ∙ c.self.invariant none)))
