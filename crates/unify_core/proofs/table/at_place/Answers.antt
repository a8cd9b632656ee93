use Rattle.std.proofs.Common.{sym, ◌∙◌, get_or, arith}
use Rattle.std.proofs.lemmas.Option.{get_or_from_slice_get}
use Rattle.unify_core.specs.Passed.{no_binding}
use Rattle.unify_core.proofs.Tables.{none_far, none_past, none_here, some_here}
use Rattle.unify_core.proofs.table.at_place.Goals as goal

pub returns-then-n-places : goal.returns-then-n-places
returns-then-n-places c = none_far c.args.bound.now c.args.places.now c.args.n c.args.x c.requires.places c.requires.number c.requires.small (omega arith)

pub returns-then-place-bound : goal.returns-then-place-bound
returns-then-place-bound c = none_past c.args.bound.now c.args.places.now c.args.n c.args.x c.requires.places c.requires.number c.requires.small (omega arith)

pub returns-then-eq : goal.returns-then-eq
returns-then-eq c =
    some_here c.args.bound.now c.args.places.now c.args.n c.args.x c.entry_at-entry.result c.requires.places c.requires.number c.requires.small (omega arith)
    (get_or_from_slice_get c.args.bound.now (get_or c.args.places.now c.args.n 0) c.entry_at-entry.result no_binding c.entry_at-entry.ensures) (sym c.eq.ensures ∙ c.if-eq.true)

pub returns-else-eq : goal.returns-else-eq
returns-else-eq c =
    none_here c.args.bound.now c.args.places.now c.args.n c.args.x c.entry_at-entry.result c.requires.places c.requires.number c.requires.small
    (get_or_from_slice_get c.args.bound.now (get_or c.args.places.now c.args.n 0) c.entry_at-entry.result no_binding c.entry_at-entry.ensures) (sym c.eq.ensures ∙ c.if-eq.false)
