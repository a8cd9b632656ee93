use Rattle.std.proofs.Common.{sym, ◌∙◌, arith}
use Rattle.std.proofs.lemmas.Option.{get_or_from_slice_get}
use Rattle.unify_core.specs.Passed.{no_binding}
use Rattle.unify_core.proofs.Tables.{along_found, along_next, along_end}
use Rattle.unify_core.proofs.table.along.Goals as goal

pub returns-then-eq : goal.returns-then-eq
returns-then-eq c =
    along_found c.args.bound.now c.loop-i.i c.args.x c.entry_at-entry.result (omega arith)
    (get_or_from_slice_get c.args.bound.now c.loop-i.i c.entry_at-entry.result no_binding c.entry_at-entry.ensures) c.loop-i.invariant (sym c.eq.ensures ∙ c.if-eq.true)

pub loop-i-preserved : goal.loop-i-preserved
loop-i-preserved c =
    along_next c.args.bound.now c.loop-i.i c.args.x c.entry_at-entry.result (omega arith)
    (get_or_from_slice_get c.args.bound.now c.loop-i.i c.entry_at-entry.result no_binding c.entry_at-entry.ensures) c.loop-i.invariant (sym c.eq.ensures ∙ c.if-eq.false)

pub returns : goal.returns
returns c = along_end c.args.bound.now c.loop-i.i c.args.x (omega arith) c.loop-i.invariant
