use Rattle.std.proofs.Common.{sym}
use Rattle.std.specs.Prelude.{slice_get}
use Rattle.std.proofs.lemmas.Result.{IfOk-weaker}
use Rattle.cert_front.proofs.Differing.{ids_at, input_there, no_input_there}
use Rattle.cert_front.proofs.difference.same_at.Goals as goal

pub stands_for_at-requires-clause-ids : goal.stands_for_at-requires-clause-ids
stands_for_at-requires-clause-ids c = ids_at c.args.bank.now c.args.inputs.now c.requires.inputs c.args.i c.in-Some.ids.now (sym c.in-Some.ensures)

pub returns-in-Some-clause-same : goal.returns-in-Some-clause-same
returns-in-Some-clause-same c =
    IfOk-weaker c.stands_for_at.result _ _
    (λ b h. input_there c.args.bank.now c.in-Some.ids.now (slice_get c.args.inputs.now c.args.i) (slice_get c.args.clauses.now c.args.i) c.in-Some.ensures b h)
    c.stands_for_at.ensures.same

pub returns-in-None-clause-same : goal.returns-in-None-clause-same
returns-in-None-clause-same c =
    no_input_there c.args.bank.now (slice_get c.args.inputs.now c.args.i) (slice_get c.args.clauses.now c.args.i) c.in-None.ensures c.ends_before.result c.ends_before.ensures
