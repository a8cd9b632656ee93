use Rattle.std.proofs.Common.{false, ◌≤◌, ℕ, length, arith}
use Rattle.inst_logic.specs.declared.signed.Signed.{Signed}
use Rattle.prop_logic.proofs.ListLaws.{all_more}
use Rattle.cdcl_trail.specs.Propagation.{IsFalseIn}
use Rattle.cdcl_trail.specs.Values.{entries_of}
use Rattle.cdcl_trail.proofs.ScanLaws.{all_past, decided_true}
use Rattle.cdcl_trail.proofs.scan.first_open.Goals as goal

pub loop-lit-preserved : goal.loop-lit-preserved
loop-lit-preserved c =
    let P : Signed ℕ → Type 0 = IsFalseIn (entries_of c.args.values.now) in
    let d : Signed ℕ = record { positive = false; atom = 0 } in
    all_more P c.args.clause.now c.loop-lit.lit-index d (omega arith) c.loop-lit.invariant (decided_true _ _ _ c.is_false.ensures c.if-not-is_false.false)

pub returns-clause-none : goal.returns-clause-none
returns-clause-none c =
    let past : length c.args.clause.now ≤ c.loop-lit.lit-index = omega arith in
    all_past (IsFalseIn (entries_of c.args.values.now)) c.args.clause.now c.loop-lit.lit-index past c.loop-lit.invariant
