use Rattle.std.proofs.Common.{◌↔◌, IsTrue, arith}
use Rattle.std.proofs.lemmas.Result.{IfOk-weaker}
use Rattle.inst_logic.specs.Clauses.{Subsumes}
use Rattle.term_bank.specs.Forest.{clause_at}
use Rattle.instgen_run.specs.Clauses.{IsSought}
use Rattle.instgen_run.proofs.Covers.{shorter_here}
use Rattle.instgen_run.proofs.entries.is_shorter_part.Goals as goal

pub returns-then-len-sought : goal.returns-then-len-sought
returns-then-len-sought g c =
    let e = c.args.entries.now in
    let s = c.args.sought.now in
    IfOk-weaker c.subsumes.result (λ r. IsTrue r ↔ Subsumes (clause_at e.bank c.in-Some.e.now) (clause_at e.bank s.clause.now)) (λ r. IsTrue r ↔ IsSought e s c.args.k)
    (λ r h. shorter_here e.bank e.clauses.entries s.clause.now s.len c.args.k c.in-Some.e.now c.in-Some.field-0-1.now (λ e. omega arith) c.in-Some.ensures.entry (omega (arith, c.len.ensures)) r h) c.subsumes.ensures
