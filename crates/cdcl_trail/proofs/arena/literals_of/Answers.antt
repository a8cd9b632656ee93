use Rattle.std.proofs.Common.{sym, ◌∙◌, arith}
use Rattle.cdcl_trail.specs.declared.arena.Span.{Span}
use Rattle.cdcl_trail.proofs.ArenaLaws.{at_number, clause_none, clause_some}
use Rattle.cdcl_trail.proofs.arena.literals_of.Goals as goal

pub returns-then-span : goal.returns-then-span
returns-then-span c =
    let d : Span = record { start = 0; end = 0 } in
    sym (at_number c.args.literals.now c.args.spans.now c.args.n d c.if-n-eq0.false (omega (arith, c.if-spans-n.false)) ∙ clause_none c.args.literals.now _ c.if-span.true)

pub returns : goal.returns
returns c =
    let d : Span = record { start = 0; end = 0 } in
    sym (at_number c.args.literals.now c.args.spans.now c.args.n d c.if-n-eq0.false (omega (arith, c.if-spans-n.false)) ∙ clause_some c.args.literals.now _ c.if-span.false)
