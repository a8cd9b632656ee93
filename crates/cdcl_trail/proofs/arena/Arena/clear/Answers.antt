use Rattle.std.proofs.Common.{◌≡◌, ◌≤◌, ◌-◌, None, length, set, ap, ◌∙◌, subst, arith}
use Rattle.std.proofs.lemmas.List.{map-set, length-map}
use Rattle.cdcl_trail.specs.Arena.{clause_at, clauses_at}
use Rattle.cdcl_trail.specs.Clauses.{clause_number, RemovesClause}
use Rattle.cdcl_trail.specs.declared.arena.Span.{Span}
use Rattle.cdcl_trail.proofs.ArenaLaws.{number_set, number_set_other}
use Rattle.cdcl_trail.proofs.arena.Arena.clear.Goals as goal

pub returns : goal.returns
returns c =
    let s = c.self.inside in
    let n = c.args.n in
    let no : Span = record { start = 1; end = 0 } in
    let xs = clauses_at s.literals.items s.spans.items in
    let low : n ≤ length xs = omega (arith, c.if-len-n.false, c.len.ensures, s.spans.ok.0, length-map s.spans.items (clause_at s.literals.items)) in
    let is : clauses_at s.literals.items (set s.spans.items (n - 1) no) ≡ set xs (n - 1) None = map-set (clause_at s.literals.items) s.spans.items (n - 1) no in
    subst (λ old. RemovesClause old (clauses_at s.literals.items (set s.spans.items (n - 1) no)) n) c.self.view_is
    (record {
      removed = ap (λ ys. clause_number ys n) is ∙ number_set xs n None c.if-n-eq0.false low;
      others = λ k d. ap (λ ys. clause_number ys k) is ∙ number_set_other xs n k None c.if-n-eq0.false d;
    })
