use Rattle.std.proofs.Common.{◌≡◌, ◌≤◌, ◌-◌, length, ap, ◌∙◌, arith}
use Rattle.std.proofs.lemmas.List.{map-set, length-map}
use Rattle.cdcl_trail.specs.Arena.{clause_at, clauses_at}
use Rattle.cdcl_trail.specs.Clauses.{clause_number}
use Rattle.cdcl_trail.proofs.ArenaLaws.{number_set, number_set_other, clauses_more}
use Rattle.cdcl_trail.proofs.arena.Arena.keep.Goals as goal

pub returns-clause-here : goal.returns-clause-here
returns-clause-here c =
    let n = c.args.n in
    let ls = c.push_span.new.literals.items in
    let spans = c.lengthen.new.spans.items in
    let low : n ≤ length (clauses_at ls spans) = omega (arith, c.in_ok-lengthen.ensures.longer, length-map spans (clause_at ls)) in
    ap (λ ys. clause_number ys n) (map-set (clause_at ls) spans (n - 1) c.in_ok-span.span) ∙ number_set (clauses_at ls spans) n (clause_at ls c.in_ok-span.span) c.if-n-eq0.false low ∙ c.in_ok-span.ensures.here

pub returns-clause-others : goal.returns-clause-others
returns-clause-others c k d =
    let s = c.self.inside in
    let n = c.args.n in
    let ls = c.push_span.new.literals.items in
    let spans = c.lengthen.new.spans.items in
    let old : clauses_at ls spans ≡ clauses_at s.literals.items spans =
    ap (λ xs. clauses_at xs spans) c.in_ok-span.ensures.items ∙ clauses_more s.literals.items c.args.clause.now spans (c.in_ok-lengthen.ensures.within (length s.literals.items) c.self.invariant) in
    ap (λ ys. clause_number ys k) (map-set (clause_at ls) spans (n - 1) c.in_ok-span.span) ∙ number_set_other (clauses_at ls spans) n k (clause_at ls c.in_ok-span.span) c.if-n-eq0.false d
    ∙ ap (λ ys. clause_number ys k) old ∙ c.in_ok-lengthen.ensures.kept s.literals.items k ∙ ap (λ ys. clause_number ys k) c.self.view_is
