use Rattle.std.proofs.Common.{◌≡◌, ◌++◌, ◌∷◌, [], ℕ, List, Option, sym, ap, ap₂, ◌∙◌}
use Rattle.std.specs.Prelude.{option_copied}
use Rattle.std.proofs.lemmas.List.{map_push}
use Rattle.inst_logic.specs.declared.signed.Signed.{Signed}
use Rattle.cdcl_trail.specs.Arena.{clause_at, clauses_at}
use Rattle.cdcl_trail.proofs.ArenaLaws.{clauses_more}
use Rattle.cdcl_trail.proofs.arena.Arena.push.Goals as goal

pub returns : goal.returns
returns c =
    let s = c.self.inside in
    let e = c.in_ok-span.ensures in
    let ls = c.push_copied.new.literals.items in
    let old : clauses_at ls s.spans.items ≡ c.args.self.now =
    ap (λ xs. clauses_at xs s.spans.items) e.items ∙ clauses_more s.literals.items c.in-Some.clause.now s.spans.items c.self.invariant ∙ c.self.view_is in
    let last : clause_at ls c.in_ok-span.span ≡ option_copied c.args.clause = e.here ∙ sym (ap option_copied c.in-Some.is) in
    ap (clauses_at ls) c.in_ok-push-2.ensures.items ∙ map_push (clause_at ls) s.spans.items c.in_ok-span.span ∙ ap₂ (λ (ys : List (Option (List (Signed ℕ)))) (o : Option (List (Signed ℕ))). ys ++ o ∷ []) old last
