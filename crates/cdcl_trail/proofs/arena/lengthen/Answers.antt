use Rattle.std.proofs.Common.{◌≡◌, ◌≤◌, ◌++◌, ◌∷◌, [], sym, ap, ◌∙◌, subst, arith}
use Rattle.std.proofs.lemmas.List.{map_push}
use Rattle.std.proofs.lemmas.List.Elements.{All-push}
use Rattle.cdcl_trail.specs.Arena.{clause_at, clauses_at, AreWithin}
use Rattle.cdcl_trail.specs.Clauses.{clause_number}
use Rattle.cdcl_trail.specs.declared.arena.Span.{Span}
use Rattle.cdcl_trail.proofs.ArenaLaws.{number_push_none}
use Rattle.cdcl_trail.proofs.arena.lengthen.Goals as goal

pub loop-spans-preserved : goal.loop-spans-preserved
loop-spans-preserved c =
    let l = c.loop-spans in
    let no : Span = record { start = 1; end = 0 } in
    let e : c.push.new.self.items ≡ l.spans.items ++ no ∷ [] = c.in_ok-push.ensures.items in
    record {
      kept = λ literals k. ap (λ ss. clause_number (clauses_at literals ss) k) e ∙ ap (λ ys. clause_number ys k) (map_push (clause_at literals) l.spans.items no)
          ∙ number_push_none (clauses_at literals l.spans.items) k ∙ l.invariant.kept literals k;
      within = λ size w. subst (AreWithin size) (sym e) (All-push (λ (s : Span). s.end ≤ size) l.spans.items no (l.invariant.within size w) (omega arith));
    }
