use Rattle.std.proofs.Common.{Some, refl, ap, ◌∙◌, subst}
use Rattle.std.specs.Prelude.{All, ◌≢◌}
use Rattle.prop_logic.specs.declared.literal.Hint.TheVariants.{Added}
use Rattle.prop_logic.specs.Literal.{cited}
use Rattle.cdcl_trail.specs.Trail.{reason_of}
use Rattle.cdcl_core.specs.declared.search.Search.{Search}
use Rattle.cdcl_core.proofs.ForgetLaws.{found_clause, no_reason, forgot}
use Rattle.cdcl_core.proofs.search.Search.forget.Goals as goal

pub detach-requires : goal.detach-requires
detach-requires c =
    let s = c.args.self.now in
    let n = c.args.number in
    let f = found_clause c.get.result s.clauses n c.if-is_none.ensures c.get.ensures in
    let named = c.requires.kept.log.named n f.0 f.1 in
    let is = c.of_packed.ensures ∙ c.cited_clause.ensures.clause f.0 (ap (cited s.log.added s.log.steps) (c.hint_of-hint.ensures named.0 named.1) ∙ named.2) in
    record { reason = no_reason s.trail.trail s.clauses f.0 n c.requires.trail c.requires.kept.given f.1 (subst (λ xs. All (λ l. reason_of s.trail.trail.entries l.atom ≢ Some n) xs) is (c.if-is_reason.ensures refl)) }

pub returns : goal.returns
returns c =
    let s = c.args.self.now in
    let n = c.args.number in
    let f = found_clause c.get.result s.clauses n c.if-is_none.ensures c.get.ensures in
    let named = c.requires.kept.log.named n f.0 f.1 in
    let is = c.of_packed.ensures ∙ c.cited_clause.ensures.clause f.0 (ap (cited s.log.added s.log.steps) (c.hint_of-hint.ensures named.0 named.1) ∙ named.2) in
    let free = no_reason s.trail.trail s.clauses f.0 n c.requires.trail c.requires.kept.given f.1 (subst (λ xs. All (λ l. reason_of s.trail.trail.entries l.atom ≢ Some n) xs) is (c.if-is_reason.ensures refl)) in
    let new : Search = record s { clauses = c.forget.new.self; trail = c.detach.new.self } in
    record {
      same = record {
        kept = forgot s new n c.forget.ensures (λ i e. c.is_step.ensures c.if-not-is_step.false i (c.hint.ensures ∙ c.hint_of-hint.ensures (Added i) e)) free c.detach.ensures.trail c.detach.ensures.attached refl refl refl c.requires.kept;
        trail = c.detach.ensures.trail;
        log = refl;
        assumed = refl;
        checked = refl;
      };
    }
