use Rattle.std.proofs.Common.{◌≡◌, ℕ, ◌++◌, ◌∷◌, [], List, Some, take, sym, ap, ◌∙◌, subst}
use Rattle.std.specs.Prelude.{slice_get}
use Rattle.inst_logic.specs.declared.signed.Signed.{Signed}
use Rattle.prop_logic.specs.Literal.{cited}
use Rattle.cdcl_trail.specs.declared.entry.Entry.{Entry}
use Rattle.cdcl_trail.specs.Propagation.{GivesUnit}
use Rattle.cdcl_core.specs.Analysis.{MarksToo, Resolves}
use Rattle.cdcl_core.proofs.MeetLaws.{on_ok_three}
use Rattle.cdcl_core.proofs.analysis.resolve_fact.Goals as goal

pub returns-clause-resolved : goal.returns-clause-resolved
returns-clause-resolved c =
    let t = c.args.reasons.trail.now.trail in
    let log = c.args.reasons.log.now in
    let i = c.args.place in
    let before = take i t.entries in
    let hint = c.given_by-hint.result in
    let a = c.args.analysis.now in
    let mid = c.list_fact.new.analysis in
    let b = c.take.new.analysis in
    let marks = c.args.seen.now in
    let new = c.take.new.seen in
    let same = c.in_ok-list_fact.ensures in
    on_ok_three c.take.result (b.clause ≡ mid.clause) (b.hints.items ≡ mid.hints.items ++ hint ∷ []) ((d : List (Signed ℕ)) → cited log.added log.steps hint ≡ Some d → MarksToo t d marks new mid.waiting b.waiting)
    ((e : Entry) → slice_get t.entries i ≡ Some e → e.reason ≡ Some c.args.number → Resolves log t i e.lit marks new a b)
    (λ clause hints marked e at reason.
    let why = c.requires.ready.implied i c.args.number e at reason in
    let is = c.literal_at-lit.ensures.literal e at in
    let g = c.given_by-hint.ensures before why.0 why.1 (subst (GivesUnit before why.0) (sym is) why.2) in
    record {
      hint = hint;
      clause = g.0;
      named = g.1;
      unit = subst (GivesUnit before g.0) is g.2;
      same = ap (λ x. x.items) (clause ∙ same.clause);
      hints = hints ∙ ap (λ x. x.items ++ hint ∷ []) same.hints;
      marked = subst (λ o. MarksToo t g.0 marks new o b.waiting) same.waiting (marked g.0 g.1);
    })
    c.take.ensures.clause c.take.ensures.hints c.take.ensures.marked
