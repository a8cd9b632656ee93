use Rattle.std.proofs.Common.{◌≡◌, ℕ, ◌++◌, ◌∷◌, [], List, Some, ap, ◌∙◌}
use Rattle.std.specs.Prelude.{slice_get}
use Rattle.inst_logic.specs.declared.signed.Signed.{Signed}
use Rattle.prop_logic.specs.Literal.{cited}
use Rattle.cdcl_trail.specs.declared.entry.Entry.{Entry}
use Rattle.cdcl_core.specs.Analysis.{MarksToo, Resolves}
use Rattle.cdcl_core.proofs.MeetLaws.{on_ok_three}
use Rattle.cdcl_core.proofs.analysis.resolve.Goals as goal

pub returns-clause-resolved : goal.returns-clause-resolved
returns-clause-resolved c =
    let t = c.args.reasons.trail.now.trail in
    let log = c.args.reasons.log.now in
    let i = c.args.place in
    let hint = c.hint_of.result in
    let a = c.args.analysis.now in
    let b = c.take.new.analysis in
    let marks = c.args.seen.now in
    let new = c.take.new.seen in
    on_ok_three c.take.result (b.clause ≡ a.clause) (b.hints.items ≡ a.hints.items ++ hint ∷ []) ((d : List (Signed ℕ)) → cited log.added log.steps hint ≡ Some d → MarksToo t d marks new a.waiting b.waiting)
    ((e : Entry) → slice_get t.entries i ≡ Some e → e.reason ≡ Some c.args.number → Resolves log t i e.lit marks new a b)
    (λ clause hints marked e at reason.
    let why = c.requires.ready.implied i c.args.number e at reason in
    let named = ap (cited log.added log.steps) (c.hint_of.ensures why.1.0 why.1.1) ∙ why.1.2 in
    record {
      hint = hint;
      clause = why.0;
      named = named;
      unit = why.2;
      same = ap (λ x. x.items) clause;
      hints = hints;
      marked = marked why.0 named;
    })
    c.take.ensures.clause c.take.ensures.hints c.take.ensures.marked
