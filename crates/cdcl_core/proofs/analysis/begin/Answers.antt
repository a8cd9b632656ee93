use Rattle.std.proofs.Common.{◌++◌, ◌∷◌, [], false, length, replicate, sym, ap, ◌∙◌, subst}
use Rattle.prop_logic.specs.Literal.{cited}
use Rattle.cdcl_core.specs.Analysis.{AreCounted, AreWaiting}
use Rattle.cdcl_core.proofs.AnalysisLaws.{waiting_none}
use Rattle.cdcl_core.proofs.MeetLaws.{counted_none}
use Rattle.cdcl_core.proofs.analysis.begin.Goals as goal

pub returns-clause-begun : goal.returns-clause-begun
returns-clause-begun c = λ d named.
    let t = c.args.reasons.trail.now.trail in
    let f = c.in_ok-take.ensures in
    let is = c.hint_of.ensures named.0 named.1 in
    let too = f.marked d (ap (cited c.args.reasons.log.now.added c.args.reasons.log.now.steps) is ∙ named.2) in
    let o = c.no_analysis-analysis.result.waiting in
    let n = length c.args.seen.now in
    record {
      clause = ap (λ v. v.items) f.clause ∙ c.no_analysis-analysis.ensures.clause;
      hints = λ h e. f.hints ∙ ap (λ xs. xs ++ c.hint_of.result ∷ []) c.no_analysis-analysis.ensures.hints ∙ ap (λ x. x ∷ []) (c.hint_of.ensures h e);
      marked = too.marked;
      counted = λ i. too.counted i (subst (λ m. AreCounted t i m o.present) (sym c.clear.ensures) (counted_none t i n o.present));
      waiting = λ i. too.waiting i (subst (λ m. AreWaiting t i m o.places) (sym c.clear.ensures) (subst (AreWaiting t i (replicate n false)) (sym c.no_analysis-analysis.ensures.places) (waiting_none t i n)));
    }
