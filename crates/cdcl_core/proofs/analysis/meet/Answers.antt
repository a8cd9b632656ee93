use Rattle.std.proofs.Common.{◌≡◌, ◌+◌, ◌<◌, ◌++◌, ◌∷◌, [], Some, false, refl, sym, ap, ◌∙◌, subst}
use Rattle.std.specs.Prelude.{slice_get}
use Rattle.inst_logic.specs.Signed.{complement}
use Rattle.prop_logic.proofs.ListLaws.{Contains-slice_get, All-slice_get}
use Rattle.cdcl_trail.specs.declared.entry.Entry.{Entry}
use Rattle.cdcl_trail.specs.Trail.{IsDecision}
use Rattle.cdcl_core.specs.declared.analysis.Analysis.{Analysis}
use Rattle.cdcl_core.specs.declared.analysis.Waiting.{Waiting}
use Rattle.cdcl_core.specs.Analysis.{IsMarked, AreCounted, AreWaiting, Resolves, IsMet}
use Rattle.cdcl_core.proofs.AnalysisLaws.{below_decided, below_unique}
use Rattle.cdcl_core.proofs.EntryLaws.{entry_at}
use Rattle.cdcl_core.proofs.MeetLaws.{level_read, reason_read, on_ok, on_ok_three, met_kept, met_resolved}
use Rattle.cdcl_core.proofs.analysis.meet.Goals as goal

pub returns-in-None-clause-met : goal.returns-in-None-clause-met
returns-in-None-clause-met c =
    let t = c.args.reasons.trail.now.trail in
    let v = c.requires.ready.trail in
    let a = c.args.analysis.now in
    let i = c.args.place in
    let marks = c.args.seen.now in
    let f = entry_at t.entries i (record { positive = false; atom = 0 }) c.requires.place in
    let e = f.0 in
    let inside = Contains-slice_get t.entries i e f.1 in
    let is = c.literal_at-lit.ensures.literal e f.1 in
    let mark = c.requires.marked e f.1 in
    let level = level_read t e c.literal_at-lit.result c.level_of.result c.unwrap_or-level.result v inside is c.level_of.ensures c.unwrap_or-level.ensures in
    let counted = c.count_met.ensures i e marks f.1 mark level c.requires.met.counted in
    let chosen = reason_read t e c.literal_at-lit.result c.reason.result v inside is c.reason.ensures ∙ c.in-None.is in
    let high = All-slice_get (λ d. IsDecision d → 0 < d.level) t.entries v.above i e f.1 chosen in
    let was : Waiting = record { present = c.count_met.new.present; places = a.waiting.places } in
    let b = c.keep.new.analysis in
    on_ok_three c.keep.result (b.clause.items ≡ a.clause.items ++ complement c.literal_at-lit.result ∷ []) (b.hints ≡ a.hints) (b.waiting ≡ was) (IsMet c.args.reasons.log.now t i marks b)
    (λ grown same waiting. met_kept c.args.reasons.log.now t i e marks a b f.1 mark high (λ none. below_decided t i e marks v f.1 chosen)
    (grown ∙ ap (λ l. a.clause.items ++ complement l ∷ []) is) (ap (λ x. x.items) same) (subst (λ o. AreCounted t i marks o.present) (sym waiting) counted) c.requires.met)
    c.keep.ensures.clause c.keep.ensures.hints c.keep.ensures.waiting

pub returns-then-remains-clause-met : goal.returns-then-remains-clause-met
returns-then-remains-clause-met c =
    let t = c.args.reasons.trail.now.trail in
    let v = c.requires.ready.trail in
    let a = c.args.analysis.now in
    let i = c.args.place in
    let marks = c.stays-remains.new.seen in
    let back = sym c.stays-remains.ensures.same in
    let met = subst (λ m. IsMet c.args.reasons.log.now t (i + 1) m a) back c.requires.met in
    let f = entry_at t.entries i (record { positive = false; atom = 0 }) c.requires.place in
    let e = f.0 in
    let inside = Contains-slice_get t.entries i e f.1 in
    let is = c.literal_at-lit.ensures.literal e f.1 in
    let mark = subst (λ m. IsMarked m e.lit.atom) back (c.requires.marked e f.1) in
    let n = c.unwrap_or-level.result in
    let level = level_read t e c.literal_at-lit.result c.level_of.result n v inside is c.level_of.ensures c.unwrap_or-level.ensures in
    let counted = c.count_met-in-Some.ensures i e marks f.1 mark level met.counted in
    let remains = c.stays-remains.ensures.stays c.if-remains.true in
    let was : Waiting = record { present = c.count_met-in-Some.new.present; places = a.waiting.places } in
    let b = c.keep-then-remains.new.analysis in
    on_ok_three c.keep-then-remains.result (b.clause.items ≡ a.clause.items ++ complement c.literal_at-lit.result ∷ []) (b.hints ≡ a.hints) (b.waiting ≡ was) (IsMet c.args.reasons.log.now t i marks b)
    (λ grown same waiting. met_kept c.args.reasons.log.now t i e marks a b f.1 mark (subst (λ k. 0 < k) (sym level) remains.0)
    (λ none. let r = remains.1 none in below_unique t i e marks a.waiting.present v f.1 mark (level ∙ r.0) r.1 met.counted)
    (grown ∙ ap (λ l. a.clause.items ++ complement l ∷ []) is) (ap (λ x. x.items) same) (subst (λ o. AreCounted t i marks o.present) (sym waiting) counted) met)
    c.keep-then-remains.ensures.clause c.keep-then-remains.ensures.hints c.keep-then-remains.ensures.waiting

pub returns-else-remains-clause-met : goal.returns-else-remains-clause-met
returns-else-remains-clause-met c =
    let t = c.args.reasons.trail.now.trail in
    let log = c.args.reasons.log.now in
    let v = c.requires.ready.trail in
    let a = c.args.analysis.now in
    let i = c.args.place in
    let marks = c.stays-remains.new.seen in
    let back = sym c.stays-remains.ensures.same in
    let met = subst (λ m. IsMet c.args.reasons.log.now t (i + 1) m a) back c.requires.met in
    let f = entry_at t.entries i (record { positive = false; atom = 0 }) c.requires.place in
    let e = f.0 in
    let inside = Contains-slice_get t.entries i e f.1 in
    let is = c.literal_at-lit.ensures.literal e f.1 in
    let mark = subst (λ m. IsMarked m e.lit.atom) back (c.requires.marked e f.1) in
    let n = c.unwrap_or-level.result in
    let k = c.in-Some.number in
    let level = level_read t e c.literal_at-lit.result c.level_of.result n v inside is c.level_of.ensures c.unwrap_or-level.ensures in
    let counted = c.count_met-in-Some.ensures i e marks f.1 mark level met.counted in
    let reason = reason_read t e c.literal_at-lit.result c.reason.result v inside is c.reason.ensures ∙ c.in-Some.is in
    let was : Analysis = record a { waiting = record { present = c.count_met-in-Some.new.present; places = a.waiting.places } } in
    let new = c.resolve.new.seen in
    let b = c.resolve.new.analysis in
    on_ok c.resolve.result ((d : Entry) → slice_get t.entries i ≡ Some d → d.reason ≡ Some k → Resolves log t i d.lit marks new was b) (IsMet log t i new b)
    (λ resolved. met_resolved log t i e marks new a was b c.requires.ready f.1 mark counted refl refl (resolved e f.1 reason) met) c.resolve.ensures.resolved

pub returns-else-remains-clause-waiting : goal.returns-else-remains-clause-waiting
returns-else-remains-clause-waiting c =
    let t = c.args.reasons.trail.now.trail in
    let log = c.args.reasons.log.now in
    let a = c.args.analysis.now in
    let i = c.args.place in
    let marks = c.stays-remains.new.seen in
    let back = sym c.stays-remains.ensures.same in
    let f = entry_at t.entries i (record { positive = false; atom = 0 }) c.requires.place in
    let e = f.0 in
    let is = c.literal_at-lit.ensures.literal e f.1 in
    let k = c.in-Some.number in
    let reason = reason_read t e c.literal_at-lit.result c.reason.result c.requires.ready.trail (Contains-slice_get t.entries i e f.1) is c.reason.ensures ∙ c.in-Some.is in
    let was : Analysis = record a { waiting = record { present = c.count_met-in-Some.new.present; places = a.waiting.places } } in
    let new = c.resolve.new.seen in
    let b = c.resolve.new.analysis in
    on_ok c.resolve.result ((d : Entry) → slice_get t.entries i ≡ Some d → d.reason ≡ Some k → Resolves log t i d.lit marks new was b)
    (AreWaiting t i c.args.seen.now a.waiting.places → AreWaiting t i new b.waiting.places)
    (λ resolved w. (resolved e f.1 reason).marked.waiting i (subst (λ m. AreWaiting t i m a.waiting.places) back w)) c.resolve.ensures.resolved
