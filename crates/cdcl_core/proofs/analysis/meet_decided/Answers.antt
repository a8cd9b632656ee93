use Rattle.std.proofs.Common.{◌≡◌, ℕ, ◌+◌, ◌<◌, Some, false, ◌∙◌}
use Rattle.std.specs.Prelude.{slice_get}
use Rattle.inst_logic.specs.declared.signed.Signed.{Signed}
use Rattle.prop_logic.proofs.ListLaws.{Contains-slice_get}
use Rattle.cdcl_trail.specs.declared.entry.Entry.{Entry}
use Rattle.cdcl_core.specs.Analysis.{AreWaiting, Resolves, IsMetDecided}
use Rattle.cdcl_core.proofs.EntryLaws.{entry_at}
use Rattle.cdcl_core.proofs.MeetLaws.{reason_read, on_ok, met_decided_kept, met_decided_resolved}
use Rattle.cdcl_core.proofs.analysis.meet_decided.Goals as goal

pub returns-in-None-clause-met : goal.returns-in-None-clause-met
returns-in-None-clause-met c = λ start l low m.
    let t = c.args.reasons.trail.now.trail in
    let f = entry_at t.entries c.args.place (record { positive = false; atom = 0 }) c.requires.place in
    let e = f.0 in
    let inside = Contains-slice_get t.entries c.args.place e f.1 in
    let is = c.literal_at-lit.ensures.literal e f.1 in
    let chosen = reason_read t e c.literal_at-lit.result c.reason.result c.requires.ready.trail inside is c.reason.ensures ∙ c.in-None.is in
    met_decided_kept c.args.reasons.log.now t start c.args.place l e c.args.seen.now c.args.analysis.now low f.1 (c.requires.marked e f.1) chosen m

pub returns-in-Some-clause-met : goal.returns-in-Some-clause-met
returns-in-Some-clause-met c =
    let t = c.args.reasons.trail.now.trail in
    let log = c.args.reasons.log.now in
    let a = c.args.analysis.now in
    let b = c.resolve.new.analysis in
    let n = c.in-Some.number in
    let marks = c.args.seen.now in
    let new = c.resolve.new.seen in
    let i = c.args.place in
    let f = entry_at t.entries i (record { positive = false; atom = 0 }) c.requires.place in
    let e = f.0 in
    let is = c.literal_at-lit.ensures.literal e f.1 in
    let reason = reason_read t e c.literal_at-lit.result c.reason.result c.requires.ready.trail (Contains-slice_get t.entries i e f.1) is c.reason.ensures ∙ c.in-Some.is in
    on_ok c.resolve.result ((d : Entry) → slice_get t.entries i ≡ Some d → d.reason ≡ Some n → Resolves log t i d.lit marks new a b)
    ((start : ℕ) (l : Signed ℕ) → i < start → IsMetDecided log t start (i + 1) l marks a → IsMetDecided log t start i l new b)
    (λ resolved start l low m. met_decided_resolved log t start i l e marks new a b c.requires.ready low f.1 (resolved e f.1 reason) m) c.resolve.ensures.resolved

pub returns-in-Some-clause-waiting : goal.returns-in-Some-clause-waiting
returns-in-Some-clause-waiting c =
    let t = c.args.reasons.trail.now.trail in
    let log = c.args.reasons.log.now in
    let a = c.args.analysis.now in
    let b = c.resolve.new.analysis in
    let n = c.in-Some.number in
    let marks = c.args.seen.now in
    let new = c.resolve.new.seen in
    let i = c.args.place in
    let f = entry_at t.entries i (record { positive = false; atom = 0 }) c.requires.place in
    let e = f.0 in
    let is = c.literal_at-lit.ensures.literal e f.1 in
    let reason = reason_read t e c.literal_at-lit.result c.reason.result c.requires.ready.trail (Contains-slice_get t.entries i e f.1) is c.reason.ensures ∙ c.in-Some.is in
    on_ok c.resolve.result ((d : Entry) → slice_get t.entries i ≡ Some d → d.reason ≡ Some n → Resolves log t i d.lit marks new a b)
    (AreWaiting t i marks a.waiting.places → AreWaiting t i new b.waiting.places) (λ resolved w. (resolved e f.1 reason).marked.waiting i w) c.resolve.ensures.resolved
