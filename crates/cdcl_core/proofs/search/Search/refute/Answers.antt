use Rattle.std.proofs.Common.{sym, ◌∙◌, subst, arith}
use Rattle.std.specs.Prelude.{Contains}
use Rattle.cdcl_core.specs.Analysis.{ShowsGiven}
use Rattle.cdcl_core.proofs.SearchLaws.{ready_of}
use Rattle.cdcl_core.proofs.GoLaws.{false_entry, core_closes, core_atoms, all_assumed}
use Rattle.cdcl_core.proofs.search.Search.refute.Goals as goal

pub clash-requires-clause-other : goal.clash-requires-clause-other
clash-requires-clause-other c =
    let s = c.args.self.now in
    let f = false_entry s.trail.trail c.args.lit c.reason.result c.requires.trail c.requires.refuted c.reason.ensures in
    subst (Contains c.args.assumptions.now) f.2 (all_assumed c.args.assumptions.now s c.requires.trail c.requires.level c.requires.search f.0 f.1 (f.3 ∙ c.in-None.is))

pub clash-requires-clause-decided : goal.clash-requires-clause-decided
clash-requires-clause-decided c =
    let s = c.args.self.now in
    let f = false_entry s.trail.trail c.args.lit c.reason.result c.requires.trail c.requires.refuted c.reason.ensures in
    (f.0, f.1, f.2, f.3 ∙ c.in-None.is)

pub analyze_given-requires-clause-ready : goal.analyze_given-requires-clause-ready
analyze_given-requires-clause-ready c = ready_of c.args.self.now c.requires.search.kept c.requires.trail (omega (arith, c.requires.count))

pub analyze_given-requires-clause-given : goal.analyze_given-requires-clause-given
analyze_given-requires-clause-given c =
    let s = c.args.self.now in
    let f = false_entry s.trail.trail c.args.lit c.reason.result c.requires.trail c.requires.refuted c.reason.ensures in
    (f.0, f.1, f.2 ∙ sym c.complement-given.ensures, f.3 ∙ c.in-Some.is)

pub refutation_answer-requires-clause-atoms : goal.refutation_answer-requires-clause-atoms
refutation_answer-requires-clause-atoms c = core_atoms c.args.self.now.trail.trail.atoms c.args.assumptions.now c.in_ok-core-in-Some.core c.requires.atoms c.in_ok-core-in-Some.ensures.within

pub refutation_answer-requires-clause-closes : goal.refutation_answer-requires-clause-closes
refutation_answer-requires-clause-closes c =
    let s = c.args.self.now in
    let marks = c.analyze_given.new.seen in
    core_closes s marks c.args.assumptions.now c.in_ok-core-in-Some.core c.args.lit c.in_ok-hints-in-Some.hints.items c.requires.trail c.requires.level c.requires.search c.requires.assumption c.in_ok-core-in-Some.ensures
    (subst (λ l. ShowsGiven s.log s.trail.trail.entries l marks c.in_ok-hints-in-Some.hints.items) c.complement-given.ensures c.in_ok-hints-in-Some.ensures.hints)
