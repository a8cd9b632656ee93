use Rattle.std.proofs.Common.{◌∙◌, ◌≤◌, ◌++◌, [], ℕ, List, All, length, sym, refl, map, subst}
use Rattle.inst_logic.specs.declared.signed.Signed.{Signed}
use Rattle.inst_logic.specs.Clauses.{TreeClause}
use Rattle.inst_calculus.specs.Axioms.{equality_axioms}
use Rattle.inst_calculus.proofs.Distinct.{length_map}
use Rattle.inst_calculus.proofs.Congruences.{axioms_canonical}
use Rattle.term_bank.specs.Forest.{clause_at}
use Rattle.term_bank.proofs.Growth.{extends_trans}
use Rattle.instgen_loop.specs.FirstEntries.{IsStarted}
use Rattle.instgen_loop.proofs.FirstEntries.{bounds_grow, given_grown, given_canonical, printable_canonical}
use Rattle.instgen_loop.proofs.FreshRuns.{with_given, fresh_interned, fresh_safe, fresh_started, starts_with, problem_later}
use Rattle.instgen_loop.proofs.Started.{printable_formed}
use Rattle.instgen_loop.proofs.start.start.Goals as goal

pub given_in-requires-clause-clauses : goal.given_in-requires-clause-clauses
given_in-requires-clause-clauses g c = printable_formed c.args.task.now.problem.now.clauses c.requires.clauses

pub start_entries-requires-clause-safe : goal.start_entries-requires-clause-safe
start_entries-requires-clause-safe g c =
    let atoms = g.S.Solver.atoms in
    let added = g.S.Solver.added in
    let index = g.I.PartnerIndex in
    let run = c.args.run.now in
    let n = c.longest-run.result in
    let v = c.in_ok-values.values in
    fresh_safe atoms added index.pairs index.fits g.met.I.PartnerIndex.empty_fits (with_given run c.given_in.new.bank n v)
    (fresh_interned atoms added index.pairs run c.given_in.new.bank n v c.given_in.ensures.formed c.requires.fresh)

pub start_entries-requires-clause-canonical : goal.start_entries-requires-clause-canonical
start_entries-requires-clause-canonical g c =
    given_canonical c.given_in.new.bank c.in_ok-given.given.inputs c.args.task.now.problem.now.clauses c.in_ok-given.ensures.inputs (printable_canonical c.args.task.now.problem.now.clauses c.requires.clauses)

pub start_entries-requires-clause-bounded : goal.start_entries-requires-clause-bounded
start_entries-requires-clause-bounded g c = bounds_grow c.in_ok-given.given.inputs c.longest-least.result c.longest-run.result c.longest-run.ensures.least c.longest-least.ensures.each

pub start_entries-requires-2-clause-bounded : goal.start_entries-requires-2-clause-bounded
start_entries-requires-2-clause-bounded g c =
    subst (λ n. All (λ (d : List (Signed ℕ)). length d ≤ n) c.in_ok-given.given.axioms) (sym c.in_ok-start_entries.ensures.continues.longest) c.longest-run.ensures.each

pub start_entries-requires-2-clause-whole : goal.start_entries-requires-2-clause-whole
start_entries-requires-2-clause-whole g c =
    let later = given_grown c.given_in.new.bank c.start_entries.new.run.entries.bank c.in_ok-start_entries.ensures.continues.bank c.in_ok-given.given.axioms (equality_axioms c.args.task.now.problem.now.clauses) c.in_ok-given.ensures.axioms in
    later.whole

pub start_entries-requires-2-clause-canonical : goal.start_entries-requires-2-clause-canonical
start_entries-requires-2-clause-canonical g c =
    let f = c.start_entries.new.run.entries.bank in
    let axioms = equality_axioms c.args.task.now.problem.now.clauses in
    given_canonical f c.in_ok-given.given.axioms axioms (given_grown c.given_in.new.bank f c.in_ok-start_entries.ensures.continues.bank c.in_ok-given.given.axioms axioms c.in_ok-given.ensures.axioms) (axioms_canonical c.args.task.now.problem.now.clauses)

pub returns-clause-waiting : goal.returns-clause-waiting
returns-clause-waiting g c =
    let atoms = g.S.Solver.atoms in
    let added = g.S.Solver.added in
    let pairs = g.I.PartnerIndex.pairs in
    let run = c.args.run.now in
    let mid = c.given_in.new.bank in
    let n = c.longest-run.result in
    let v = c.in_ok-values.values in
    let f = c.start_entries.new.run.entries.bank in
    let clauses = c.args.task.now.problem.now.clauses in
    let given = c.in_ok-given.given in
    let empty = fresh_started atoms added pairs (with_given run mid n v) (fresh_interned atoms added pairs run mid n v c.given_in.ensures.formed c.requires.fresh) in
    let first = c.in_ok-start_entries.ensures.started [] refl empty in
    let all = c.in_ok-start_entries-2.ensures.started (map (clause_at mid) given.inputs) (c.len.ensures ∙ sym (length_map (clause_at mid) given.inputs)) first in
    let later = given_grown mid f c.in_ok-start_entries.ensures.continues.bank given.axioms (equality_axioms clauses) c.in_ok-given.ensures.axioms in
    let started = subst (λ (cs : List TreeClause). IsStarted atoms added c.start_entries-2.new.run (cs ++ equality_axioms clauses)) c.in_ok-given.ensures.inputs.same
    (subst (λ (cs : List TreeClause). IsStarted atoms added c.start_entries-2.new.run (map (clause_at mid) given.inputs ++ cs)) later.same all) in
    started.waits

pub returns-clause-selection : goal.returns-clause-selection
returns-clause-selection g c =
    let atoms = g.S.Solver.atoms in
    let added = g.S.Solver.added in
    let pairs = g.I.PartnerIndex.pairs in
    let run = c.args.run.now in
    let mid = c.given_in.new.bank in
    let n = c.longest-run.result in
    let v = c.in_ok-values.values in
    let f = c.start_entries.new.run.entries.bank in
    let clauses = c.args.task.now.problem.now.clauses in
    let given = c.in_ok-given.given in
    let empty = fresh_started atoms added pairs (with_given run mid n v) (fresh_interned atoms added pairs run mid n v c.given_in.ensures.formed c.requires.fresh) in
    let first = c.in_ok-start_entries.ensures.started [] refl empty in
    let all = c.in_ok-start_entries-2.ensures.started (map (clause_at mid) given.inputs) (c.len.ensures ∙ sym (length_map (clause_at mid) given.inputs)) first in
    let later = given_grown mid f c.in_ok-start_entries.ensures.continues.bank given.axioms (equality_axioms clauses) c.in_ok-given.ensures.axioms in
    let started = subst (λ (cs : List TreeClause). IsStarted atoms added c.start_entries-2.new.run (cs ++ equality_axioms clauses)) c.in_ok-given.ensures.inputs.same
    (subst (λ (cs : List TreeClause). IsStarted atoms added c.start_entries-2.new.run (map (clause_at mid) given.inputs ++ cs)) later.same all) in
    started.selection

pub returns-clause-running : goal.returns-clause-running
returns-clause-running g c =
    let atoms = g.S.Solver.atoms in
    let added = g.S.Solver.added in
    let pairs = g.I.PartnerIndex.pairs in
    let run = c.args.run.now in
    let mid = c.given_in.new.bank in
    let n = c.longest-run.result in
    let v = c.in_ok-values.values in
    let f = c.start_entries.new.run.entries.bank in
    let clauses = c.args.task.now.problem.now.clauses in
    let given = c.in_ok-given.given in
    let empty = fresh_started atoms added pairs (with_given run mid n v) (fresh_interned atoms added pairs run mid n v c.given_in.ensures.formed c.requires.fresh) in
    let first = c.in_ok-start_entries.ensures.started [] refl empty in
    let all = c.in_ok-start_entries-2.ensures.started (map (clause_at mid) given.inputs) (c.len.ensures ∙ sym (length_map (clause_at mid) given.inputs)) first in
    let later = given_grown mid f c.in_ok-start_entries.ensures.continues.bank given.axioms (equality_axioms clauses) c.in_ok-given.ensures.axioms in
    let started = subst (λ (cs : List TreeClause). IsStarted atoms added c.start_entries-2.new.run (cs ++ equality_axioms clauses)) c.in_ok-given.ensures.inputs.same
    (subst (λ (cs : List TreeClause). IsStarted atoms added c.start_entries-2.new.run (map (clause_at mid) given.inputs ++ cs)) later.same all) in
    let a = c.in_ok-start_entries.ensures.continues in
    let b = c.in_ok-start_entries-2.ensures.continues in
    starts_with atoms added run c.start_entries-2.new.run clauses c.args.task.now.budget started c.requires.allowed (b.left ∙ a.left)

pub returns-clause-problem : goal.returns-clause-problem
returns-clause-problem g c =
    let a = c.in_ok-start_entries.ensures.continues in
    let b = c.in_ok-start_entries-2.ensures.continues in
    let e = c.in_ok-given.ensures in
    let run = c.args.run.now in
    let mid = c.given_in.new.bank in
    let n = c.longest-run.result in
    let v = c.in_ok-values.values in
    let last = c.start_entries-2.new.run in
    problem_later (with_given run mid n v) last c.in_ok-given.given c.args.task.now.problem.now.clauses (extends_trans mid c.start_entries.new.run.entries.bank last.entries.bank a.bank b.bank) (b.bot ∙ a.bot)
    (record { inputs = e.inputs; axioms = e.axioms; bot = c.requires.bot; constant = c.requires.constant; readable = c.requires.readable })
