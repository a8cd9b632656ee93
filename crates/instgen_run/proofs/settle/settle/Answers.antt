use Rattle.std.proofs.Common.{[], ◌<◌, sym, ap, subst}
use Rattle.instgen_run.specs.declared.entries.Entries.{Entries}
use Rattle.prop_logic.specs.Solving.{Refutes, Satisfies}
use Rattle.instgen_run.proofs.Grounded.{run_grounded, asked_orderly, asked_grounded, asked_some, truth_kept, some_kept, asked_with, with_kept, unsat_refutes, sat_satisfies, some_answer, none_holds, last_satisfies}
use Rattle.instgen_run.proofs.settle.settle.Goals as goal

pub ask-requires-clause-given : goal.ask-requires-clause-given
ask-requires-clause-given g c = (run_grounded g.S.Solver.atoms g.S.Solver.added c.args.run.now c.requires.running).given

pub ask-requires-clause-first : goal.ask-requires-clause-first
ask-requires-clause-first g c = λ i l.
    let t = (run_grounded g.S.Solver.atoms g.S.Solver.added c.args.run.now c.requires.running).true_places i (subst (λ n. i < n) c.len-count.ensures l) in
    (t.clause, t.clause_at, t.place, t.holds)

pub accept-requires-clause-orderly : goal.accept-requires-clause-orderly
accept-requires-clause-orderly g c =
    asked_orderly g.S.Solver.atoms g.S.Solver.added c.args.run.now c.ask.new.solver c.in_ok-ask.ensures.atoms c.in_ok-ask.ensures.added g.I.PartnerIndex.pairs g.I.PartnerIndex.fits c.args.partners.now
    (record { safe = c.requires.safe; partners = c.requires.partners; tended = c.requires.tended })

pub accept-requires-clause-grounded : goal.accept-requires-clause-grounded
accept-requires-clause-grounded g c =
    asked_grounded g.S.Solver.atoms g.S.Solver.added c.args.run.now c.ask.new.solver c.in_ok-ask.ensures.atoms c.in_ok-ask.ensures.added c.requires.running

pub accept-requires-clause-satisfies : goal.accept-requires-clause-satisfies
accept-requires-clause-satisfies g c =
    subst (λ n. Satisfies n (g.S.Solver.added c.ask.new.solver) [] c.in-Some-Sat.v) (sym c.in_ok-ask.ensures.atoms)
    (subst (λ cs. Satisfies (g.S.Solver.atoms c.args.run.now.ground.solver) cs [] c.in-Some-Sat.v) (sym c.in_ok-ask.ensures.added)
    (sat_satisfies (g.S.Solver.atoms c.args.run.now.ground.solver) (g.S.Solver.added c.args.run.now.ground.solver) c.in-Some-Sat.field-0 c.in-Some-Sat.v
    (some_answer (g.S.Solver.atoms c.args.run.now.ground.solver) (g.S.Solver.added c.args.run.now.ground.solver) c.in_ok-ask.field-0 c.in-Some-Sat.field-0 c.in_ok-ask.ensures.some c.in-Some-Sat.is) c.in-Some-Sat.field-0-is))

pub returns-clause-partners : goal.returns-clause-partners
returns-clause-partners g c =
    (asked_orderly g.S.Solver.atoms g.S.Solver.added c.args.run.now c.ask.new.solver c.in_ok-ask.ensures.atoms c.in_ok-ask.ensures.added g.I.PartnerIndex.pairs g.I.PartnerIndex.fits c.args.partners.now
    (record { safe = c.requires.safe; partners = c.requires.partners; tended = c.requires.tended })).partners

pub returns-clause-running : goal.returns-clause-running
returns-clause-running g c =
    asked_some g.S.Solver.atoms g.S.Solver.added c.args.run.now c.ask.new.solver c.in_ok-ask.ensures.atoms c.in_ok-ask.ensures.added

pub returns-clause-refuted : goal.returns-clause-refuted
returns-clause-refuted g c =
    subst (λ n. Refutes n (g.S.Solver.added c.ask.new.solver) [] [] c.in-Some-Unsat.derivation) (sym c.in_ok-ask.ensures.atoms)
    (subst (λ cs. Refutes (g.S.Solver.atoms c.args.run.now.ground.solver) cs [] [] c.in-Some-Unsat.derivation) (sym c.in_ok-ask.ensures.added)
    (unsat_refutes (g.S.Solver.atoms c.args.run.now.ground.solver) (g.S.Solver.added c.args.run.now.ground.solver) c.in-Some-Unsat.field-0 c.in-Some-Unsat.field-0-0 c.in-Some-Unsat.derivation
    (some_answer (g.S.Solver.atoms c.args.run.now.ground.solver) (g.S.Solver.added c.args.run.now.ground.solver) c.in_ok-ask.field-0 c.in-Some-Unsat.field-0 c.in_ok-ask.ensures.some c.in-Some-Unsat.is) c.in-Some-Unsat.field-0-is))

pub returns-in-Some-Sat-clause-solved : goal.returns-in-Some-Sat-clause-solved
returns-in-Some-Sat-clause-solved g c =
    let satisfies = subst (λ n. Satisfies n (g.S.Solver.added c.ask.new.solver) [] c.in-Some-Sat.v) (sym c.in_ok-ask.ensures.atoms)
    (subst (λ cs. Satisfies (g.S.Solver.atoms c.args.run.now.ground.solver) cs [] c.in-Some-Sat.v) (sym c.in_ok-ask.ensures.added)
    (sat_satisfies (g.S.Solver.atoms c.args.run.now.ground.solver) (g.S.Solver.added c.args.run.now.ground.solver) c.in-Some-Sat.field-0 c.in-Some-Sat.v
    (some_answer (g.S.Solver.atoms c.args.run.now.ground.solver) (g.S.Solver.added c.args.run.now.ground.solver) c.in_ok-ask.field-0 c.in-Some-Sat.field-0 c.in_ok-ask.ensures.some c.in-Some-Sat.is) c.in-Some-Sat.field-0-is)) in
    let (flips, solves) = c.in_ok-accept-in-Some-Sat.ensures.solves in
    truth_kept g.S.Solver.atoms g.S.Solver.added c.args.run.now c.ask.new.solver c.in_ok-ask.ensures.atoms c.in_ok-ask.ensures.added c.accept.new.run c.in-Some-Sat.v satisfies c.in_ok-accept-in-Some-Sat.ensures.valuation flips solves

pub returns-in-Some-Sat-clause-running : goal.returns-in-Some-Sat-clause-running
returns-in-Some-Sat-clause-running g c =
    let satisfies = subst (λ n. Satisfies n (g.S.Solver.added c.ask.new.solver) [] c.in-Some-Sat.v) (sym c.in_ok-ask.ensures.atoms)
    (subst (λ cs. Satisfies (g.S.Solver.atoms c.args.run.now.ground.solver) cs [] c.in-Some-Sat.v) (sym c.in_ok-ask.ensures.added)
    (sat_satisfies (g.S.Solver.atoms c.args.run.now.ground.solver) (g.S.Solver.added c.args.run.now.ground.solver) c.in-Some-Sat.field-0 c.in-Some-Sat.v
    (some_answer (g.S.Solver.atoms c.args.run.now.ground.solver) (g.S.Solver.added c.args.run.now.ground.solver) c.in_ok-ask.field-0 c.in-Some-Sat.field-0 c.in_ok-ask.ensures.some c.in-Some-Sat.is) c.in-Some-Sat.field-0-is)) in
    let (flips, solves) = c.in_ok-accept-in-Some-Sat.ensures.solves in
    some_kept g.S.Solver.atoms g.S.Solver.added c.args.run.now c.ask.new.solver c.in_ok-ask.ensures.atoms c.in_ok-ask.ensures.added c.accept.new.run c.in-Some-Sat.v satisfies c.in_ok-accept-in-Some-Sat.ensures.valuation flips solves

pub returns-in-Some-Sat-clause-kept : goal.returns-in-Some-Sat-clause-kept
returns-in-Some-Sat-clause-kept g c =
    let satisfies = subst (λ n. Satisfies n (g.S.Solver.added c.ask.new.solver) [] c.in-Some-Sat.v) (sym c.in_ok-ask.ensures.atoms)
    (subst (λ cs. Satisfies (g.S.Solver.atoms c.args.run.now.ground.solver) cs [] c.in-Some-Sat.v) (sym c.in_ok-ask.ensures.added)
    (sat_satisfies (g.S.Solver.atoms c.args.run.now.ground.solver) (g.S.Solver.added c.args.run.now.ground.solver) c.in-Some-Sat.field-0 c.in-Some-Sat.v
    (some_answer (g.S.Solver.atoms c.args.run.now.ground.solver) (g.S.Solver.added c.args.run.now.ground.solver) c.in_ok-ask.field-0 c.in-Some-Sat.field-0 c.in_ok-ask.ensures.some c.in-Some-Sat.is) c.in-Some-Sat.field-0-is)) in
    let (flips, solves) = c.in_ok-accept-in-Some-Sat.ensures.solves in
    with_kept g.S.Solver.atoms g.S.Solver.added c.args.run.now c.ask.new.solver c.in_ok-ask.ensures.atoms c.in_ok-ask.ensures.added c.accept.new.run c.in-Some-Sat.v satisfies c.in_ok-accept-in-Some-Sat.ensures.valuation flips solves

pub returns-clause-kept : goal.returns-clause-kept
returns-clause-kept g c =
    asked_with g.S.Solver.atoms g.S.Solver.added c.args.run.now c.ask.new.solver c.in_ok-ask.ensures.atoms c.in_ok-ask.ensures.added

pub returns-in-Some-Sat-clause-bank : goal.returns-in-Some-Sat-clause-bank
returns-in-Some-Sat-clause-bank g c = let (flips, solves) = c.in_ok-accept-in-Some-Sat.ensures.solves in ap (λ (e : Entries _ _). e.bank) solves.entries

pub stay-requires-clause-orderly : goal.stay-requires-clause-orderly
stay-requires-clause-orderly g c =
    asked_orderly g.S.Solver.atoms g.S.Solver.added c.args.run.now c.ask.new.solver c.in_ok-ask.ensures.atoms c.in_ok-ask.ensures.added g.I.PartnerIndex.pairs g.I.PartnerIndex.fits c.args.partners.now
    (record { safe = c.requires.safe; partners = c.requires.partners; tended = c.requires.tended })

pub stay-requires-clause-grounded : goal.stay-requires-clause-grounded
stay-requires-clause-grounded g c =
    asked_grounded g.S.Solver.atoms g.S.Solver.added c.args.run.now c.ask.new.solver c.in_ok-ask.ensures.atoms c.in_ok-ask.ensures.added c.requires.running

pub stay-requires-clause-hold : goal.stay-requires-clause-hold
stay-requires-clause-hold g c = none_holds c.args.run.now.ground.literals c.in_ok-ask.field-0 c.args.run.now.ground.valuation c.in_ok-ask.ensures.none c.in-None.is

pub returns-in-None-clause-solved : goal.returns-in-None-clause-solved
returns-in-None-clause-solved g c =
    let satisfies = last_satisfies g.S.Solver.atoms g.S.Solver.added c.args.run.now c.ask.new.solver c.in_ok-ask.ensures.atoms c.in_ok-ask.ensures.added c.requires.safe.count c.requires.running
    (none_holds c.args.run.now.ground.literals c.in_ok-ask.field-0 c.args.run.now.ground.valuation c.in_ok-ask.ensures.none c.in-None.is) in
    truth_kept g.S.Solver.atoms g.S.Solver.added c.args.run.now c.ask.new.solver c.in_ok-ask.ensures.atoms c.in_ok-ask.ensures.added c.stay.new.run c.args.run.now.ground.valuation satisfies c.in_ok-stay-in-None.ensures.valuation [] c.in_ok-stay-in-None.ensures.solves

pub returns-in-None-clause-running : goal.returns-in-None-clause-running
returns-in-None-clause-running g c =
    let satisfies = last_satisfies g.S.Solver.atoms g.S.Solver.added c.args.run.now c.ask.new.solver c.in_ok-ask.ensures.atoms c.in_ok-ask.ensures.added c.requires.safe.count c.requires.running
    (none_holds c.args.run.now.ground.literals c.in_ok-ask.field-0 c.args.run.now.ground.valuation c.in_ok-ask.ensures.none c.in-None.is) in
    some_kept g.S.Solver.atoms g.S.Solver.added c.args.run.now c.ask.new.solver c.in_ok-ask.ensures.atoms c.in_ok-ask.ensures.added c.stay.new.run c.args.run.now.ground.valuation satisfies c.in_ok-stay-in-None.ensures.valuation [] c.in_ok-stay-in-None.ensures.solves

pub returns-in-None-clause-kept : goal.returns-in-None-clause-kept
returns-in-None-clause-kept g c =
    let satisfies = last_satisfies g.S.Solver.atoms g.S.Solver.added c.args.run.now c.ask.new.solver c.in_ok-ask.ensures.atoms c.in_ok-ask.ensures.added c.requires.safe.count c.requires.running
    (none_holds c.args.run.now.ground.literals c.in_ok-ask.field-0 c.args.run.now.ground.valuation c.in_ok-ask.ensures.none c.in-None.is) in
    with_kept g.S.Solver.atoms g.S.Solver.added c.args.run.now c.ask.new.solver c.in_ok-ask.ensures.atoms c.in_ok-ask.ensures.added c.stay.new.run c.args.run.now.ground.valuation satisfies c.in_ok-stay-in-None.ensures.valuation [] c.in_ok-stay-in-None.ensures.solves

pub returns-in-None-clause-bank : goal.returns-in-None-clause-bank
returns-in-None-clause-bank g c = ap (λ (e : Entries _ _). e.bank) c.in_ok-stay-in-None.ensures.solves.entries
