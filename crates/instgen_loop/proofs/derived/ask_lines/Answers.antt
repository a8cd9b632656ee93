use Rattle.std.proofs.Common.{List, [], sym, subst, map}
use Rattle.inst_logic.specs.declared.signed.Signed.{Signed}
use Rattle.prop_logic.specs.Solving.{MakesTrue, Refutes}
use Rattle.engine_laws.proofs.RefutedGrounds.{unsatisfiable_when_refuted}
use Rattle.term_bank.specs.Forest.{clause_at}
use Rattle.ground_abs.specs.Abstracts.{atoms_in}
use Rattle.instgen_loop.specs.Derived.{IsDerived}
use Rattle.instgen_loop.specs.LineNumbers.{clauses_of}
use Rattle.instgen_loop.proofs.DerivedLaws.{lines_derived}
use Rattle.instgen_loop.proofs.derived.ask_lines.Goals as goal

pub refutation-requires : goal.refutation-requires
refutation-requires g c = λ bits t.
    let linked = c.in_ok-add_lines.ensures.linked in
    let ground = c.add_lines.new.ground in
    let gs = map (clause_at c.args.run.now.remains.bank) (clauses_of c.args.lines.now) in
    unsatisfiable_when_refuted c.args.ground.now.abstraction.bot (atoms_in c.add_lines.new.bank ground.abstraction.ids) ground.literals gs linked.fits.atoms linked.same c.requires.refuted.grounded c.requires.refuted.refuted bits
    (subst (λ (cs : List (List (Signed _))). MakesTrue bits cs []) linked.given t)

pub returns-clause-derived : goal.returns-clause-derived
returns-clause-derived g c =
    let run = c.args.run.now in
    let ground = c.add_lines.new.ground in
    let later = record run { remains = record run.remains { bank = c.add_lines.new.bank }; abstraction = ground.abstraction; literals = ground.literals; derivation = c.in_ok-run.field-0 } in
    let linked = c.in_ok-add_lines.ensures.linked in
    let derived : IsDerived later c.args.lines.now =
    lines_derived later run.remains.bank c.args.lines.now c.args.ground.now.abstraction.bot c.in_ok-add_lines.ensures.extends c.requires.refuted c.distinct.ensures linked.fits linked.same linked.used
    (subst (λ n. Refutes n ground.literals [] [] c.in_ok-run.field-0) linked.count (subst (λ (cs : List (List (Signed _))). Refutes (g.S.Solver.atoms ground.solver) cs [] [] c.in_ok-run.field-0) linked.given c.in_ok-run.ensures)) in
    let first = c.swap.ensures.x_after in
    let second = c.swap-2.ensures.x_after in
    subst (λ (r : _). IsDerived r c.args.lines.now)
    (λ i. record later { abstraction = sym first i; literals = sym second i }) derived
