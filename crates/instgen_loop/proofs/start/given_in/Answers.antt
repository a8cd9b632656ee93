use Rattle.std.proofs.Common.{sym, subst}
use Rattle.inst_logic.specs.WellFormed.{AreFormedClauses}
use Rattle.instgen_loop.proofs.FirstEntries.{given_grown, axioms_formed}
use Rattle.instgen_loop.proofs.start.given_in.Goals as goal

pub intern_clauses-requires-2-clause-clauses : goal.intern_clauses-requires-2-clause-clauses
intern_clauses-requires-2-clause-clauses c = subst AreFormedClauses (sym c.in_ok-axioms.ensures) (axioms_formed c.args.p.now.clauses c.requires.clauses)

pub returns-clause-inputs : goal.returns-clause-inputs
returns-clause-inputs c = given_grown c.intern_clauses.new.bank c.intern_clauses-2.new.bank c.intern_clauses-2.ensures.extends c.in_ok-inputs.inputs c.args.p.now.clauses c.in_ok-inputs.ensures.given
