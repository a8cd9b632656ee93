use Rattle.std.proofs.Common.{◌∙◌, sym, ap, subst}
use Rattle.inst_logic.specs.Substitution.{tree_vars}
use Rattle.inst_logic.specs.WellFormed.{IsAtom}
use Rattle.finite_model.proofs.GroundAtoms.{relation_formed, relation_variable_free}
use Rattle.finite_model.proofs.cell_reading.truth_at.Goals as goal

pub is_true-requires-clause-formed : goal.is_true-requires-clause-formed
is_true-requires-clause-formed g c = subst IsAtom (sym c.in_ok-atom.ensures) (relation_formed c.args.sym.now c.args.es.now c.requires.relation)

pub is_true-requires-clause-variable_free : goal.is_true-requires-clause-variable_free
is_true-requires-clause-variable_free g c = ap tree_vars c.in_ok-atom.ensures ∙ relation_variable_free c.args.sym.now c.args.es.now
