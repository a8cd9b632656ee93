use Rattle.std.proofs.Common.{List, sym, ap, subst, ◌∙◌}
use Rattle.std.specs.Prelude.{All, IsTrue}
use Rattle.inst_logic.specs.Clauses.{TreeClause}
use Rattle.inst_logic.specs.Measure.{is_function_free}
use Rattle.inst_logic.specs.WellFormed.{AreFormedClauses}
use Rattle.inst_calculus.specs.Axioms.{with_axioms}
use Rattle.inst_calculus.specs.Models.{Makes}
use Rattle.cert_format.specs.Certificate.{selected_members}
use Rattle.cert_values.specs.Values.{saturation_of}
use Rattle.szs_prove.proofs.saturation_test.tables_by.Goals as goal

pub fill-requires-clause-formed : goal.fill-requires-clause-formed
fill-requires-clause-formed c = subst (λ (cs : List TreeClause). AreFormedClauses cs) (sym c.requires.inputs) (c.flattened_form.ensures.formed c.args.k c.args.p.now.clauses c.requires.formed)

pub fill-requires-clause-function_free : goal.fill-requires-clause-function_free
fill-requires-clause-function_free c = subst (λ (cs : List TreeClause). IsTrue (is_function_free cs)) (sym c.requires.inputs) (c.flattened_form.ensures.function_free c.args.k c.args.p.now.clauses c.requires.formed)

pub read_tables-requires-clause-makes : goal.read_tables-requires-clause-makes
read_tables-requires-clause-makes c =
    subst (All (Makes (selected_members (saturation_of c.args.test.now.cert.now.cert)))) (ap with_axioms c.requires.inputs ∙ c.flattened_form.ensures.no_axioms c.args.k c.args.p.now.clauses c.requires.formed)
    c.in_ok-fill.ensures.makes
