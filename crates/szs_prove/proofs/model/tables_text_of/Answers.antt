use Rattle.std.proofs.Common.{◌≡◌, ◌<◌, ℕ, List, IfOk, subst}
use Rattle.finite_model.specs.Tables.{IsElement}
use Rattle.szs_prove.specs.TableTexts.{tables_text}
use Rattle.szs_prove.proofs.ModelTexts.{tables_full, told_tables}
use Rattle.szs_prove.proofs.model.tables_text_of.Goals as goal

pub tables_of-requires-clause-inputs : goal.tables_of-requires-clause-inputs
tables_of-requires-clause-inputs c = c.requires.shown.certifies.of_problem.inputs

pub tables_text-requires-clause-functions : goal.tables_text-requires-clause-functions
tables_text-requires-clause-functions c = tables_full c.args.k (IsElement c.args.k) c.in_ok-tables.tables.functions c.in_ok-tables.ensures.model.tables.function_cells

pub tables_text-requires-clause-predicates : goal.tables_text-requires-clause-predicates
tables_text-requires-clause-predicates c = tables_full c.args.k (λ n. n < 2) c.in_ok-tables.tables.predicates c.in_ok-tables.ensures.model.tables.predicate_cells

pub returns : goal.returns
returns c =
    told_tables c.args.k c.args.file.now c.args.p.now c.in_ok-tables.tables c.in_ok-tables.ensures.model c.tables_text.result
    (subst (λ (n : List ℕ). IfOk c.tables_text.result (λ text. text ≡ tables_text c.args.k n c.in_ok-tables.tables)) c.as_bytes.ensures.value c.tables_text.ensures)
