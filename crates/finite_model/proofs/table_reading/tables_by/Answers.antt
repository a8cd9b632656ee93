use Rattle.std.proofs.Common.{subst, List, All}
use Rattle.inst_calculus.specs.Models.{SelectedClause}
use Rattle.finite_model.specs.Reading.{IsReadPredicate}
use Rattle.finite_model.proofs.table_reading.tables_by.Goals as goal

pub returns-in-Ok-clause-read : goal.returns-in-Ok-clause-read
returns-in-Ok-clause-read g c = record {
  functions = c.in_ok-functions.ensures.symbols;
  predicates = c.in-Ok.ensures.symbols;
  read_functions = c.in_ok-functions.ensures.read;
  read_predicates = subst (λ (ms : List SelectedClause). All (IsReadPredicate ms c.args.k c.args.numbering.now) c.in-Ok.predicates) c.in_ok-functions.ensures.same c.in-Ok.ensures.read;
}
