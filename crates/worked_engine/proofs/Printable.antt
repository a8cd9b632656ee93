-- Clauses and names of a good problem can be printed.
use Rattle.std.proofs.Common.{All}
use Rattle.std.specs.Prelude.{IsTrue}
use Rattle.inst_logic.specs.declared.clause.Problem.{Problem}
use Rattle.inst_logic.specs.WellFormed.{clause_is_formed}
use Rattle.inst_logic.specs.Clauses.{IsCanonical}
use Rattle.inst_logic.specs.Printing.{is_readable_name}
use Rattle.inst_logic.specs.Readable.{clause_is_readable}
use Rattle.inst_logic.proofs.Membership.{all_in, in_all, passes}
use Rattle.cert_format.specs.Printable.{IsPrintableClause}
use Rattle.tptp_load.specs.Problems.{IsGoodProblem}

pub printable_clauses : (p : Problem) → IsGoodProblem p → All IsPrintableClause p.clauses
printable_clauses p good = in_all IsPrintableClause p.clauses (λ c i. record {
  formed = passes clause_is_formed p.clauses good.formed c i;
  canonical = all_in IsCanonical p.clauses good.canonical c i;
  readable = passes clause_is_readable p.clauses good.symbols c i;
})

pub readable_names : (p : Problem) → IsGoodProblem p → All (λ n. IsTrue (is_readable_name n)) p.names
readable_names p good = in_all (λ n. IsTrue (is_readable_name n)) p.names (λ n i. passes is_readable_name p.names good.names n i)
