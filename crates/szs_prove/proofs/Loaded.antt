-- The clauses and the names of a problem that was loaded can be printed.
use Rattle.inst_logic.specs.declared.clause.Problem.{Problem}
use Rattle.inst_logic.specs.WellFormed.{clause_is_formed}
use Rattle.inst_logic.specs.Clauses.{IsCanonical}
use Rattle.inst_logic.specs.Printing.{is_readable_name}
use Rattle.inst_logic.specs.Readable.{clause_is_readable}
use Rattle.inst_logic.proofs.Membership.{all_in, in_all, passes}
use Rattle.std.specs.Prelude.{IsTrue}
use Rattle.cert_format.specs.Printable.{IsPrintableClause, IsPrintableProblem}
use Rattle.tptp_load.specs.Problems.{IsGoodProblem}

pub printable_problem : (p : Problem) → IsGoodProblem p → IsPrintableProblem p
printable_problem p good = record {
  clauses = in_all IsPrintableClause p.clauses (λ c i. record {
    formed = passes clause_is_formed p.clauses good.formed c i;
    canonical = all_in IsCanonical p.clauses good.canonical c i;
    readable = passes clause_is_readable p.clauses good.symbols c i;
  });
  named = good.named;
  readable = in_all (λ n. IsTrue (is_readable_name n)) p.names (λ n i. passes is_readable_name p.names good.names n i);
}
