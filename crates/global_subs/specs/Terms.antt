-- What keeps a bank formed while entries are unrolled over it: all ids that are put for variables are those of terms.
use Rattle.std.specs.Prelude.{List, All}
use Rattle.term_bank.specs.Forest.{Forest, IsTermIn, AreFormed}
use Rattle.global_subs.specs.declared.made.Made.{Made}
use Rattle.global_subs.specs.declared.unrolling.Task.{Task}
use Rattle.global_subs.specs.Unrolls.{terms_of}

-- the bank is formed, and the terms of the entries and of the tasks are terms of it
pub record HasTerms (f : Forest) (made : List Made) (tasks : List Task) : Type 0 where
  pub formed : AreFormed f
  pub entries : All (λ m. All (IsTermIn f) (terms_of m.how)) made
  pub waiting : All (λ t. All (IsTermIn f) t.terms) tasks
