-- Ground lines by their numbers, and what names them.
use Rattle.std.specs.Prelude.{◌≡◌, ℕ, List, length, map, All, Contains, Some, slice_get}
use Rattle.inst_logic.specs.declared.signed.Signed.{Signed}
use Rattle.inst_logic.specs.Derivations.{at_number}
use Rattle.cert_values.specs.declared.certificate.GroundLine.{GroundLine}
use Rattle.instgen_loop.specs.Refuting.{ground_clause}

abbrev pub clauses_of : List GroundLine → List (List (Signed ℕ))
clauses_of lines = map (λ l. l.clause) lines

-- each entry has the number of a line of its clause, and each line's clause has one
pub record AreIndexed (lines : List GroundLine) (entries : List (List (Signed ℕ) × ℕ)) : Type 0 where
  pub numbers : (c : List (Signed ℕ)) (n : ℕ) → Contains entries (c, n) → at_number (clauses_of lines) n ≡ Some c
  pub all : (c : List (Signed ℕ)) → Contains (clauses_of lines) c → (n : ℕ) × Contains entries (c, n)

-- the ground clause of each of the numbered clauses is a line
abbrev pub HaveLines : List GroundLine → List ℕ → List (List (Signed ℕ)) → Type 0
HaveLines lines ids cs = All (λ c. Contains (clauses_of lines) (ground_clause ids c)) cs

-- for each of the numbered clauses there is the number of a line that is its ground clause
pub record AreLineNumbers (lines : List GroundLine) (ids : List ℕ) (cs : List (List (Signed ℕ))) (numbers : List ℕ) : Type 0 where
  pub count : length numbers ≡ length cs
  pub each : (i n : ℕ) (c : List (Signed ℕ)) → slice_get numbers i ≡ Some n → slice_get cs i ≡ Some c → at_number (clauses_of lines) n ≡ Some (ground_clause ids c)
