-- What watched clauses need for propagation to be exact.
use Rattle.std.specs.Prelude.{◌≡◌, ◌⊎◌, ℕ, List, take, Option, Some, Contains}
use Rattle.inst_logic.specs.declared.signed.Signed.{Signed}
use Rattle.inst_logic.specs.Signed.{complement}
use Rattle.cdcl_trail.specs.Clauses.{clause_number}
use Rattle.cdcl_trail.specs.Scan.{HasTrue}
use Rattle.cdcl_trail.specs.Trail.{literals_of}
use Rattle.cdcl_trail.specs.Watch.{pair_at}
use Rattle.cdcl_trail.specs.declared.entry.Entry.{Entry}
use Rattle.cdcl_trail.specs.declared.watch.WatchedPair.{WatchedPair}

-- clause n, if there is one, has a true literal
abbrev pub IsTrueAt : List (Option (List (Signed ℕ))) → List Entry → ℕ → Type 0
IsTrueAt clauses entries n = (c : List (Signed ℕ)) → clause_number clauses n ≡ Some c → HasTrue entries c

abbrev pub Watches : WatchedPair → Signed ℕ → Type 0
Watches p g = (p.first ≡ g) ⊎ (p.second ≡ g)

-- a clause that watches a literal which became false before place h has a true literal
abbrev pub IsSettled : List (Option (List (Signed ℕ))) → List (Option WatchedPair) → List Entry → ℕ → Type 0
IsSettled clauses pairs entries h = (n : ℕ) (p : WatchedPair) (g : Signed ℕ) → pair_at pairs n ≡ Some p → Watches p g → Contains (take h (literals_of entries)) (complement g) → IsTrueAt clauses entries n
