-- Clauses packed in one list, each with the span of its literals.
use Rattle.std.specs.Prelude.{◌≡◌, ℕ, ◌≤◌, nat_lt, List, map, All, Option, Some, None, if◌then◌else◌}
use Rattle.std.specs.List.{slice_range}
use Rattle.inst_logic.specs.declared.signed.Signed.{Signed}
use Rattle.cdcl_trail.specs.Clauses.{clause_number}
use Rattle.cdcl_trail.specs.Watch.{pair_at}
use Rattle.cdcl_trail.specs.declared.arena.Span.{Span}
use Rattle.cdcl_trail.specs.declared.watch.WatchedPair.{WatchedPair}

-- the clause whose literals stand in the span; one that ends before it starts is of no clause
abbrev pub clause_at : List (Signed ℕ) → Span → Option (List (Signed ℕ))
clause_at literals s = if nat_lt s.end s.start then None else Some (slice_range literals s.start s.end)

abbrev pub clauses_at : List (Signed ℕ) → List Span → List (Option (List (Signed ℕ)))
clauses_at literals spans = map (clause_at literals) spans

-- the spans end within so many literals
abbrev pub AreWithin : ℕ → List Span → Type 0
AreWithin size spans = All (λ s. s.end ≤ size) spans

-- copies of clauses: of all that watch, and of none that is not there
pub record AreCopies (clauses copies : List (Option (List (Signed ℕ)))) (pairs : List (Option WatchedPair)) : Type 0 where
  pub there : (n : ℕ) (c : List (Signed ℕ)) → clause_number copies n ≡ Some c → clause_number clauses n ≡ Some c
  pub watching : (n : ℕ) (p : WatchedPair) → pair_at pairs n ≡ Some p → clause_number copies n ≡ clause_number clauses n
