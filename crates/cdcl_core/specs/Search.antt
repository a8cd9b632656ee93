-- The state of the search, the number that rises with each of its steps, and how it ends.
use Rattle.std.specs.Prelude.{◌≡◌, ℕ, ◌+◌, ◌-◌, ◌^◌, ◌<◌, ◌≤◌, ◌⊎◌, Bool, List, [], ◌∷◌, take, Option, Some, None, length, All, Contains, slice_get}
use Rattle.inst_logic.specs.declared.signed.Signed.{Signed}
use Rattle.prop_logic.specs.declared.solver.Answer.{Answer}
use Rattle.prop_logic.specs.Solving.{IsAnswer, IsSubList}
use Rattle.cdcl_trail.specs.declared.entry.Entry.{Entry}
use Rattle.cdcl_trail.specs.Attached.{AreAttached}
use Rattle.cdcl_trail.specs.Clauses.{clause_number}
use Rattle.cdcl_trail.specs.Trail.{Trail, IsTrail, IsDecision, literals_of, back_at}
use Rattle.cdcl_trail.specs.Propagation.{GivesUnit}
use Rattle.cdcl_core.specs.declared.log.Log.{Log}
use Rattle.cdcl_core.specs.declared.search.Search.{Search}
use Rattle.cdcl_core.specs.Log.{IsLog}
use Rattle.cdcl_core.specs.Analysis.{IsMarked}
use Rattle.cdcl_core.specs.Phases.{ArePhases}

-- an entry with a reason was given by its clause
abbrev pub AreGiven : List (Option (List (Signed ℕ))) → List Entry → Type 0
AreGiven clauses entries = (k n : ℕ) (e : Entry) → slice_get entries k ≡ Some e → e.reason ≡ Some n → (c : List (Signed ℕ)) × (clause_number clauses n ≡ Some c) × GivesUnit (take k entries) c e.lit

-- the log is right for clauses that gave the trail's values
abbrev pub IsLogOf : Log → Trail → Type 0
IsLogOf log t = (clauses : List (Option (List (Signed ℕ)))) × IsLog t.atoms clauses log × AreGiven clauses t.entries

-- the log has steps more
pub record IsLogMore (atoms : ℕ) (old new : Log) : Type 0 where
  pub added : new.added ≡ old.added
  pub log : (clauses : List (Option (List (Signed ℕ)))) → IsLog atoms clauses old → IsLog atoms clauses new

-- what is kept from one question to the next
pub record IsKept (s : Search) : Type 0 where
  pub log : IsLog s.trail.trail.atoms s.clauses s.log
  pub given : AreGiven s.clauses s.trail.trail.entries
  pub attached : AreAttached s.trail s.clauses
  pub seen : length s.seen ≡ s.trail.trail.atoms
  pub phases : ArePhases s.trail.trail s.phases

-- between questions
pub record IsIdle (n : ℕ) (s : Search) : Type 0 where
  pub kept : IsKept s
  pub atoms : s.trail.trail.atoms ≡ n

-- the literal is true at one of the levels up to this one
abbrev pub IsTrueUpTo : List Entry → ℕ → Signed ℕ → Type 0
IsTrueUpTo entries level l = (e : Entry) × Contains entries e × (e.lit ≡ l) × (e.level ≤ level)

-- the levels up to `assumed` were opened by assumptions, which are all true if there is a level above these
pub record IsSearch (assumptions : List (Signed ℕ)) (s : Search) : Type 0 where
  pub kept : IsKept s
  pub low : s.assumed ≤ s.trail.trail.level
  pub decisions : (e : Entry) → Contains s.trail.trail.entries e → IsDecision e → e.level ≤ s.assumed → Contains assumptions e.lit
  pub all_true : s.assumed < s.trail.trail.level → All (IsTrueUpTo s.trail.trail.entries s.assumed) assumptions
  pub checked : All (Contains (literals_of s.trail.trail.entries)) (take s.checked assumptions)

-- the literal is the false one, or its atom is marked and it is a decision
abbrev pub IsInCore : List Entry → List Bool → Signed ℕ → Signed ℕ → Type 0
IsInCore entries marks refuted l = (l ≡ refuted) ⊎ ((e : Entry) × Contains entries e × (e.lit ≡ l) × IsDecision e × IsMarked marks e.lit.atom)

-- the core is a part of the assumptions, has the marked decisions among them, and else true ones alone
pub record IsCoreIn (entries : List Entry) (marks : List Bool) (refuted : Signed ℕ) (assumptions core : List (Signed ℕ)) : Type 0 where
  pub within : IsSubList core assumptions
  pub whole : All (λ l. IsInCore entries marks refuted l → Contains core l) assumptions
  pub true_ones : All (λ l. (l ≡ refuted) ⊎ Contains (literals_of entries) l) core

-- a literal counts more at a lower level
abbrev pub weight : ℕ → List Entry → ℕ
weight n [] = 0
weight n (e ∷ es) = (n + 1) ^ (n - e.level) + weight n es

-- the number of atoms and the added clauses are the same
pub record IsSameProblem (old new : Search) : Type 0 where
  pub atoms : new.trail.trail.atoms ≡ old.trail.trail.atoms
  pub added : new.log.added ≡ old.log.added

-- the levels above one were taken back, and nothing else changed
pub record IsBackFrom (old new : Search) : Type 0 where
  pub trail : IsTrail old.trail.trail
  pub level : ℕ
  pub within : level ≤ old.trail.trail.level
  pub back : new.trail.trail ≡ back_at old.trail.trail level
  pub added : new.log.added ≡ old.log.added
  pub search : (assumptions : List (Signed ℕ)) → IsSearch assumptions old → IsSearch assumptions new

-- the trail may look at other clauses, and nothing else changed
pub record IsSameButClauses (old new : Search) : Type 0 where
  pub kept : IsKept new
  pub trail : new.trail.trail ≡ old.trail.trail
  pub log : new.log ≡ old.log
  pub assumed : new.assumed ≡ old.assumed
  pub checked : new.checked ≡ old.checked

-- the search went on
pub record Advances (old new : Search) : Type 0 where
  pub same : IsSameProblem old new
  pub within : weight old.trail.trail.atoms old.trail.trail.entries < (old.trail.trail.atoms + 1) ^ (old.trail.trail.atoms + 1)
  pub risen : weight old.trail.trail.atoms old.trail.trail.entries < weight old.trail.trail.atoms new.trail.trail.entries

-- the question is answered
pub record Ends (assumptions : List (Signed ℕ)) (old new : Search) (answer : Answer) : Type 0 where
  pub kept : IsKept new
  pub same : IsSameProblem old new
  pub answered : IsAnswer old.trail.trail.atoms old.log.added assumptions answer

-- the search goes on, or has ended
abbrev pub Continues : List (Signed ℕ) → Search → Search → Option Answer → Type 0
Continues assumptions old new None = IsSearch assumptions new × Advances old new
Continues assumptions old new (Some answer) = Ends assumptions old new answer

-- the search has learned what it found beforehand, or has ended
abbrev pub IsProbed : List (Signed ℕ) → Search → Search → Option Answer → Type 0
IsProbed assumptions old new None = IsSearch assumptions new × IsSameProblem old new
IsProbed assumptions old new (Some answer) = Ends assumptions old new answer
