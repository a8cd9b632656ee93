-- Parts of what two members conclude.
use Rattle.std.specs.Prelude.{◌<◌, ℕ, List}
use Rattle.inst_logic.specs.Clauses.{TreeClause}
use Rattle.inst_calculus.specs.Conclusions.{IsPartOfConclusion}
use Rattle.inst_calculus.specs.Entries.{Entry}

-- both members come before member n, and the clause is a part, by the places, of what they conclude
abbrev pub IsPartGiven : List Entry → (n from place partner other : ℕ) → List ℕ → TreeClause → Type 0
IsPartGiven es n from place partner other keep c = (from < n) × (partner < n) × IsPartOfConclusion es from place partner other keep c
