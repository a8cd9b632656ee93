-- Logs of the solves of a run.
use Rattle.std.specs.Prelude.{ℕ, ◌+◌, List, [], ◌∷◌, ◌++◌, length}
use Rattle.instgen_run.specs.declared.event_log.Mark.{Mark}

-- the flips of all solves, and a mark of each
pub record Log : Type 0 where
  pub flips : List ℕ
  pub solves : List Mark

abbrev pub no_solves : Log
no_solves = record { flips = []; solves = [] }

-- with a solve of these flips after so many entries
abbrev pub with_solve : Log → List ℕ → ℕ → Log
with_solve l flips entries = record { flips = l.flips ++ flips; solves = l.solves ++ record { flipped = length l.flips + length flips; entries = entries } ∷ [] }
