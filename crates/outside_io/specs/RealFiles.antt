-- The real devices, as contracts see them.
use Rattle.std.specs.Prelude.{ℕ, Bool, false, None}
use Rattle.outside_io.specs.Seen.{Seen}
use Rattle.outside_io.specs.Told.{Told}

-- whether a file is begun, and how many calls failed
pub record RealFiles : Type 0 where
  pub begun : Bool
  pub faults : ℕ

-- nothing is told of what files hold
abbrev pub real_told : RealFiles → Told
real_told files = record { files = None; rest = None; faults = files.faults }

-- nor of what an output took, of which this many calls failed; no call wants memory
abbrev pub real_seen : ℕ → Seen
real_seen faults = record { taken = None; faults = faults; may_want = false }
