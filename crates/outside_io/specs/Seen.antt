-- What a sink has seen, and what a write leaves.
use Rattle.std.specs.Prelude.{ℕ, ◌≡◌, ◌≤◌, List, Option, Bool, IsTrue, Result, Ok, Err}
use Rattle.std.specs.Io.KnownBytes.{Appends}
use Rattle.outside_io.specs.Causes.{Rose}
use Rattle.outside_io.specs.Taken.{AppendsProperPrefix}
use Rattle.outside_io.specs.declared.library.Trouble.{Trouble}
use Rattle.outside_io.specs.declared.library.Trouble.TheVariants.{Failed, Memory}

-- The bytes that it took so far, where these are told; how many calls failed; and whether a call may want memory.
pub record Seen : Type 0 where
  pub taken : Option (List ℕ)
  pub faults : ℕ
  pub may_want : Bool

-- The text was taken whole; or a proper prefix of it, where a call failed or wanted memory, as the sink may.
abbrev pub IsTaken : {A : Type 0} → Seen → Seen → List ℕ → Result A Trouble → Type 0
IsTaken old new text (Ok done) = Appends old.taken new.taken text
IsTaken old new text (Err Failed) = AppendsProperPrefix old.taken new.taken text × Rose old.faults new.faults
IsTaken old new text (Err Memory) = AppendsProperPrefix old.taken new.taken text × IsTrue old.may_want

-- What the writing of the text left, with this result.
pub record Writes {A : Type 0} (old new : Seen) (text : List ℕ) (result : Result A Trouble) : Type 0 where
  pub taken : IsTaken old new text result
  pub later : old.faults ≤ new.faults
  pub may_want : new.may_want ≡ old.may_want
