-- Devices in memory, as contracts see them.
use Rattle.std.specs.Prelude.{ℕ, List}
use Rattle.outside_io.specs.FailingCalls.{FailingCalls}
use Rattle.outside_io.specs.declared.library.NamedFile.{NamedFile}

-- files, what is left of the one that was begun, and how many reads there were, up to the last number
pub record Reading : Type 0 where
  pub files : List NamedFile
  pub rest : List ℕ
  pub reads : ℕ

-- such files, of which a read gives at most `most` bytes, and some calls fail
pub record LimitedReading : Type 0 where
  pub files : List NamedFile
  pub rest : List ℕ
  pub reads : ℕ
  pub most : ℕ
  pub failing : FailingCalls

-- the bytes taken so far, at most `most` at a time; some calls fail
pub record LimitedWriting : Type 0 where
  pub taken : List ℕ
  pub most : ℕ
  pub failing : FailingCalls
