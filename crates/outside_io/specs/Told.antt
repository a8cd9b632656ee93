-- What a library tells.
use Rattle.std.specs.Prelude.{ℕ, ◌≡◌, ◌≤◌, List, Option}
use Rattle.outside_io.specs.declared.library.NamedFile.{NamedFile}

-- What its files hold, and what is left of the one that was begun, where these are told; and how many calls failed.
pub record Told : Type 0 where
  pub files : Option (List NamedFile)
  pub rest : Option (List ℕ)
  pub faults : ℕ

-- the files stay, and the count does not fall
pub record Follows (old new : Told) : Type 0 where
  pub files : new.files ≡ old.files
  pub later : old.faults ≤ new.faults
