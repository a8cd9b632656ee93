-- Where the file of an include is looked for, and what a selection keeps.
use Rattle.std.specs.Prelude.{ℕ, List, [], ◌∷◌, ◌++◌, Bool, false, nat_eq, if◌then◌else◌, Option, Some, None, filter, option_map}
use Rattle.std.specs.Borrow.{Bor}
use Rattle.std.specs.List.{list_any}
use Rattle.std.specs.Str.{bytes_eq}
use Rattle.outside_io.specs.Files.{bytes_named}
use Rattle.outside_io.specs.declared.library.NamedFile.{NamedFile}
use Rattle.inst_logic.specs.Clauses.{TreeClause}
use Rattle.inst_logic.specs.Codes as byte

-- the name up to and including its last `/`, or nothing
abbrev pub directory : List ℕ → List ℕ
directory [] = []
directory (b ∷ bs) = if list_any (nat_eq byte.slash) (b ∷ bs) then b ∷ directory bs else []

abbrev pub begins_with_slash : List ℕ → Bool
begins_with_slash [] = false
begins_with_slash (b ∷ bs) = nat_eq b byte.slash

-- the path that an argument gives, where it is given
abbrev pub path_of : Option (Bor (List ℕ)) → Option (List ℕ)
path_of path = option_map (λ p. p.now) path

-- under the root, where there is one
abbrev pub under_root : Option (List ℕ) → List ℕ → List (List ℕ)
under_root None wanted = []
under_root (Some root) wanted = (root ++ byte.slash ∷ wanted) ∷ []

-- The names under which an include is tried, in order: one that begins with `/` as it is, another after the directory of the
-- including file, and then under the root.
abbrev pub tries : Option (List ℕ) → List ℕ → List ℕ → List (List ℕ)
tries root from wanted = if begins_with_slash wanted then wanted ∷ [] else (directory from ++ wanted) ∷ under_root root wanted

abbrev pub or_found : List ℕ → Option (List ℕ) → Option (List ℕ × List ℕ) → Option (List ℕ × List ℕ)
or_found name (Some bytes) later = Some (name, bytes)
or_found name None later = later

-- the first of the names that a file has, with its bytes
abbrev pub first_found : List NamedFile → List (List ℕ) → Option (List ℕ × List ℕ)
first_found files [] = None
first_found files (name ∷ names) = or_found name (bytes_named files name) (first_found files names)

-- a clause of a statement with the statement's name; `always` where it holds always
pub record Stated : Type 0 where
  pub name : List ℕ
  pub always : Bool
  pub clause : TreeClause

abbrev pub is_stated : List Stated → List ℕ → Bool
is_stated stated name = list_any (λ s. bytes_eq s.name name) stated

-- the first of the names that no statement has
abbrev pub first_missing : List Stated → List (List ℕ) → Option (List ℕ)
first_missing stated [] = None
first_missing stated (name ∷ names) = if is_stated stated name then first_missing stated names else Some name

abbrev pub is_listed : List (List ℕ) → Stated → Bool
is_listed names s = list_any (λ name. bytes_eq s.name name) names

-- the statements whose names are listed
abbrev pub listed : List (List ℕ) → List Stated → List Stated
listed names stated = filter (is_listed names) stated
