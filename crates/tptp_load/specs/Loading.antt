-- What a file gives, with its includes in their places, or the first reason why it gives nothing. Files are a finite map from
-- names to bytes, and loading is a recursion over the levels of includes.
use Rattle.std.specs.Prelude.{◌≡◌, ℕ, zero, suc, ◌+◌, ◌<◌, ◌≤◌, List, [], ◌∷◌, ◌++◌, Option, Some, None, length}
use Rattle.outside_io.specs.Files.{bytes_named}
use Rattle.outside_io.specs.declared.library.NamedFile.{NamedFile}
use Rattle.tptp_read.specs.declared.statement.Statement.{Statement}
use Rattle.tptp_read.specs.declared.statement.Statement.TheVariants.{Cnf, Include}
use Rattle.tptp_read.specs.declared.text.ReadError.{ReadError}
use Rattle.tptp_read.specs.declared.text.ReadError.TheVariants as text
use Rattle.tptp_read.specs.Text.{Readable, IsCause}
use Rattle.tptp_load.specs.Includes.{Stated, tries, first_found, first_missing, listed}
use Rattle.tptp_load.specs.declared.error.LoadError.{LoadError}
use Rattle.tptp_load.specs.declared.error.LoadError.TheVariants.{Text, Absent, NotSelected, IncludeDepth, TooLong}

-- the statements of a file, and how many bytes were read by then over all files, each reading counted; or a refusal
pub data Loaded : Type 0 where
  gives : List Stated → ℕ → Loaded
  refuses : LoadError → Loaded

-- the most bytes over all files
abbrev pub limit : ℕ
limit = 16777216

-- the last level of includes; the first file has level 0
abbrev pub last_level : ℕ
last_level = 16

-- the statements stand before those that follow
abbrev pub after : List Stated → Loaded → Loaded
after before (gives stated used) = gives (before ++ stated) used
after before (refuses e) = refuses e

abbrev pub selected_or : Option (List ℕ) → List ℕ → List (List ℕ) → List Stated → ℕ → Loaded
selected_or (Some missing) file names stated used = refuses (NotSelected file missing)
selected_or None file names stated used = gives (listed names stated) used

-- cut down to the names of the selection, where there is one; each must be the name of a statement
abbrev pub selected : List ℕ → Option (List (List ℕ)) → Loaded → Loaded
selected file None found = found
selected file (Some names) (refuses e) = refuses e
selected file (Some names) (gives stated used) = selected_or (first_missing stated names) file names stated used

-- What a file of this name with these bytes gives, where so many bytes were read before it.
abbrev pub Loader : Type 1
Loader = ℕ → List ℕ → List ℕ → Loaded → Type 0

-- What an include of this file with this selection gives, in a file of this name.
abbrev pub Includer : Type 1
Includer = ℕ → List ℕ → List ℕ → Option (List (List ℕ)) → Loaded → Type 0

-- what follows is loaded where something was given, and not where it was refused
abbrev pub Then : Loaded → (List Stated → ℕ → Type 0) → Loaded → Type 0
Then (gives stated used) rest o = rest stated used
Then (refuses e) rest o = o ≡ refuses e

-- the statements in order, each include replaced by what it gives
abbrev pub StatementsGive : Includer → List ℕ → ℕ → List Statement → Loaded → Type 0
StatementsGive include from used [] o = o ≡ gives [] used
StatementsGive include from used (Cnf name role always clause ∷ ss) o =
    (p : Loaded) × StatementsGive include from used ss p × (o ≡ after ((record { name = name; always = always; clause = clause }) ∷ []) p)
StatementsGive include from used (Include file selection ∷ ss) o =
    (p : Loaded) × include used from file selection p × Then p (λ stated now. (q : Loaded) × StatementsGive include from now ss q × (o ≡ after stated q)) o

-- the text has this fault, which is not want of memory
abbrev pub HasFault : List ℕ → ReadError → Type 0
HasFault bytes text.Memory = ⊥
HasFault bytes fault = IsCause bytes fault

-- A file is too long, or its text has a fault, or its statements are taken in order.
pub data FileGives (include : Includer) (used : ℕ) (name bytes : List ℕ) (o : Loaded) : Type 0 where
  too_long : limit < used + length bytes → o ≡ refuses TooLong → FileGives include used name bytes o
  misread : used + length bytes ≤ limit → (fault : ReadError) → HasFault bytes fault → o ≡ refuses (Text name fault) → FileGives include used name bytes o
  read : used + length bytes ≤ limit → (ss : List Statement) → Readable bytes ss → StatementsGive include name (used + length bytes) ss o → FileGives include used name bytes o

-- the file that was found is loaded, and the selection made; where none was found that is the refusal
abbrev pub FoundGives : Loader → ℕ → List ℕ → Option (List (List ℕ)) → Option (List ℕ × List ℕ) → Loaded → Type 0
FoundGives load used file selection None o = o ≡ refuses (Absent file)
FoundGives load used file selection (Some found) o = (p : Loaded) × load used found.0 found.1 p × (o ≡ selected file selection p)

-- no include may stand at this level
abbrev pub NoneIncluded : Includer
NoneIncluded used from file selection o = o ≡ refuses (IncludeDepth file)

abbrev pub Includes : List NamedFile → Option (List ℕ) → Loader → Includer
Includes files root load used from file selection o = FoundGives load used file selection (first_found files (tries root from file)) o

-- the loading of a file below which so many levels of includes may stand
abbrev pub Loading : List NamedFile → Option (List ℕ) → ℕ → Loader
Loading files root zero used name bytes o = FileGives NoneIncluded used name bytes o
Loading files root (suc levels) used name bytes o = FileGives (Includes files root (Loading files root levels)) used name bytes o

abbrev pub StartGives : List NamedFile → Option (List ℕ) → List ℕ → Option (List ℕ) → Loaded → Type 0
StartGives files root name None o = o ≡ refuses (Absent name)
StartGives files root name (Some bytes) o = Loading files root last_level 0 name bytes o

-- what the file of this name gives
abbrev pub Gives : List NamedFile → List ℕ → Option (List ℕ) → Loaded → Type 0
Gives files name root o = StartGives files root name (bytes_named files name) o
