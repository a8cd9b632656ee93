-- What the words of the command line ask, from the command word on.
use Rattle.std.specs.Prelude.{◌≡◌, ◌<◌, ◌≤◌, ℕ, ⊤, List, Option, Some, None, IfSome, codes, option_map, slice_get}
use Rattle.clap.specs.Words.{App, new_app, with_rule}
use Rattle.inst_logic.specs.Tree.{Tree}
use Rattle.inst_logic.specs.declared.signed.Signed.{Signed}
use Rattle.inst_logic.specs.LiteralView.{literal}
use Rattle.cert_format.specs.Printable.{IsTextName}
use Rattle.tptp_read.specs.Atoms.{ReadsAtom}
use Rattle.command_words.specs.Commands.{IsTaken, file_command, flag, optional, problem_command, value_of, wanted}
use Rattle.command_words.specs.Numbers.{IsNumber}
use Rattle.command_words.specs.declared.request.Request.{Request}
use Rattle.command_words.specs.declared.request.Request.TheVariants as request

-- to prove the problem of a file, with or without a folder under which included files are tried too, in a budget of symbols; to
-- solve the propositional problem of a file; to check the certificate of a file, as one of the problem of another or of none; to
-- write it in the newest format once it is checked so; to ask a certificate for the truth of a ground atom; to prove the chain of
-- a length; to find the value of the quantified formula of a file; to find a model with so many elements of the problem of a file;
-- to find a core of that problem
pub data Asked : Type 0 where
  prove : (file : List ℕ) → (root : Option (List ℕ)) → (budget : ℕ) → Asked
  sat : (file : List ℕ) → Asked
  check : (cert : List ℕ) → (problem : Option (List ℕ)) → (root : Option (List ℕ)) → Asked
  rewrite : (cert : List ℕ) → (problem : Option (List ℕ)) → (root : Option (List ℕ)) → Asked
  ask : (cert : List ℕ) → (atom : Signed Tree) → Asked
  stress : (number : ℕ) → Asked
  qbf : (file : List ℕ) → Asked
  fmodel : (elements : ℕ) → (file : List ℕ) → (root : Option (List ℕ)) → Asked
  core : (file : List ℕ) → (root : Option (List ℕ)) → Asked

-- the name that the answers speak of
abbrev pub name_of : Asked → List ℕ
name_of (prove file root budget) = file
name_of (sat file) = file
name_of (check cert problem root) = cert
name_of (rewrite cert problem root) = cert
name_of (ask cert atom) = cert
name_of (stress number) = codes "stress"
name_of (qbf file) = file
name_of (fmodel elements file root) = file
name_of (core file root) = file

-- the command word
abbrev pub word_of : Asked → List ℕ
word_of (prove file root budget) = codes "prove"
word_of (sat file) = codes "sat"
word_of (check cert problem root) = codes "check"
word_of (rewrite cert problem root) = codes "check"
word_of (ask cert atom) = codes "ask"
word_of (stress number) = codes "stress"
word_of (qbf file) = codes "qbf"
word_of (fmodel elements file root) = codes "fmodel"
word_of (core file root) = codes "core"

-- ---- the commands, each as it is told to the parser

-- `prove FILE`, with `--root DIR` and `--budget N` or without
unfoldable pub prove_command : App
prove_command = with_rule (problem_command (codes "prove")) (optional (codes "budget"))

-- `check CERT`, with `--problem FILE`, `--root DIR` and `--rewrite` or without
unfoldable pub check_command : App
check_command = with_rule (with_rule (with_rule (with_rule (new_app (codes "check")) (wanted (codes "cert"))) (optional (codes "problem"))) (optional (codes "root"))) (flag (codes "rewrite"))

-- `ask CERT ATOM`
unfoldable pub ask_command : App
ask_command = with_rule (with_rule (new_app (codes "ask")) (wanted (codes "cert"))) (wanted (codes "atom"))

-- `stress N`
unfoldable pub stress_command : App
stress_command = with_rule (new_app (codes "stress")) (wanted (codes "number"))

-- `fmodel K FILE`, with `--root DIR` or without
unfoldable pub fmodel_command : App
fmodel_command = with_rule (with_rule (with_rule (new_app (codes "fmodel")) (wanted (codes "number"))) (wanted (codes "file"))) (optional (codes "root"))

abbrev pub command_of : Asked → App
command_of (prove file root budget) = prove_command
command_of (sat file) = file_command (codes "sat")
command_of (check cert problem root) = check_command
command_of (rewrite cert problem root) = check_command
command_of (ask cert atom) = ask_command
command_of (stress number) = stress_command
command_of (qbf file) = file_command (codes "qbf")
command_of (fmodel elements file root) = fmodel_command
command_of (core file root) = problem_command (codes "core")

-- within which bounds its numbers are
abbrev pub IsWithin : Asked → Type 0
IsWithin (prove file root budget) = budget ≤ 1000000000000
IsWithin (stress number) = (2 ≤ number) × (number ≤ 100000)
IsWithin (fmodel elements file root) = (0 < elements) × (elements ≤ 64)
IsWithin a = ⊤

-- ---- what a value says, as it was given

-- the name of a file has to be given
abbrev pub SaysFile : Option (List ℕ) → List ℕ → Type 0
SaysFile given file = (given ≡ Some file) × IsTextName file

-- the name of a file or a folder may be given
abbrev pub SaysOther : Option (List ℕ) → Option (List ℕ) → Type 0
SaysOther given name = (given ≡ name) × IfSome name IsTextName

-- a flag is set
abbrev pub IsSet : Option (List ℕ) → Type 0
IsSet given = given ≡ Some (codes "true")

-- a budget may be given, and is 10,000,000 else
abbrev pub SaysBudget : Option (List ℕ) → ℕ → Type 0
SaysBudget None budget = budget ≡ 10000000
SaysBudget (Some text) budget = IsNumber 13 text budget × (budget ≤ 1000000000000)

-- the text of a ground atom has to be given
abbrev pub SaysAtom : Option (List ℕ) → Signed Tree → Type 0
SaysAtom None atom = ⊥
SaysAtom (Some text) atom = ReadsAtom text atom

-- a number within these bounds has to be given, in 1 to `most` digits
abbrev pub SaysNumber : ℕ → ℕ → ℕ → Option (List ℕ) → ℕ → Type 0
SaysNumber least greatest most None number = ⊥
SaysNumber least greatest most (Some text) number = IsNumber most text number × (least ≤ number) × (number ≤ greatest)

-- what the values say together, as they were given under their names
abbrev pub Says : (List ℕ → Option (List ℕ)) → Asked → Type 0
Says given (prove file root budget) =
    SaysFile (given (codes "file")) file × SaysOther (given (codes "root")) root × SaysBudget (given (codes "budget")) budget
Says given (sat file) = SaysFile (given (codes "file")) file
Says given (check cert problem root) =
    SaysFile (given (codes "cert")) cert × SaysOther (given (codes "problem")) problem × SaysOther (given (codes "root")) root × ¬ IsSet (given (codes "rewrite"))
Says given (rewrite cert problem root) =
    SaysFile (given (codes "cert")) cert × SaysOther (given (codes "problem")) problem × SaysOther (given (codes "root")) root × IsSet (given (codes "rewrite"))
Says given (ask cert atom) = SaysFile (given (codes "cert")) cert × SaysAtom (given (codes "atom")) atom
Says given (stress number) = SaysNumber 2 100000 6 (given (codes "number")) number
Says given (qbf file) = SaysFile (given (codes "file")) file
Says given (fmodel elements file root) =
    SaysNumber 1 64 2 (given (codes "number")) elements × SaysFile (given (codes "file")) file × SaysOther (given (codes "root")) root
Says given (core file root) = SaysFile (given (codes "file")) file × SaysOther (given (codes "root")) root

-- ---- the words

-- the first word is the command, whose parser takes the words and gives what says this
pub record IsAsked (words : List (List ℕ)) (a : Asked) : Type 0 where
  pub command : slice_get words 0 ≡ Some (word_of a)
  pub taken : IsTaken (command_of a) words
  pub says : Says (value_of (command_of a) words) a

-- the words name a file by a command that takes nothing else
abbrev pub GivesFile : List ℕ → List (List ℕ) → List ℕ → Type 0
GivesFile word words file = IsTaken (file_command word) words × SaysFile (value_of (file_command word) words (codes "file")) file

-- the words ask nothing
abbrev pub IsUnread : List (List ℕ) → Type 0
IsUnread words = (a : Asked) → ¬ IsAsked words a

-- what a request asks
abbrev pub asked : Request → Asked
asked (request.Prove file root budget) = prove file.now (option_map (λ r. r.now) root) budget
asked (request.Sat file) = sat file.now
asked (request.Check cert problem root) = check cert.now (option_map (λ p. p.now) problem) (option_map (λ r. r.now) root)
asked (request.Rewrite cert problem root) = rewrite cert.now (option_map (λ p. p.now) problem) (option_map (λ r. r.now) root)
asked (request.Ask cert atom) = ask cert.now (literal atom)
asked (request.Stress number) = stress number
asked (request.Qbf file) = qbf file.now
asked (request.Fmodel elements file root) = fmodel elements file.now (option_map (λ r. r.now) root)
asked (request.Core file root) = core file.now (option_map (λ r. r.now) root)
