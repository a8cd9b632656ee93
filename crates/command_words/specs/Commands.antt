-- The parts of commands, as they are told to the parser of command lines, and what that parser makes of words. It passes over the
-- first word, which is the command's own.
use Rattle.std.specs.Prelude.{◌≡◌, List, [], Option, Some, true, codes}
use Rattle.clap.specs.Words.{App, Rule, Text, fault_of, first_of, matches_of, new_app, new_rule, with_rule}
use Rattle.clap.specs.declared.builder.action.ArgAction.TheVariants.{SetTrue}

-- a word that has to be there
abbrev pub wanted : Text → Rule
wanted id = record (new_rule id) { required = true }

-- an option with a value, named as its value is
abbrev pub optional : Text → Rule
optional id = record (new_rule id) { long = Some id }

-- an option without a value
abbrev pub flag : Text → Rule
flag id = record (new_rule id) { long = Some id; action = Some SetTrue }

-- a command that takes a file
unfoldable pub file_command : Text → App
file_command word = with_rule (new_app word) (wanted (codes "file"))

-- a command that takes a file, with `--root DIR` or without
unfoldable pub problem_command : Text → App
problem_command word = with_rule (file_command word) (optional (codes "root"))

-- the parser finds no fault in the words
unfoldable pub IsTaken : App → List Text → Type 0
IsTaken command words = fault_of command words ≡ []

-- what it then gives under a name
unfoldable pub value_of : App → List Text → Text → Option Text
value_of command words id = first_of id (matches_of command words)
