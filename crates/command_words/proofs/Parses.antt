-- What the parser's clauses say in the words of this crate.
use Rattle.std.proofs.Common.{◌≡◌, ◌∙◌, List, [], true, inl, inr, ap, subst}
use Rattle.inst_logic.proofs.Booleans.{and_left}
use Rattle.clap.specs.Words.{App, HasKind, HasMatchesOf, IsAmong, Text, fault_of, first_of, first_value, found_of, is_simple_and_free, kind_of}
use Rattle.clap.specs.declared.error.Error.{Error}
use Rattle.clap.specs.declared.error.kind.ErrorKind.TheVariants.{OutOfMemory}
use Rattle.clap.specs.declared.parser.matches.ArgMatches.{ArgMatches}
use Rattle.clap.proofs.WalkLemmas.{first_value-rows}
use Rattle.command_words.specs.Commands.{IsTaken, value_of}

-- words that are refused for another cause than want of memory are not taken
pub refused : (command : App) (words : List Text) (e : Error) → HasKind (fault_of command words) e → (kind_of e ≡ OutOfMemory → ⊥) → IsTaken command words → ⊥
unfolding IsTaken
refused command words e (inl h) other taken = other h
refused command words e (inr h) other taken = subst (IsAmong (kind_of e)) taken h

pub taken : (command : App) (words : List Text) → fault_of command words ≡ [] → IsTaken command words
unfolding IsTaken
taken command words h = h

-- what a look-up in the matches gives
pub given_value : (command : App) (words : List Text) (m : ArgMatches) → is_simple_and_free command ≡ true → HasMatchesOf command words m
    → (id : Text) → first_value (found_of m) id ≡ value_of command words id
unfolding value_of
given_value command words m simple h id = first_value-rows (found_of m) id ∙ ap (first_of id) (h (and_left _ _ simple)).0
