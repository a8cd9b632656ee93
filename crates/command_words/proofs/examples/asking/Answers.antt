-- Words that are written out: what the parser makes of them is computed.
use Rattle.std.proofs.Common.{◌≡◌, ◌∙◌, ℕ, List, [], ◌∷◌, Some, None, false, rules, refl, sym, arith, codes}
use Rattle.std.proofs.Math.Dec.{eqb}
use Rattle.std.proofs.lemmas.Option.{same_Some}
use Rattle.cert_format.specs.Printable.{IsTextName}
use Rattle.clap.specs.Words.{Text, fault_of}
use Rattle.clap.specs.declared.error.kind.ErrorKind.{ErrorKind}
use Rattle.clap.specs.declared.error.kind.ErrorKind.TheVariants.{ArgumentConflict, DisplayHelp, MissingRequiredArgument, TooManyValues, UnknownArgument}
use Rattle.clap.proofs.OnLiterals.{clap_on_literals}
use Rattle.command_words.specs.Asked.{Asked, IsAsked, IsSet, IsUnread, SaysBudget, SaysNumber, prove, sat, check, rewrite, ask, stress, qbf, fmodel, core, word_of, ask_command, check_command, fmodel_command, prove_command, stress_command}
use Rattle.command_words.specs.Commands.{IsTaken, file_command, problem_command, value_of}
use Rattle.command_words.specs.Numbers.{IsNumber}
use Rattle.command_words.proofs.FirstWords.{differ, second}
use Rattle.command_words.proofs.examples.asking.Goals as goal

-- ---- words that ask

name_fp : IsTextName (codes "f.p")
name_fp = search rules

name_d : IsTextName (codes "d")
name_d = search rules

name_dash : IsTextName (codes "-f")
name_dash = search rules

name_x : IsTextName (codes "x")
name_x = search rules

four : IsNumber 13 (codes "4") 4
four = record { some = omega arith; few = omega arith; digits = refl; value = refl }

seven : IsNumber 13 (codes "007") 7
seven = record { some = omega arith; few = omega arith; digits = refl; value = refl }

file : IsAsked (codes "prove" ∷ codes "f.p" ∷ []) (prove (codes "f.p") None 10000000)
unfolding prove_command problem_command file_command IsTaken value_of clap_on_literals
file = record { command = refl; taken = refl; says = ((refl, name_fp), (refl, tt), refl) }

root : IsAsked (codes "prove" ∷ codes "--root" ∷ codes "d" ∷ codes "f.p" ∷ []) (prove (codes "f.p") (Some (codes "d")) 10000000)
unfolding prove_command problem_command file_command IsTaken value_of clap_on_literals
root = record { command = refl; taken = refl; says = ((refl, name_fp), (refl, name_d), refl) }

attached : IsAsked (codes "prove" ∷ codes "f.p" ∷ codes "--budget=4" ∷ []) (prove (codes "f.p") None 4)
unfolding prove_command problem_command file_command IsTaken value_of clap_on_literals
attached = record { command = refl; taken = refl; says = ((refl, name_fp), (refl, tt), (four, omega arith)) }

zeros : IsAsked (codes "prove" ∷ codes "f.p" ∷ codes "--budget" ∷ codes "007" ∷ []) (prove (codes "f.p") None 7)
unfolding prove_command problem_command file_command IsTaken value_of clap_on_literals
zeros = record { command = refl; taken = refl; says = ((refl, name_fp), (refl, tt), (seven, omega arith)) }

dash : IsAsked (codes "prove" ∷ codes "--" ∷ codes "-f" ∷ []) (prove (codes "-f") None 10000000)
unfolding prove_command problem_command file_command IsTaken value_of clap_on_literals
dash = record { command = refl; taken = refl; says = ((refl, name_dash), (refl, tt), refl) }

sat_file : IsAsked (codes "sat" ∷ codes "x" ∷ []) (sat (codes "x"))
unfolding file_command IsTaken value_of clap_on_literals
sat_file = record { command = refl; taken = refl; says = (refl, name_x) }

name_c : IsTextName (codes "c")
name_c = search rules

three_hundred : IsNumber 6 (codes "300") 300
three_hundred = record { some = omega arith; few = omega arith; digits = refl; value = refl }

-- a flag that is not given
not_set : IsSet (Some (codes "false")) → ⊥
not_set e = let same : codes "false" ≡ codes "true" = same_Some (codes "false") (codes "true") e in differ (codes "false") (codes "true") refl same

alone : IsAsked (codes "check" ∷ codes "c" ∷ []) (check (codes "c") None None)
unfolding check_command IsTaken value_of clap_on_literals
alone = record { command = refl; taken = refl; says = ((refl, name_c), (refl, tt), (refl, tt), not_set) }

of_problem : IsAsked (codes "check" ∷ codes "--problem" ∷ codes "f.p" ∷ codes "c" ∷ codes "--root=d" ∷ []) (check (codes "c") (Some (codes "f.p")) (Some (codes "d")))
unfolding check_command IsTaken value_of clap_on_literals
of_problem = record { command = refl; taken = refl; says = ((refl, name_c), (refl, name_fp), (refl, name_d), not_set) }

rewritten : IsAsked (codes "check" ∷ codes "c" ∷ codes "--rewrite" ∷ []) (rewrite (codes "c") None None)
unfolding check_command IsTaken value_of clap_on_literals
rewritten = record { command = refl; taken = refl; says = ((refl, name_c), (refl, tt), (refl, tt), refl) }

chain : IsAsked (codes "stress" ∷ codes "300" ∷ []) (stress 300)
unfolding stress_command IsTaken value_of clap_on_literals
chain = record { command = refl; taken = refl; says = (three_hundred, omega arith, omega arith) }

formula : IsAsked (codes "qbf" ∷ codes "x" ∷ []) (qbf (codes "x"))
unfolding file_command IsTaken value_of clap_on_literals
formula = record { command = refl; taken = refl; says = (refl, name_x) }

four_elements : IsNumber 2 (codes "04") 4
four_elements = record { some = omega arith; few = omega arith; digits = refl; value = refl }

model : IsAsked (codes "fmodel" ∷ codes "04" ∷ codes "--root=d" ∷ codes "f.p" ∷ []) (fmodel 4 (codes "f.p") (Some (codes "d")))
unfolding fmodel_command IsTaken value_of clap_on_literals
model = record { command = refl; taken = refl; says = ((four_elements, omega arith, omega arith), (refl, name_fp), (refl, name_d)) }

core_of : IsAsked (codes "core" ∷ codes "f.p" ∷ []) (core (codes "f.p") None)
unfolding problem_command file_command IsTaken value_of clap_on_literals
core_of = record { command = refl; taken = refl; says = ((refl, name_fp), (refl, tt)) }

-- ---- words that ask nothing

-- the first word is another command's
other_word : (word : List ℕ) (rest : List (List ℕ)) (a : Asked) → IsAsked (word ∷ rest) a → eqb (second word) (second (word_of a)) ≡ false → ⊥
other_word word rest a h apart = differ word (word_of a) apart (let e : Some word ≡ Some (word_of a) = h.command in cc)

empty : IsUnread []
empty a h = let e = h.command in absurd cc

help : IsUnread (codes "--help" ∷ [])
help a h = other_word (codes "--help") [] a h (not_help a)
  where
    not_help : (b : Asked) → eqb (second (codes "--help")) (second (word_of b)) ≡ false
    not_help (prove f r n) = refl
    not_help (sat f) = refl
    not_help (check c p r) = refl
    not_help (rewrite c p r) = refl
    not_help (ask c b) = refl
    not_help (stress n) = refl
    not_help (qbf f) = refl
    not_help (fmodel n f r) = refl
    not_help (core f r) = refl

-- the parser refuses the words behind the command
refused_prove : (rest : List Text) (k : ErrorKind) → fault_of prove_command (codes "prove" ∷ rest) ≡ k ∷ [] → IsUnread (codes "prove" ∷ rest)
unfolding IsTaken
refused_prove rest k e (prove f r n) h = let none : k ∷ [] ≡ [] = sym e ∙ h.taken in absurd cc
refused_prove rest k e a h = other_word (codes "prove") rest a h refl

refused_sat : (rest : List Text) (k : ErrorKind) → fault_of (file_command (codes "sat")) (codes "sat" ∷ rest) ≡ k ∷ [] → IsUnread (codes "sat" ∷ rest)
unfolding IsTaken
refused_sat rest k e (sat f) h = let none : k ∷ [] ≡ [] = sym e ∙ h.taken in absurd cc
refused_sat rest k e a h = other_word (codes "sat") rest a h refl

refused_check : (rest : List Text) (k : ErrorKind) → fault_of check_command (codes "check" ∷ rest) ≡ k ∷ [] → IsUnread (codes "check" ∷ rest)
unfolding IsTaken
refused_check rest k e (check c p r) h = let none : k ∷ [] ≡ [] = sym e ∙ h.taken in absurd cc
refused_check rest k e (rewrite c p r) h = let none : k ∷ [] ≡ [] = sym e ∙ h.taken in absurd cc
refused_check rest k e a h = other_word (codes "check") rest a h refl

refused_ask : (rest : List Text) (k : ErrorKind) → fault_of ask_command (codes "ask" ∷ rest) ≡ k ∷ [] → IsUnread (codes "ask" ∷ rest)
unfolding IsTaken
refused_ask rest k e (ask c a) h = let none : k ∷ [] ≡ [] = sym e ∙ h.taken in absurd cc
refused_ask rest k e a h = other_word (codes "ask") rest a h refl

refused_stress : (rest : List Text) (k : ErrorKind) → fault_of stress_command (codes "stress" ∷ rest) ≡ k ∷ [] → IsUnread (codes "stress" ∷ rest)
unfolding IsTaken
refused_stress rest k e (stress n) h = let none : k ∷ [] ≡ [] = sym e ∙ h.taken in absurd cc
refused_stress rest k e a h = other_word (codes "stress") rest a h refl

refused_fmodel : (rest : List Text) (k : ErrorKind) → fault_of fmodel_command (codes "fmodel" ∷ rest) ≡ k ∷ [] → IsUnread (codes "fmodel" ∷ rest)
unfolding IsTaken
refused_fmodel rest k e (fmodel n f r) h = let none : k ∷ [] ≡ [] = sym e ∙ h.taken in absurd cc
refused_fmodel rest k e a h = other_word (codes "fmodel") rest a h refl

refused_core : (rest : List Text) (k : ErrorKind) → fault_of (problem_command (codes "core")) (codes "core" ∷ rest) ≡ k ∷ [] → IsUnread (codes "core" ∷ rest)
unfolding IsTaken
refused_core rest k e (core f r) h = let none : k ∷ [] ≡ [] = sym e ∙ h.taken in absurd cc
refused_core rest k e a h = other_word (codes "core") rest a h refl

no_file : IsUnread (codes "prove" ∷ [])
unfolding prove_command problem_command file_command clap_on_literals
no_file = refused_prove [] MissingRequiredArgument refl

two_files : IsUnread (codes "prove" ∷ codes "a" ∷ codes "b" ∷ [])
unfolding prove_command problem_command file_command clap_on_literals
two_files = refused_prove (codes "a" ∷ codes "b" ∷ []) UnknownArgument refl

prove_help : IsUnread (codes "prove" ∷ codes "--help" ∷ [])
unfolding prove_command problem_command file_command clap_on_literals
prove_help = refused_prove (codes "--help" ∷ []) DisplayHelp refl

two_roots : IsUnread (codes "prove" ∷ codes "f.p" ∷ codes "--root" ∷ codes "a" ∷ codes "--root" ∷ codes "b" ∷ [])
unfolding prove_command problem_command file_command clap_on_literals
two_roots = refused_prove (codes "f.p" ∷ codes "--root" ∷ codes "a" ∷ codes "--root" ∷ codes "b" ∷ []) ArgumentConflict refl

no_root : IsUnread (codes "sat" ∷ codes "x" ∷ codes "--root" ∷ codes "d" ∷ [])
unfolding file_command clap_on_literals
no_root = refused_sat (codes "x" ∷ codes "--root" ∷ codes "d" ∷ []) UnknownArgument refl

large_value : value_of prove_command (codes "prove" ∷ codes "f.p" ∷ codes "--budget" ∷ codes "1000000000001" ∷ []) (codes "budget") ≡ Some (codes "1000000000001")
unfolding prove_command problem_command file_command value_of clap_on_literals
large_value = refl

too_large : (n : ℕ) → SaysBudget (Some (codes "1000000000001")) n → ⊥
too_large n (number, small) = let value : 1000000000001 ≡ n = number.value in absurd (omega arith)

large_budget : IsUnread (codes "prove" ∷ codes "f.p" ∷ codes "--budget" ∷ codes "1000000000001" ∷ [])
large_budget (prove f r n) h = too_large n (rw large_value at h.says.2)
large_budget a h = other_word (codes "prove") _ a h refl

no_cert : IsUnread (codes "check" ∷ [])
unfolding check_command clap_on_literals
no_cert = refused_check [] MissingRequiredArgument refl

two_certs : IsUnread (codes "check" ∷ codes "a" ∷ codes "b" ∷ [])
unfolding check_command clap_on_literals
two_certs = refused_check (codes "a" ∷ codes "b" ∷ []) UnknownArgument refl

flag_value : IsUnread (codes "check" ∷ codes "c" ∷ codes "--rewrite=true" ∷ [])
unfolding check_command clap_on_literals
flag_value = refused_check (codes "c" ∷ codes "--rewrite=true" ∷ []) TooManyValues refl

two_flags : IsUnread (codes "check" ∷ codes "c" ∷ codes "--rewrite" ∷ codes "--rewrite" ∷ [])
unfolding check_command clap_on_literals
two_flags = refused_check (codes "c" ∷ codes "--rewrite" ∷ codes "--rewrite" ∷ []) ArgumentConflict refl

no_atom : IsUnread (codes "ask" ∷ codes "a" ∷ [])
unfolding ask_command clap_on_literals
no_atom = refused_ask (codes "a" ∷ []) MissingRequiredArgument refl

no_length : IsUnread (codes "stress" ∷ [])
unfolding stress_command clap_on_literals
no_length = refused_stress [] MissingRequiredArgument refl

one_value : value_of stress_command (codes "stress" ∷ codes "1" ∷ []) (codes "number") ≡ Some (codes "1")
unfolding stress_command value_of clap_on_literals
one_value = refl

too_short : (n : ℕ) → SaysNumber 2 100000 6 (Some (codes "1")) n → ⊥
too_short n (number, large, small) = let value : 1 ≡ n = number.value in absurd (omega arith)

short_chain : IsUnread (codes "stress" ∷ codes "1" ∷ [])
short_chain (stress n) h = too_short n (rw one_value at h.says)
short_chain a h = other_word (codes "stress") _ a h refl

no_model_file : IsUnread (codes "fmodel" ∷ codes "4" ∷ [])
unfolding fmodel_command clap_on_literals
no_model_file = refused_fmodel (codes "4" ∷ []) MissingRequiredArgument refl

zero_value : value_of fmodel_command (codes "fmodel" ∷ codes "0" ∷ codes "f.p" ∷ []) (codes "number") ≡ Some (codes "0")
unfolding fmodel_command value_of clap_on_literals
zero_value = refl

too_few : (n : ℕ) → SaysNumber 1 64 2 (Some (codes "0")) n → ⊥
too_few n (number, large, small) = let value : 0 ≡ n = number.value in absurd (omega arith)

no_element : IsUnread (codes "fmodel" ∷ codes "0" ∷ codes "f.p" ∷ [])
no_element (fmodel n f r) h = too_few n (rw zero_value at h.says.0)
no_element a h = other_word (codes "fmodel") _ a h refl

many_value : value_of fmodel_command (codes "fmodel" ∷ codes "65" ∷ codes "f.p" ∷ []) (codes "number") ≡ Some (codes "65")
unfolding fmodel_command value_of clap_on_literals
many_value = refl

too_many : (n : ℕ) → SaysNumber 1 64 2 (Some (codes "65")) n → ⊥
too_many n (number, large, small) = let value : 65 ≡ n = number.value in absurd (omega arith)

many_elements : IsUnread (codes "fmodel" ∷ codes "65" ∷ codes "f.p" ∷ [])
many_elements (fmodel n f r) h = too_many n (rw many_value at h.says.0)
many_elements a h = other_word (codes "fmodel") _ a h refl

no_core_file : IsUnread (codes "core" ∷ [])
unfolding problem_command file_command clap_on_literals
no_core_file = refused_core [] MissingRequiredArgument refl

pub returns : goal.returns
returns c = record {
  file = file;
  root = root;
  attached = attached;
  zeros = zeros;
  dash = dash;
  sat = sat_file;
  alone = alone;
  of_problem = of_problem;
  rewritten = rewritten;
  chain = chain;
  formula = formula;
  model = model;
  core = core_of;
  empty = empty;
  help = help;
  no_file = no_file;
  two_files = two_files;
  prove_help = prove_help;
  budget = large_budget;
  two_roots = two_roots;
  no_root = no_root;
  no_cert = no_cert;
  two_certs = two_certs;
  flag_value = flag_value;
  two_flags = two_flags;
  no_atom = no_atom;
  no_length = no_length;
  short_chain = short_chain;
  no_model_file = no_model_file;
  no_element = no_element;
  many_elements = many_elements;
  no_core_file = no_core_file;
}
