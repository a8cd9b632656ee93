-- A file gives one outcome, where each text is readable or offends in one way.
use Rattle.std.proofs.Common.{◌≡◌, ℕ, zero, suc, ◌+◌, List, [], ◌∷◌, refl, ap, sym, subst, ◌∙◌, Option, Some, None, length, arith}
use Rattle.outside_io.specs.Files.{bytes_named}
use Rattle.outside_io.specs.declared.library.NamedFile.{NamedFile}
use Rattle.tptp_read.specs.Meaning.{Fault, syntax_fault, language, feature, role_fault}
use Rattle.tptp_read.specs.Meaning.{limit as limit_fault}
use Rattle.tptp_read.specs.Text.{Readable, IsDecided, Outcome, readable, offends, Has}
use Rattle.tptp_read.specs.declared.statement.Statement.{Statement}
use Rattle.tptp_read.specs.declared.statement.Statement.TheVariants.{Cnf, Include}
use Rattle.tptp_read.specs.declared.text.ReadError.{ReadError}
use Rattle.tptp_read.specs.declared.text.ReadError.TheVariants as text
use Rattle.tptp_load.specs.Includes.{tries, first_found}
use Rattle.tptp_load.specs.Loading.{Loaded, gives, refuses, after, selected, Includer, Loader, NoneIncluded, Includes, FoundGives, Loading, FileGives, too_long, misread, read, StatementsGive, HasFault, Then, StartGives, Gives, last_level}
use Rattle.inst_logic.specs.declared.clause.Problem.{Problem}
use Rattle.tptp_load.specs.Problems.{Loads, Refuses, problem_of}
use Rattle.tptp_load.specs.declared.error.LoadError.{LoadError}
use Rattle.tptp_load.specs.declared.error.LoadError.TheVariants.{Text}

abbrev OneOf : (Loaded → Type 0) → Type 0
OneOf P = (o o' : Loaded) → P o → P o' → o ≡ o'

abbrev outcome_of : ReadError → Outcome
outcome_of (text.Syntax k) = offends k syntax_fault
outcome_of (text.Language k w) = offends k (language w)
outcome_of (text.Feature k w) = offends k (feature w)
outcome_of (text.Role k w) = offends k (role_fault w)
outcome_of (text.Limit k w) = offends k (limit_fault w)
outcome_of text.Memory = readable []

abbrev of_fault : ℕ → Fault → ReadError
of_fault k syntax_fault = text.Syntax k
of_fault k (language w) = text.Language k w
of_fault k (feature w) = text.Feature k w
of_fault k (role_fault w) = text.Role k w
of_fault k (limit_fault w) = text.Limit k w

abbrev back : Outcome → ReadError
back (offends k e) = of_fault k e
back (readable ss) = text.Memory

back_is : (bytes : List ℕ) (e : ReadError) → HasFault bytes e → back (outcome_of e) ≡ e
back_is bytes (text.Syntax k) h = refl
back_is bytes (text.Language k w) h = refl
back_is bytes (text.Feature k w) h = refl
back_is bytes (text.Role k w) h = refl
back_is bytes (text.Limit k w) h = refl
back_is bytes text.Memory h = absurd h

has_outcome : (bytes : List ℕ) (e : ReadError) → HasFault bytes e → Has bytes (outcome_of e)
has_outcome bytes (text.Syntax k) h = h
has_outcome bytes (text.Language k w) h = h
has_outcome bytes (text.Feature k w) h = h
has_outcome bytes (text.Role k w) h = h
has_outcome bytes (text.Limit k w) h = h
has_outcome bytes text.Memory h = absurd h

one_outcome : (bytes : List ℕ) → IsDecided bytes → (o o' : Outcome) → Has bytes o → Has bytes o' → o ≡ o'
one_outcome bytes d o o' h k = d.only o h ∙ sym (d.only o' k)

statements_inj : (ss ts : List Statement) → readable ss ≡ readable ts → ss ≡ ts
statements_inj ss ts e = cc

not_both : (bytes : List ℕ) (e : ReadError) (ss : List Statement) → IsDecided bytes → HasFault bytes e → Readable bytes ss → ⊥
not_both bytes (text.Syntax k) ss d h r = let s : offends k syntax_fault ≡ readable ss = one_outcome bytes d _ _ h r in absurd (cc)
not_both bytes (text.Language k w) ss d h r = let s : offends k (language w) ≡ readable ss = one_outcome bytes d _ _ h r in absurd (cc)
not_both bytes (text.Feature k w) ss d h r = let s : offends k (feature w) ≡ readable ss = one_outcome bytes d _ _ h r in absurd (cc)
not_both bytes (text.Role k w) ss d h r = let s : offends k (role_fault w) ≡ readable ss = one_outcome bytes d _ _ h r in absurd (cc)
not_both bytes (text.Limit k w) ss d h r = let s : offends k (limit_fault w) ≡ readable ss = one_outcome bytes d _ _ h r in absurd (cc)
not_both bytes text.Memory ss d h r = absurd h

then_one : (include : Includer) (from : List ℕ) (ss : List Statement) → ((now : ℕ) → OneOf (StatementsGive include from now ss)) → (p p' : Loaded) → p ≡ p' → (o o' : Loaded)
    → Then p (λ stated now. (q : Loaded) × StatementsGive include from now ss q × (o ≡ after stated q)) o → Then p' (λ stated now. (q : Loaded) × StatementsGive include from now ss q × (o' ≡ after stated q)) o' → o ≡ o'
then_one include from ss one (refuses e) (refuses f) same o o' h h' = h ∙ same ∙ sym h'
then_one include from ss one (refuses e) (gives s u) same o o' h h' = absurd (cc)
then_one include from ss one (gives s u) (refuses e) same o o' h h' = absurd (cc)
then_one include from ss one (gives s u) (gives s' u') same o o' h h' =
    let a : s ≡ s' = cc in let b : u ≡ u' = cc in
    h.2 ∙ (λ i. after (a i) (one u' h.0 h'.0 (subst (λ n. StatementsGive include from n ss h.0) b h.1) h'.1 i)) ∙ sym h'.2

module _ (decided : (bytes : List ℕ) → IsDecided bytes) where
  one_statements : (include : Includer) → ((used : ℕ) (from file : List ℕ) (selection : Option (List (List ℕ))) → OneOf (include used from file selection)) → (from : List ℕ) (used : ℕ) (ss : List Statement) → OneOf (StatementsGive include from used ss)
  one_statements include one from used [] o o' h h' = h ∙ sym h'
  one_statements include one from used (Cnf name role always clause ∷ ss) o o' h h' =
      h.2 ∙ ap (after ((record { name = name; always = always; clause = clause }) ∷ [])) (one_statements include one from used ss h.0 h'.0 h.1 h'.1) ∙ sym h'.2
  one_statements include one from used (Include file selection ∷ ss) o o' h h' =
      then_one include from ss (λ now. one_statements include one from now ss) h.0 h'.0 (one used from file selection h.0 h'.0 h.1 h'.1) o o' h.2 h'.2

  one_file : (include : Includer) → ((used : ℕ) (from file : List ℕ) (selection : Option (List (List ℕ))) → OneOf (include used from file selection)) → (used : ℕ) (name bytes : List ℕ) → OneOf (FileGives include used name bytes)
  one_file include one used name bytes o o' (too_long a e) (too_long b f) = e ∙ sym f
  one_file include one used name bytes o o' (too_long a e) (misread b t g f) = absurd (omega arith)
  one_file include one used name bytes o o' (too_long a e) (read b ss r g) = absurd (omega arith)
  one_file include one used name bytes o o' (misread b t g f) (too_long a e) = absurd (omega arith)
  one_file include one used name bytes o o' (read b ss r g) (too_long a e) = absurd (omega arith)
  one_file include one used name bytes o o' (misread a t g e) (misread b u h f) =
      let same : t ≡ u = sym (back_is bytes t g) ∙ ap back (one_outcome bytes (decided bytes) (outcome_of t) (outcome_of u) (has_outcome bytes t g) (has_outcome bytes u h)) ∙ back_is bytes u h in
      e ∙ ap (λ (x : ReadError). refuses (Text name x)) same ∙ sym f
  one_file include one used name bytes o o' (misread a t g e) (read b ss r h) = absurd (not_both bytes t ss (decided bytes) g r)
  one_file include one used name bytes o o' (read b ss r h) (misread a t g e) = absurd (not_both bytes t ss (decided bytes) g r)
  one_file include one used name bytes o o' (read a ss r g) (read b ts q h) =
      let same : ss ≡ ts = statements_inj ss ts (one_outcome bytes (decided bytes) (readable ss) (readable ts) r q) in
      one_statements include one name (used + length bytes) ts o o' (subst (λ x. StatementsGive include name (used + length bytes) x o) same g) h

  one_found : (load : Loader) → ((used : ℕ) (name bytes : List ℕ) → OneOf (load used name bytes)) → (used : ℕ) (file : List ℕ) (selection : Option (List (List ℕ))) (f : Option (List ℕ × List ℕ)) → OneOf (FoundGives load used file selection f)
  one_found load one used file selection None o o' h h' = h ∙ sym h'
  one_found load one used file selection (Some found) o o' h h' = h.2 ∙ ap (selected file selection) (one used found.0 found.1 h.0 h'.0 h.1 h'.1) ∙ sym h'.2

  one_level : (files : List NamedFile) (root : Option (List ℕ)) (levels used : ℕ) (name bytes : List ℕ) → OneOf (Loading files root levels used name bytes)
  one_level files root zero used name bytes = one_file NoneIncluded (λ used from file selection o o' h h'. h ∙ sym h') used name bytes
  one_level files root (suc levels) used name bytes =
      one_file (Includes files root (Loading files root levels)) (λ used from file selection. one_found (Loading files root levels) (one_level files root levels) used file selection (first_found files (tries root from file))) used name bytes

  one_start : (files : List NamedFile) (root : Option (List ℕ)) (name : List ℕ) (f : Option (List ℕ)) → OneOf (StartGives files root name f)
  one_start files root name None o o' h h' = h ∙ sym h'
  one_start files root name (Some bytes) o o' h h' = one_level files root last_level 0 name bytes o o' h h'

  pub one_outcome_of_files : (files : List NamedFile) (name : List ℕ) (root : Option (List ℕ)) (o o' : Loaded) → Gives files name root o → Gives files name root o' → o ≡ o'
  one_outcome_of_files files name root = one_start files root name (bytes_named files name)

  pub one_problem : (files : List NamedFile) (name : List ℕ) (root : Option (List ℕ)) (p q : Problem) → Loads files name root p → Loads files name root q → p ≡ q
  one_problem files name root p q h k = let e = one_outcome_of_files files name root (gives h.0 h.1) (gives k.0 k.1) h.2 k.2 in let s : h.0 ≡ k.0 = cc in h.3 ∙ ap problem_of s ∙ sym k.3

  pub one_refusal : (files : List NamedFile) (name : List ℕ) (root : Option (List ℕ)) (e f : LoadError) → Refuses files name root e → Refuses files name root f → e ≡ f
  one_refusal files name root e f h k = let s = one_outcome_of_files files name root (refuses e) (refuses f) h k in cc

  pub never_both : (files : List NamedFile) (name : List ℕ) (root : Option (List ℕ)) (p : Problem) (e : LoadError) → Loads files name root p → Refuses files name root e → ⊥
  never_both files name root p e h k = let s = one_outcome_of_files files name root (gives h.0 h.1) (refuses e) h.2 k in absurd (cc)
