-- A question finds one thing in the files, and each exit is wanted there, or yields.
use Rattle.std.proofs.Common.{◌≡◌, ◌≢◌, ℕ, ◌<◌, ◌≤◌, List, Option, Some, None, IfSome, length, inl, inr, refl, sym, ap, subst, arith}
use Rattle.std.specs.Prelude.{◌⊎◌, Result, Ok, Err, IsTrue}
use Rattle.finite_model.specs.Tables.{IsTooWide}
use Rattle.inst_logic.specs.Measure.{is_function_free}
use Rattle.inst_logic.specs.declared.clause.Problem.{Problem}
use Rattle.outside_io.specs.Causes.{Rose}
use Rattle.outside_io.specs.Files.{bytes_named}
use Rattle.outside_io.specs.Told.{Told}
use Rattle.outside_io.specs.declared.library.NamedFile.{NamedFile}
use Rattle.tptp_read.specs.declared.text.ReadError.{ReadError}
use Rattle.tptp_read.specs.declared.text.ReadError.TheVariants as text
use Rattle.tptp_load.specs.Problems.{Loads, Refuses, IsLoadCause}
use Rattle.tptp_load.specs.declared.error.LoadError.{LoadError}
use Rattle.tptp_load.specs.declared.error.LoadError.TheVariants as load
use Rattle.inst_logic.specs.Tree.{Tree}
use Rattle.inst_logic.specs.declared.memory.Memory.{Memory as OutOfMemory}
use Rattle.inst_logic.specs.declared.signed.Signed.{Signed}
use Rattle.cert_front.specs.declared.judgement.Judgement.{Judgement}
use Rattle.cert_front.specs.declared.judgement.Judgement.TheVariants as found
use Rattle.cert_front.specs.declared.reply.Reply.{Reply}
use Rattle.cert_front.specs.declared.rewriting.Rewriting.{Rewriting}
use Rattle.cert_front.specs.declared.rewriting.Rewriting.TheVariants as rewriting
use Rattle.cert_front.specs.Rewritings.{IsRewritten}
use Rattle.cert_front.proofs.Rewritings.{judged}
use Rattle.cert_front.specs.declared.words.Form.{Form}
use Rattle.cert_front.specs.Checks.{HasCertificate, IsCheckFault, IsFound, IsJudged, IsProblemFault, form_of}
use Rattle.cert_front.specs.Queries.{IsAskFault, IsFoundReply, IsReplied}
use Rattle.cert_front.specs.declared.check.CheckFault.{CheckFault}
use Rattle.cert_front.specs.declared.check.CheckFault.TheVariants as unjudged
use Rattle.cert_front.specs.declared.fault.CertFault.{CertFault}
use Rattle.cert_front.specs.declared.fault.CertFault.TheVariants as bad
use Rattle.command_words.specs.Asked.{Asked, prove, sat, check, rewrite, ask, stress, qbf, fmodel, core, IsAsked}
use Rattle.dimacs_front.specs.Files.{IsHeld, IsOutcome, IsRefused, limit}
use Rattle.dimacs_front.specs.Dimacs.{IsDimacs}
use Rattle.dimacs_front.specs.FormulaRefusals.{IsFormulaRefusal}
use Rattle.dimacs_front.specs.Qdimacs.{IsQdimacs}
use Rattle.dimacs_front.specs.Refusals.{IsRefusal as IsTextRefusal}
use Rattle.dimacs_front.specs.declared.answers.SatAnswer.{SatAnswer}
use Rattle.dimacs_front.specs.declared.answers.SatAnswer.TheVariants.{Satisfiable, Unsatisfiable}
use Rattle.dimacs_front.specs.declared.cnf.Cnf.{Cnf}
use Rattle.dimacs_front.specs.declared.cnf.Qbf.{Qbf as Formula}
use Rattle.dimacs_front.specs.declared.error.DimacsError.{DimacsError}
use Rattle.dimacs_front.specs.declared.error.DimacsError.TheVariants as fault
use Rattle.dimacs_front.specs.declared.file.SatError.{SatError}
use Rattle.dimacs_front.specs.declared.file.SatError.TheVariants as bar
use Rattle.szs_prove.specs.Answers.{HasVerdict, IsProblemOf, IsProof, IsRefusal, IsUndecided, Reading, ReasonRelation}
use Rattle.szs_prove.specs.Answered.{Answered, Finding, Finds, IsAnswer, IsBarred, IsCoreOutcome, IsExact, IsFinding, IsFitting, IsLoaded, IsModelOutcome, IsRead, IsRefusedBy, IsReplyOf, IsRewritingOf, IsWanted, Situation, Stands, TextRelation, Wants, Writing, Yields, ask_exit, asks, check_exit, exit_for, problem_exit, judgement_exit, qbf_exit, reply_exit, rewriting_exit, sat_exit, stress_exit, unjudged_status, unread}
use Rattle.szs_prove.specs.Texts.{exit_of, load_status, text_status}
use Rattle.szs_prove.specs.CoreAnswers.{HasCoreAnswer, IsUncored}
use Rattle.szs_prove.specs.Formulas.{IsFormulaOutcome, IsFormulaRefused}
use Rattle.szs_prove.specs.ModelAnswers.{HasModelAnswer, IsUnmodelled}
use Rattle.dimacs_front.specs.Notices.{fault_status as status_of_text}
use Rattle.szs_prove.proofs.Endings.{AsksOne}
use Rattle.szs_prove.proofs.FirstFunctions.{not_free, one_first}
use Rattle.szs_prove.specs.declared.answer.Answer.{Answer}
use Rattle.szs_prove.specs.declared.answer.Answer.TheVariants.{Prove, Sat, Check, Rewrite, Ask, Stress, Qbf, Fmodel, Core, Unread, NoWords}
use Rattle.szs_prove.specs.declared.exit.Exit.{Exit}
use Rattle.szs_prove.specs.declared.exit.Exit.TheVariants as exit
use Rattle.szs_prove.specs.declared.formula.FormulaAnswer.{FormulaAnswer}
use Rattle.szs_prove.specs.declared.formula.FormulaAnswer.TheVariants.{True, False}
use Rattle.szs_prove.specs.declared.refusal.Reason.{Reason}
use Rattle.szs_prove.specs.declared.refusal.Reason.TheVariants.{OutOfBudget, TooWide, Functions}
use Rattle.szs_prove.specs.declared.refusal.Refusal.{Refusal}
use Rattle.szs_prove.specs.declared.refusal.Refusal.TheVariants.{Load, Unanswered, Memory}
use Rattle.szs_prove.specs.declared.sizes.Size.{Size}

-- ---- a file in the DIMACS form

some_bytes : (files : List NamedFile) (file a b : List ℕ) → bytes_named files file ≡ Some a → bytes_named files file ≡ Some b → a ≡ b
some_bytes files file a b p q = cc

not_none : (files : List NamedFile) (file a : List ℕ) → bytes_named files file ≡ Some a → bytes_named files file ≡ None → ⊥
not_none files file a p q = cc

-- that a text spells one thing, or is refused for one reason
pub record SpellsOne (A : Type 0) (spells : TextRelation A) (refuses : TextRelation DimacsError) : Type 0 where
  pub spellings : (text : List ℕ) (c d : A) → spells text c → spells text d → c ≡ d
  pub refusals : (text : List ℕ) (d e : DimacsError) → refuses text d → refuses text e → d ≡ e
  pub apart : (text : List ℕ) (c : A) (e : DimacsError) → spells text c → refuses text e → ⊥

module _ (A : Type 0) (spells : TextRelation A) (refuses : TextRelation DimacsError) (one : SpellsOne A spells refuses) where
  read_both : (a b : List ℕ) (c d : A) → a ≡ b → spells a c → spells b d → c ≡ d
  read_both a b c d same p q = one.spellings b c d (subst (λ x. spells x c) same p) q

  read_or_not : (a b : List ℕ) (c : A) (e : DimacsError) → a ≡ b → spells a c → refuses b e → ⊥
  read_or_not a b c e same p q = one.apart b c e (subst (λ x. spells x c) same p) q

  refused_both : (a b : List ℕ) (d e : DimacsError) → a ≡ b → refuses a d → refuses b e → d ≡ e
  refused_both a b d e same p q = one.refusals b d e (subst (λ x. refuses x d) same p) q

  -- the bytes of the file are refused for this
  abbrev RefusesBytes : List NamedFile → List ℕ → DimacsError → Type 0
  RefusesBytes files file e = (b : List ℕ) × IsHeld (Some files) file b × refuses b e

  refused_bytes : (files : List NamedFile) (file : List ℕ) (e : DimacsError) → IsRefusedBy refuses files file e → RefusesBytes files file e
  refused_bytes files file (fault.Syntax line) h = h
  refused_bytes files file (fault.Range line) h = h
  refused_bytes files file (fault.Count found) h = h
  refused_bytes files file fault.Limit h = h
  refused_bytes files file (fault.Twice line) h = h
  refused_bytes files file fault.Memory h = absurd h

  module _ (files : List NamedFile) (file : List ℕ) where
    one_form : (c d : A) → IsRead spells refuses files file (Ok c) → IsRead spells refuses files file (Ok d) → c ≡ d
    one_form c d h k = read_both h.0 k.0 c d (some_bytes files file h.0 k.0 h.1.1 k.1.1) h.2 k.2

    not_refused : (c : A) (e : DimacsError) → IsRead spells refuses files file (Ok c) → RefusesBytes files file e → ⊥
    not_refused c e h k = read_or_not h.0 k.0 c e (some_bytes files file h.0 k.0 h.1.1 k.1.1) h.2 k.2

    too_many : (a b : List ℕ) → IsHeld (Some files) file a → bytes_named files file ≡ Some b → limit < length b → ⊥
    too_many a b h named long =
        let same = some_bytes files file b a named h.1 in
        let more : limit < length a = subst (λ (x : List ℕ). limit < length x) same long in
        let few : length a ≤ limit = h.0 in
        omega (arith, more, few)

    not_barred : (c : A) (e : SatError) → IsRead spells refuses files file (Ok c) → IsBarred refuses files file e → ⊥
    not_barred c bar.Absent h k = not_none files file h.0 h.1.1 k
    not_barred c bar.TooLong h k = too_many h.0 k.0 h.1 k.1 k.2
    not_barred c (bar.Text e) h k = not_refused c e h (refused_bytes files file e k)
    not_barred c bar.ReadFault h k = k
    not_barred c bar.Memory h k = k

    one_bar : (d e : SatError) → IsBarred refuses files file d → IsBarred refuses files file e → d ≡ e
    one_bar bar.Absent bar.Absent h k = refl
    one_bar bar.Absent bar.TooLong h k = absurd (not_none files file k.0 k.1 h)
    one_bar bar.Absent (bar.Text e) h k = let r = refused_bytes files file e k in absurd (not_none files file r.0 r.1.1 h)
    one_bar bar.TooLong bar.Absent h k = absurd (not_none files file h.0 h.1 k)
    one_bar bar.TooLong bar.TooLong h k = refl
    one_bar bar.TooLong (bar.Text e) h k = let r = refused_bytes files file e k in absurd (too_many r.0 h.0 r.1 h.1 h.2)
    one_bar (bar.Text d) bar.Absent h k = let r = refused_bytes files file d h in absurd (not_none files file r.0 r.1.1 k)
    one_bar (bar.Text d) bar.TooLong h k = let r = refused_bytes files file d h in absurd (too_many r.0 k.0 r.1 k.1 k.2)
    one_bar (bar.Text d) (bar.Text e) h k =
        let g = refused_bytes files file d h in
        let r = refused_bytes files file e k in
        ap bar.Text (refused_both g.0 r.0 d e (some_bytes files file g.0 r.0 g.1.1 r.1.1) g.2 r.2)
    one_bar bar.ReadFault e h k = absurd h
    one_bar bar.Memory e h k = absurd h
    one_bar d bar.ReadFault h k = absurd k
    one_bar d bar.Memory h k = absurd k

    one_read : (s t : Result A SatError) → IsRead spells refuses files file s → IsRead spells refuses files file t → s ≡ t
    one_read (Ok c) (Ok d) h k = ap Ok (one_form c d h k)
    one_read (Ok c) (Err e) h k = absurd (not_barred c e h k)
    one_read (Err e) (Ok d) h k = absurd (not_barred d e k h)
    one_read (Err d) (Err e) h k = ap Err (one_bar d e h k)

-- ---- one finding

-- that a file gives one problem, or is refused for one reason
pub record LoadsOne : Type 0 where
  pub problems : (files : List NamedFile) (name : List ℕ) (root : Option (List ℕ)) (p q : Problem) → Loads files name root p → Loads files name root q → p ≡ q
  pub refusals : (files : List NamedFile) (name : List ℕ) (root : Option (List ℕ)) (e f : LoadError) → Refuses files name root e → Refuses files name root f → e ≡ f
  pub apart : (files : List NamedFile) (name : List ℕ) (root : Option (List ℕ)) (p : Problem) (e : LoadError) → Loads files name root p → Refuses files name root e → ⊥

-- that files give one answer to a check, and one to a question
abbrev pub FindsOne : Type 0
FindsOne =
    ((files : List NamedFile) (name : List ℕ) (problem root : Option (List ℕ)) (a b : Result (Form × Judgement) CheckFault) → IsFound files name problem root a → IsFound files name problem root b → a ≡ b)
    × ((files : List NamedFile) (name : List ℕ) (t : Tree) (a b : Result Reply CertFault) → IsFoundReply files name t a → IsFoundReply files name t b → a ≡ b)

one_loaded : LoadsOne → (files : List NamedFile) (file : List ℕ) (root : Option (List ℕ)) (s t : Result Problem LoadError) → IsLoaded files file root s → IsLoaded files file root t → s ≡ t
one_loaded one files file root (Ok p) (Ok q) h k = ap Ok (one.problems files file root p q h k)
one_loaded one files file root (Ok p) (Err e) h k = absurd (one.apart files file root p e h k)
one_loaded one files file root (Err e) (Ok p) h k = absurd (one.apart files file root p e k h)
one_loaded one files file root (Err e) (Err f) h k = ap Err (one.refusals files file root e f h k)

-- a problem either fits or is barred, and that for one reason
record IsSplit (fits : Problem → Type 0) (bars : ReasonRelation) : Type 0 where
  apart : (p : Problem) (r : Reason) → fits p → bars p r → ⊥
  once : (p : Problem) (r s : Reason) → bars p r → bars p s → r ≡ s

module _ (one : LoadsOne) (fits : Problem → Type 0) (bars : ReasonRelation) (split : IsSplit fits bars) (files : List NamedFile) (file : List ℕ) (root : Option (List ℕ)) where
  fits_unbarred : (p q : Problem) (r : Reason) → Loads files file root p → fits p → Loads files file root q → bars q r → ⊥
  fits_unbarred p q r h fit k barred = split.apart p r fit (subst (λ (x : Problem). bars x r) (one.problems files file root q p k h) barred)

  same_reason : (p q : Problem) (r s : Reason) → Loads files file root p → bars p r → Loads files file root q → bars q s → r ≡ s
  same_reason p q r s h first k other = split.once p r s first (subst (λ (x : Problem). bars x s) (one.problems files file root q p k h) other)

  one_fitting : (s t : Result Problem Refusal) → IsFitting fits bars files file root s → IsFitting fits bars files file root t → s ≡ t
  one_fitting (Ok p) (Ok q) h k = ap Ok (one.problems files file root p q h.0 k.0)
  one_fitting (Ok p) (Err (Load e)) h k = absurd (one.apart files file root p e h.0 k)
  one_fitting (Ok p) (Err (Unanswered r)) h k = absurd (fits_unbarred p k.0 r h.0 h.1 k.1 k.2)
  one_fitting (Err (Load e)) (Ok p) h k = absurd (one.apart files file root p e k.0 h)
  one_fitting (Err (Unanswered r)) (Ok p) h k = absurd (fits_unbarred p h.0 r k.0 k.1 h.1 h.2)
  one_fitting (Err (Load e)) (Err (Load f)) h k = ap (λ (x : LoadError). Err (Load x)) (one.refusals files file root e f h k)
  one_fitting (Err (Load e)) (Err (Unanswered r)) h k = absurd (one.apart files file root k.0 e k.1 h)
  one_fitting (Err (Unanswered r)) (Err (Load e)) h k = absurd (one.apart files file root h.0 e h.1 k)
  one_fitting (Err (Unanswered r)) (Err (Unanswered s)) h k = ap (λ (x : Reason). Err (Unanswered x)) (same_reason h.0 k.0 r s h.1 h.2 k.1 k.2)
  one_fitting (Err Memory) t h k = absurd h
  one_fitting s (Err Memory) h k = absurd k

tables_split : (elements : ℕ) → IsSplit (λ p. ¬ IsTooWide elements p.clauses) (IsUnmodelled elements)
tables_split elements = record { apart = apart; once = once }
  where
    apart : (p : Problem) (r : Reason) → ¬ IsTooWide elements p.clauses → IsUnmodelled elements p r → ⊥
    apart p (OutOfBudget all left least) small h = absurd h
    apart p TooWide small wide = small wide
    apart p (Functions clause) small h = absurd h

    once : (p : Problem) (r s : Reason) → IsUnmodelled elements p r → IsUnmodelled elements p s → r ≡ s
    once p (OutOfBudget all left least) s h k = absurd h
    once p (Functions clause) s h k = absurd h
    once p TooWide (OutOfBudget all left least) h k = absurd k
    once p TooWide (Functions clause) h k = absurd k
    once p TooWide TooWide h k = refl

cores_split : IsSplit (λ p. IsTrue (is_function_free p.clauses)) IsUncored
cores_split = record { apart = apart; once = once }
  where
    apart : (p : Problem) (r : Reason) → IsTrue (is_function_free p.clauses) → IsUncored p r → ⊥
    apart p (OutOfBudget all left least) free h = absurd h
    apart p TooWide free h = absurd h
    apart p (Functions clause) free first = not_free p.clauses clause first free

    once : (p : Problem) (r s : Reason) → IsUncored p r → IsUncored p s → r ≡ s
    once p (OutOfBudget all left least) s h k = absurd h
    once p TooWide s h k = absurd h
    once p (Functions m) (OutOfBudget all left least) h k = absurd k
    once p (Functions m) TooWide h k = absurd k
    once p (Functions m) (Functions n) h k = ap Functions (one_first p.clauses m n h k)

-- that a text is of one form in one way
pub record FormsOne : Type 0 where
  pub dimacs : SpellsOne Cnf IsDimacs IsTextRefusal
  pub qdimacs : SpellsOne Formula IsQdimacs IsFormulaRefusal

-- what a question finds, by the law of its command
one_found : LoadsOne → FindsOne → FormsOne → (files : List NamedFile) (a : Asked) (x y : Finding a) → Finds files a x → Finds files a y → x ≡ y
one_found loads found forms files (prove file root budget) x y h k = one_loaded loads files file root x y h k
one_found loads found forms files (sat file) x y h k = one_read Cnf IsDimacs IsTextRefusal forms.dimacs files file x y h k
one_found loads found forms files (check cert problem root) x y h k = found.0 files cert problem root x y h k
one_found loads found forms files (rewrite cert problem root) x y h k = found.0 files cert problem root x y h k
one_found loads found forms files (ask cert atom) x y h k = found.1 files cert atom.atom x y h k
one_found loads found forms files (stress number) x y h k = refl
one_found loads found forms files (qbf file) x y h k = one_read Formula IsQdimacs IsFormulaRefusal forms.qdimacs files file x y h k
one_found loads found forms files (fmodel elements file root) x y h k =
    one_fitting loads (λ p. ¬ IsTooWide elements p.clauses) (IsUnmodelled elements) (tables_split elements) files file root x y h k
one_found loads found forms files (core file root) x y h k = one_fitting loads (λ p. IsTrue (is_function_free p.clauses)) IsUncored cores_split files file root x y h k

-- ---- the exit of each answer

module _ (words : List (List ℕ)) (files : List NamedFile) (read : Reading) (write : Writing) (told : read.old.files ≡ Some files) where
  -- the exit is wanted in a situation that stands, or yields
  abbrev IsDue : Exit → Type 0
  IsDue e = ((s : Situation) × Stands words files s × IsWanted s e) ⊎ Yields read write e

  due : (a : Asked) (x : Finding a) (e : Exit) → IsAsked words a → Finds files a x → Wants a x e → IsDue e
  due a x e asked finds wants = inl (asks a x, (asked, finds), wants)

  fault_due : Rose read.old.faults read.new.faults → IsDue exit.ReadFault
  fault_due h = inr (inl (refl, h))

  want_due : IsDue exit.Memory
  want_due = inr (inr (inr refl))

  -- a text that is refused, whatever the reason but want of memory
  text_due : (f : ReadError) → f ≢ text.Memory → IsDue exit.Refused → IsDue (exit_of (text_status f))
  text_due (text.Syntax k) some h = h
  text_due (text.Language k w) some h = h
  text_due (text.Feature k w) some h = h
  text_due (text.Role k w) some h = h
  text_due (text.Limit k which) some h = h
  text_due text.Memory some h = absurd (some refl)

  -- why a file gives no problem, where what it gives makes the exit due
  load_due : (file : List ℕ) (root : Option (List ℕ)) (e : LoadError) → IsLoadCause (Some files) read.old.faults read.new.faults file root e
      → (Refuses files file root e → IsDue exit.Refused) → IsDue (exit_of (load_status e))
  load_due file root (load.Text at f) h refused = text_due f h.0 (refused h.1)
  load_due file root (load.Absent name) h refused = refused h
  load_due file root (load.NotSelected at name) h refused = refused h
  load_due file root (load.IncludeDepth at) h refused = refused h
  load_due file root load.TooLong h refused = refused h
  load_due file root load.ReadFault h refused = fault_due h
  load_due file root load.Memory h refused = want_due

  -- the cause of a load, where the files are told
  load_here : (file : List ℕ) (root : Option (List ℕ)) (e : LoadError) → IsLoadCause read.old.files read.old.faults read.new.faults file root e
      → IsLoadCause (Some files) read.old.faults read.new.faults file root e
  load_here file root e h = subst (λ (o : Option (List NamedFile)). IsLoadCause o read.old.faults read.new.faults file root e) told h

  -- a problem that is barred, where the files are told
  barred_here : (bars : ReasonRelation) (file : List ℕ) (root : Option (List ℕ)) (r : Reason) → IsRefusal bars read file root (Unanswered r) → (p : Problem) × Loads files file root p × bars p r
  barred_here bars file root r h =
      let w = subst (λ (fs : Option (List NamedFile)). (p : Problem) × IsProblemOf fs file root p × bars p r) told h in
      (w.0, w.1.loads, w.2)

  refusal_due : (file : List ℕ) (root : Option (List ℕ)) (budget : ℕ) → IsAsked words (prove file root budget) → (why : Refusal) → IsRefusal (IsUndecided budget) read file root why
      → IsDue (problem_exit (Err why))
  refusal_due file root budget asked (Load e) h =
      load_due file root e (load_here file root e h) (λ refuses. due (prove file root budget) (Err e) exit.Refused asked refuses refl)
  refusal_due file root budget asked (Unanswered (OutOfBudget all left least)) h =
      let w = barred_here (IsUndecided budget) file root (OutOfBudget all left least) h in
      due (prove file root budget) (Ok w.0) exit.ResourceOut asked w.1 (inr (refl, w.2.1.ends.functions))
  refusal_due file root budget asked (Unanswered TooWide) h = absurd h.2
  refusal_due file root budget asked (Unanswered (Functions clause)) h = absurd h.2
  refusal_due file root budget asked Memory h = want_due

  prove_due : (file : List ℕ) (root : Option (List ℕ)) (budget : ℕ) → IsAsked words (prove file root budget) → (o : Result (List ℕ) Refusal) → IsProof read file root budget o
      → IsDue (problem_exit o)
  prove_due file root budget asked (Ok text) h =
      let v = subst (λ (fs : Option (List NamedFile)). HasVerdict fs file root text) told h in
      due (prove file root budget) (Ok v.1.problem) exit.Decided asked v.1.is_problem.loads (inl refl)
  prove_due file root budget asked (Err why) h = refusal_due file root budget asked why h

  fmodel_due : (elements : ℕ) (file : List ℕ) (root : Option (List ℕ)) → IsAsked words (fmodel elements file root) → (o : Result (List ℕ) Refusal) → IsModelOutcome read elements file root o
      → IsDue (problem_exit o)
  fmodel_due elements file root asked (Ok text) h =
      let a = subst (λ (fs : Option (List NamedFile)). HasModelAnswer fs elements file root text) told h in
      due (fmodel elements file root) (Ok a.0) exit.Decided asked (a.1.loads, a.2.narrow) refl
  fmodel_due elements file root asked (Err (Load e)) h =
      load_due file root e (load_here file root e h) (λ refuses. due (fmodel elements file root) (Err (Load e)) exit.Refused asked refuses refl)
  fmodel_due elements file root asked (Err (Unanswered (OutOfBudget all left least))) h = absurd h.2
  fmodel_due elements file root asked (Err (Unanswered TooWide)) h =
      due (fmodel elements file root) (Err (Unanswered TooWide)) exit.Refused asked (barred_here (IsUnmodelled elements) file root TooWide h) refl
  fmodel_due elements file root asked (Err (Unanswered (Functions clause))) h = absurd h.2
  fmodel_due elements file root asked (Err Memory) h = want_due

  core_due : (file : List ℕ) (root : Option (List ℕ)) → IsAsked words (core file root) → (o : Result (List ℕ) Refusal) → IsCoreOutcome read file root o → IsDue (problem_exit o)
  core_due file root asked (Ok text) h =
      let a = subst (λ (fs : Option (List NamedFile)). HasCoreAnswer fs file root text) told h in
      due (core file root) (Ok a.0) exit.Decided asked (a.1.loads, a.2) refl
  core_due file root asked (Err (Load e)) h =
      load_due file root e (load_here file root e h) (λ refuses. due (core file root) (Err (Load e)) exit.Refused asked refuses refl)
  core_due file root asked (Err (Unanswered (OutOfBudget all left least))) h = absurd h.2
  core_due file root asked (Err (Unanswered TooWide)) h = absurd h.2
  core_due file root asked (Err (Unanswered (Functions clause))) h =
      due (core file root) (Err (Unanswered (Functions clause))) exit.Refused asked (barred_here IsUncored file root (Functions clause) h) refl
  core_due file root asked (Err Memory) h = want_due

  -- why a text is refused, where that makes the exit due
  lines_due : (refuses : TextRelation DimacsError) (file : List ℕ) → ((e : SatError) → IsBarred refuses files file e → IsDue exit.Refused)
      → (e : DimacsError) → IsRefusedBy refuses files file e → IsDue (exit_of (status_of_text e))
  lines_due refuses file refused (fault.Syntax line) h = refused (bar.Text (fault.Syntax line)) h
  lines_due refuses file refused (fault.Range line) h = refused (bar.Text (fault.Range line)) h
  lines_due refuses file refused (fault.Count found) h = refused (bar.Text (fault.Count found)) h
  lines_due refuses file refused fault.Limit h = refused (bar.Text fault.Limit) h
  lines_due refuses file refused (fault.Twice line) h = refused (bar.Text (fault.Twice line)) h
  lines_due refuses file refused fault.Memory h = absurd h

  refused_clauses : (file : List ℕ) (e : DimacsError) → IsRefused (Some files) file e → IsRefusedBy IsTextRefusal files file e
  refused_clauses file (fault.Syntax line) h = h
  refused_clauses file (fault.Range line) h = h
  refused_clauses file (fault.Count found) h = h
  refused_clauses file fault.Limit h = h
  refused_clauses file (fault.Twice line) h = h
  refused_clauses file fault.Memory h = h

  refused_formula : (file : List ℕ) (e : DimacsError) → IsFormulaRefused (Some files) file e → IsRefusedBy IsFormulaRefusal files file e
  refused_formula file (fault.Syntax line) h = h
  refused_formula file (fault.Range line) h = h
  refused_formula file (fault.Count found) h = h
  refused_formula file fault.Limit h = h
  refused_formula file (fault.Twice line) h = h
  refused_formula file fault.Memory h = h

  -- where the files are told, as a fact of the files
  abbrev here : Told
  here = record { files = Some files; rest = read.old.rest; faults = read.old.faults }

  barred_due : (file : List ℕ) → IsAsked words (sat file) → (e : SatError) → IsBarred IsTextRefusal files file e → IsDue exit.Refused
  barred_due file asked e h = due (sat file) (Err e) exit.Refused asked h refl

  sat_due : (file : List ℕ) → IsAsked words (sat file) → (o : Result SatAnswer SatError) → IsOutcome here read.new file o → IsDue (sat_exit o)
  sat_due file asked (Ok (Satisfiable text)) h = due (sat file) (Ok h.1) exit.Sat asked (h.0, h.2, h.3) (inl (refl, h.4.values, h.4.model))
  sat_due file asked (Ok (Unsatisfiable text)) h = due (sat file) (Ok h.1) exit.Unsat asked (h.0, h.2, h.3) (inr (refl, h.4.none))
  sat_due file asked (Err bar.Absent) h = barred_due file asked bar.Absent h
  sat_due file asked (Err bar.TooLong) h = barred_due file asked bar.TooLong h
  sat_due file asked (Err (bar.Text e)) h = lines_due IsTextRefusal file (barred_due file asked) e (refused_clauses file e h)
  sat_due file asked (Err bar.ReadFault) h = fault_due h
  sat_due file asked (Err bar.Memory) h = want_due

  formula_due : (file : List ℕ) → IsAsked words (qbf file) → (e : SatError) → IsBarred IsFormulaRefusal files file e → IsDue exit.Refused
  formula_due file asked e h = due (qbf file) (Err e) exit.Refused asked h refl

  qbf_due : (file : List ℕ) → IsAsked words (qbf file) → (o : Result FormulaAnswer SatError) → IsFormulaOutcome here read.new file o → IsDue (qbf_exit o)
  qbf_due file asked (Ok (True text)) h = due (qbf file) (Ok h.1) exit.Sat asked (h.0, h.2, h.3) (inl (refl, h.4.0))
  qbf_due file asked (Ok (False text)) h = due (qbf file) (Ok h.1) exit.Unsat asked (h.0, h.2, h.3) (inr (refl, h.4.0))
  qbf_due file asked (Err bar.Absent) h = formula_due file asked bar.Absent h
  qbf_due file asked (Err bar.TooLong) h = formula_due file asked bar.TooLong h
  qbf_due file asked (Err (bar.Text e)) h = lines_due IsFormulaRefusal file (formula_due file asked) e (refused_formula file e h)
  qbf_due file asked (Err bar.ReadFault) h = fault_due h
  qbf_due file asked (Err bar.Memory) h = want_due

  outcome_here : (file : List ℕ) (o : Result SatAnswer SatError) → IsOutcome read.old read.new file o → IsOutcome here read.new file o
  outcome_here file o h = subst (λ (fs : Option (List NamedFile)). IsOutcome (record { files = fs; rest = read.old.rest; faults = read.old.faults }) read.new file o) told h

  formula_here : (file : List ℕ) (o : Result FormulaAnswer SatError) → IsFormulaOutcome read.old read.new file o → IsFormulaOutcome here read.new file o
  formula_here file o h = subst (λ (fs : Option (List NamedFile)). IsFormulaOutcome (record { files = fs; rest = read.old.rest; faults = read.old.faults }) read.new file o) told h

  -- why a certificate is not judged, where what the files give makes the exit due
  module _ (cert : List ℕ) (root : Option (List ℕ)) where
    problem_due : (problem : Option (List ℕ)) → HasCertificate (Some files) cert → (e : LoadError) → IsProblemFault (Some files) read.old.faults read.new.faults problem root e
        → ((why : CheckFault) → IsFound files cert problem root (Err why) → IsDue exit.Refused) → IsDue (exit_of (load_status e))
    problem_due None c e h refused = absurd h
    problem_due (Some file) c e h refused = load_due file root e h (λ refuses. refused (unjudged.Problem e) (c, refuses))

    unjudged_due : (problem : Option (List ℕ)) (why : CheckFault) → IsCheckFault (Some files) read.old.faults read.new.faults cert problem root why
        → ((w : CheckFault) → IsFound files cert problem root (Err w) → IsDue exit.Refused) → IsDue (exit_of (unjudged_status why))
    unjudged_due problem (unjudged.Cert bad.Absent) h refused = refused (unjudged.Cert bad.Absent) h.1
    unjudged_due problem (unjudged.Cert bad.TooLong) h refused = refused (unjudged.Cert bad.TooLong) h.1
    unjudged_due problem (unjudged.Cert bad.ReadFault) h refused = fault_due h.1
    unjudged_due problem (unjudged.Cert (bad.Syntax line)) h refused = refused (unjudged.Cert (bad.Syntax line)) h.1
    unjudged_due problem (unjudged.Cert (bad.Version word)) h refused = refused (unjudged.Cert (bad.Version word)) h.1
    unjudged_due problem (unjudged.Cert bad.NoSaturation) h refused = absurd h.1
    unjudged_due problem (unjudged.Cert bad.Memory) h refused = absurd (h.0 refl)
    unjudged_due problem (unjudged.Problem e) h refused = problem_due problem h.0 e h.2 refused
    unjudged_due problem unjudged.Memory h refused = want_due

    fault_here : (problem : Option (List ℕ)) (why : CheckFault) → IsCheckFault read.old.files read.old.faults read.new.faults cert problem root why
        → IsCheckFault (Some files) read.old.faults read.new.faults cert problem root why
    fault_here problem why h = subst (λ (fs : Option (List NamedFile)). IsCheckFault fs read.old.faults read.new.faults cert problem root why) told h

  check_due : (cert : List ℕ) (problem root : Option (List ℕ)) → IsAsked words (check cert problem root) → (o : Result (Form × Judgement) CheckFault) → IsFinding read cert problem root o
      → IsDue (check_exit o)
  check_due cert problem root asked (Ok found) h =
      due (check cert problem root) (Ok found) (judgement_exit found.1) asked (subst (λ (fs : Option (List NamedFile)). IsJudged fs cert problem root found) told h) refl
  check_due cert problem root asked (Err why) h =
      unjudged_due cert root problem why (fault_here cert root problem why h) (λ w finds. due (check cert problem root) (Err w) exit.Refused asked finds refl)

  rewriting_due : (cert : List ℕ) (problem root : Option (List ℕ)) → IsAsked words (rewrite cert problem root) → (o : Result Rewriting CheckFault) → IsRewritingOf read cert problem root o
      → IsDue (rewriting_exit o)
  rewriting_due cert problem root asked (Ok (rewriting.Text text)) h =
      let here = subst (λ (fs : Option (List NamedFile)). IsRewritten fs cert problem root (rewriting.Text text)) told h in
      due (rewrite cert problem root) (Ok (form_of here.certificate, found.Valid)) exit.Decided asked (judged (Some files) cert problem root (rewriting.Text text) here) refl
  rewriting_due cert problem root asked (Ok (rewriting.Refused own j)) h =
      let here = subst (λ (fs : Option (List NamedFile)). IsRewritten fs cert problem root (rewriting.Refused own j)) told h in
      due (rewrite cert problem root) (Ok (own, j)) (judgement_exit j) asked (judged (Some files) cert problem root (rewriting.Refused own j) here) refl
  rewriting_due cert problem root asked (Err why) h =
      unjudged_due cert root problem why (fault_here cert root problem why h) (λ w finds. due (rewrite cert problem root) (Err w) exit.Refused asked finds refl)

  ask_refused : (cert : List ℕ) (atom : Signed Tree) → IsAsked words (ask cert atom) → (f : CertFault) → IsFoundReply files cert atom.atom (Err f) → IsDue exit.Refused
  ask_refused cert atom asked f h = due (ask cert atom) (Err f) exit.Refused asked h refl

  query_due : (cert : List ℕ) (atom : Signed Tree) → IsAsked words (ask cert atom) → (f : CertFault) → IsAskFault (Some files) read.old.faults read.new.faults cert f
      → IsDue (ask_exit (Err f))
  query_due cert atom asked bad.Absent h = ask_refused cert atom asked bad.Absent h
  query_due cert atom asked bad.TooLong h = ask_refused cert atom asked bad.TooLong h
  query_due cert atom asked bad.ReadFault h = fault_due h
  query_due cert atom asked (bad.Syntax line) h = ask_refused cert atom asked (bad.Syntax line) h
  query_due cert atom asked (bad.Version word) h = ask_refused cert atom asked (bad.Version word) h
  query_due cert atom asked bad.NoSaturation h = ask_refused cert atom asked bad.NoSaturation h
  query_due cert atom asked bad.Memory h = want_due

  ask_due : (cert : List ℕ) (atom : Signed Tree) → IsAsked words (ask cert atom) → (o : Result Reply CertFault) → IsReplyOf read cert atom.atom o → IsDue (ask_exit o)
  ask_due cert atom asked (Ok r) h =
      due (ask cert atom) (Ok r) (reply_exit r) asked (subst (λ (fs : Option (List NamedFile)). IsReplied fs cert atom.atom r) told h) refl
  ask_due cert atom asked (Err f) h = query_due cert atom asked f (subst (λ (fs : Option (List NamedFile)). IsAskFault fs read.old.faults read.new.faults cert f) told h)

  stress_due : (number : ℕ) → IsAsked words (stress number) → (o : Result Size OutOfMemory) → IsDue (stress_exit o)
  stress_due number asked (Ok size) = due (stress number) tt exit.Decided asked tt refl
  stress_due number asked (Err want) = want_due

  answer_due : (name : List ℕ) (a : Answer) → IsAnswer words read name a → IsDue (exit_for a)
  answer_due name (Prove o) h = prove_due name h.0 h.1 h.2 o h.3
  answer_due name (Sat o) h = sat_due name h.0 o (outcome_here name o h.1)
  answer_due name (Check o) h = check_due name h.0 h.1 h.2 o h.3
  answer_due name (Rewrite o) h = rewriting_due name h.0 h.1 h.2 o h.3
  answer_due name (Ask o) h = ask_due name h.0 h.1 o h.2
  answer_due name (Stress o) h = stress_due h.2 h.3 o
  answer_due name (Qbf o) h = qbf_due name h.0 o (formula_here name o h.1)
  answer_due name (Fmodel o) h = fmodel_due h.0 name h.1 h.2 o h.3
  answer_due name (Core o) h = core_due name h.0 h.1 o h.2
  answer_due name Unread h = inl (unread, h.2, refl)
  answer_due name NoWords h = want_due

  exit_due : (e : Exit) → Answered words read write e → IsDue e
  exit_due e a = elim a.written [
    | inl w ↦ subst IsDue (sym w.0) (answer_due a.name a.answer a.cause)
    | inr v ↦ elim v [
      | inl w ↦ inr (inr (inl (w.0, w.2)))
      | inr w ↦ inr (inr (inr w.0))
    ]
  ]

  -- what is wanted in one situation that stands is wanted in each
  wanted_too : LoadsOne → FindsOne → FormsOne → AsksOne → (e : Exit) (s t : Situation) → Stands words files s → IsWanted s e → Stands words files t → IsWanted t e
  wanted_too loads found forms once e (asks a x) (asks b y) h wants k =
      let at_one : (z : Finding a) → Finds files a z → Wants a z e = λ z finds. subst (λ (w : Finding a). Wants a w e) (one_found loads found forms files a x z h.1 finds) wants in
      let moved : (z : Finding b) → Finds files b z → Wants b z e = subst (λ (q : Asked). (z : Finding q) → Finds files q z → Wants q z e) (once words a b h.0 k.0) at_one in
      moved y k.1
  wanted_too loads found forms once e (asks a x) unread h wants k = absurd (k a h.0)
  wanted_too loads found forms once e unread (asks b y) h wants k = absurd (h b k.0)
  wanted_too loads found forms once e unread unread h wants k = wants

  is_exact : LoadsOne → FindsOne → FormsOne → AsksOne → (e : Exit) → Answered words read write e → IsExact words files read write e
  is_exact loads found forms once e a = record { cause = exit_due e a; each = λ s h. by s h (exit_due e a) }
    where
      by : (s : Situation) → Stands words files s → IsDue e → IsWanted s e ⊎ Yields read write e
      by s h (inl d) = inl (wanted_too loads found forms once e d.0 s d.1 d.2 h)
      by s h (inr y) = inr y

pub exact : LoadsOne → FindsOne → FormsOne → AsksOne → (words : List (List ℕ)) (read : Reading) (write : Writing) (e : Exit) → Answered words read write e
    → IfSome read.old.files (λ files. IsExact words files read write e)
exact loads found forms once words read write e a = by read.old.files refl
  where
    by : (o : Option (List NamedFile)) → read.old.files ≡ o → IfSome o (λ files. IsExact words files read write e)
    by None told = tt
    by (Some files) told = is_exact words files read write told loads found forms once e a
