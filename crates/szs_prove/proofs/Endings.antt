-- What the exit tells of the answer, and of what was written.
use Rattle.std.proofs.Common.{◌≡◌, ◌≢◌, ◌∙◌, ℕ, List, [], false, nat_eq, Option, None, Some, inl, inr, refl, sym, ap, subst, codes, arith}
use Rattle.std.specs.Prelude.{⊤, ◌⊎◌, Result, Ok, Err}
use Rattle.std.specs.Io.KnownBytes.{Appends}
use Rattle.std.proofs.lemmas.Bool.Decides.{nat_tests}
use Rattle.outside_io.specs.Causes.{Rose}
use Rattle.outside_io.specs.Notices.{notice_text}
use Rattle.outside_io.specs.declared.notices.Status.{Status}
use Rattle.cert_format.specs.Certificate.{Certificate}
use Rattle.cert_format.specs.Text.{written_text}
use Rattle.tptp_read.specs.declared.text.ReadError.{ReadError}
use Rattle.tptp_load.specs.Problems.{IsLoadCause}
use Rattle.tptp_load.specs.declared.error.LoadError.{LoadError}
use Rattle.inst_logic.specs.declared.memory.Memory.{Memory as OutOfMemory}
use Rattle.inst_logic.specs.declared.signed.Signed.{Signed}
use Rattle.inst_logic.specs.Tree.{Tree}
use Rattle.cert_front.specs.Words.{judgement_line, reply_line}
use Rattle.cert_front.specs.declared.judgement.Judgement.{Judgement}
use Rattle.cert_front.specs.declared.reply.Reply.{Reply}
use Rattle.cert_front.specs.declared.rewriting.Rewriting.{Rewriting}
use Rattle.cert_front.specs.declared.words.Form.{Form}
use Rattle.cert_front.specs.Certificates.{IsCertFault}
use Rattle.cert_front.specs.Checks.{IsCheckFault, IsJudged}
use Rattle.cert_front.specs.Queries.{IsAskFault, IsReplied}
use Rattle.cert_front.specs.Rewritings.{IsRewritten}
use Rattle.cert_front.specs.Texts.{fault_reason, fault_status}
use Rattle.cert_front.specs.declared.check.CheckFault.{CheckFault}
use Rattle.cert_front.specs.declared.fault.CertFault.{CertFault}
use Rattle.command_words.specs.Asked.{Asked, prove, sat, check, rewrite, ask, stress, qbf, fmodel, core, IsAsked, IsUnread, name_of}
use Rattle.dimacs_front.specs.Files.{IsHeld, IsOutcome, IsRefused}
use Rattle.dimacs_front.specs.Notices.{fault_reason as line_of_text, fault_status as status_of_text, refusal_reason, refusal_status}
use Rattle.dimacs_front.specs.Answers.{IsAnswerFor}
use Rattle.dimacs_front.specs.Dimacs.{IsDimacs}
use Rattle.dimacs_front.specs.Qdimacs.{IsQdimacs}
use Rattle.dimacs_front.specs.declared.answers.SatAnswer.{SatAnswer}
use Rattle.dimacs_front.specs.declared.answers.SatAnswer.TheVariants.{Satisfiable, Unsatisfiable}
use Rattle.dimacs_front.specs.declared.cnf.Cnf.{Cnf}
use Rattle.dimacs_front.specs.declared.cnf.Qbf.{Qbf as Formula}
use Rattle.dimacs_front.specs.declared.error.DimacsError.{DimacsError}
use Rattle.dimacs_front.specs.declared.file.SatError.{SatError}
use Rattle.szs_prove.specs.Sizes.{IsRefutedIn}
use Rattle.szs_prove.specs.SizeWords.{size_lines}
use Rattle.szs_prove.specs.Answers.{IsOutOfBudget, IsProof, IsRefusal, IsUndecided, IsVerdict, Reading}
use Rattle.szs_prove.specs.Answered.{Answered, AsksAtom, AsksChain, AsksCheck, AsksClauses, AsksCore, AsksFormula, AsksModel, AsksProof, AsksRewriting, EndsChain, IsAnswer, IsCoreOutcome, IsFinding, IsInterrupted, IsMeasured, IsModelOutcome, IsNamed, IsReplyOf, IsRewritingOf, OfCertificate, TellsValue, WantsMemory, WritesCertificate, WritesComplaint, WritesCore, WritesFormula, WritesJudgement, WritesModel, WritesNumbers, WritesReply, WritesRewriting, WritesSize, WritesSolved, Writing, ask_exit, ask_text, check_exit, check_text, exit_for, problem_exit, judgement_exit, qbf_exit, qbf_text, reply_exit, rewriting_exit, rewriting_text, sat_exit, sat_text, solved_exit, solved_text, stress_exit, stress_text, text_for, problem_text, unjudged_reason, unjudged_status, value_exit, value_text}
use Rattle.szs_prove.specs.Texts.{exit_of, load_reason, load_status, refusal_text, text_reason, text_status, want_text, reason_of, status_of}
use Rattle.szs_prove.specs.CoreAnswers.{HasCoreAnswer, IsUncored}
use Rattle.szs_prove.specs.Formulas.{IsFormulaAnswer, IsFormulaOutcome, IsFormulaRefused}
use Rattle.szs_prove.specs.ModelAnswers.{HasModelAnswer, IsUnmodelled}
use Rattle.szs_prove.specs.declared.answer.Answer.{Answer}
use Rattle.szs_prove.specs.declared.answer.Answer.TheVariants.{Prove, Sat, Check, Rewrite, Ask, Stress, Qbf, Fmodel, Core, Unread, NoWords}
use Rattle.szs_prove.specs.declared.exit.Exit.{Exit}
use Rattle.szs_prove.specs.declared.formula.FormulaAnswer.{FormulaAnswer}
use Rattle.szs_prove.specs.declared.formula.FormulaAnswer.TheVariants.{True, False}
use Rattle.szs_prove.specs.declared.refusal.Reason.TheVariants.{OutOfBudget, TooWide, Functions}
use Rattle.szs_prove.specs.declared.refusal.Refusal.{Refusal}
use Rattle.szs_prove.specs.declared.refusal.Refusal.TheVariants.{Load, Unanswered, Memory}
use Rattle.szs_prove.specs.declared.sizes.Size.{Size}
use Rattle.cert_front.proofs.Rewritings.{judged}
use Rattle.inst_logic.specs.declared.clause.Problem.{Problem}
use Rattle.outside_io.specs.declared.notices.Status.TheVariants as status
use Rattle.tptp_read.specs.declared.text.ReadError.TheVariants as text
use Rattle.tptp_load.specs.declared.error.LoadError.TheVariants as load
use Rattle.cert_front.specs.declared.judgement.Judgement.TheVariants as judgement
use Rattle.cert_front.specs.declared.reply.Reply.TheVariants as reply
use Rattle.cert_front.specs.declared.rewriting.Rewriting.TheVariants as rewriting
use Rattle.cert_front.specs.declared.check.CheckFault.TheVariants as unjudged
use Rattle.cert_front.specs.declared.fault.CertFault.TheVariants as cert
use Rattle.dimacs_front.specs.declared.error.DimacsError.TheVariants as fault
use Rattle.dimacs_front.specs.declared.file.SatError.TheVariants as bar
use Rattle.szs_prove.specs.declared.exit.Exit.TheVariants as exit

-- the text is that of a verdict on what is asked
record SaysVerdict (words : List (List ℕ)) (read : Reading) (text : List ℕ) : Type 0 where
  file : List ℕ
  root : Option (List ℕ)
  budget : ℕ
  asked : IsAsked words (prove file root budget)
  certificate : Certificate
  is_verdict : IsVerdict read.old.files file root certificate
  is : text ≡ written_text file certificate

-- the text is that of the numbers of a run on what is asked
record SaysNumbers (words : List (List ℕ)) (read : Reading) (text : List ℕ) : Type 0 where
  file : List ℕ
  root : Option (List ℕ)
  budget : ℕ
  left : ℕ
  wanted : ℕ
  asked : IsAsked words (prove file root budget)
  stopped : IsOutOfBudget read.old.files file root budget left wanted
  is : text ≡ refusal_text file (Unanswered (OutOfBudget budget left wanted))

-- the text is the line of what the certificate is found to be, with the exit that goes with it
record SaysJudgement (question : OfCertificate) (words : List (List ℕ)) (read : Reading) (text : List ℕ) (e : Exit) : Type 0 where
  cert : List ℕ
  problem : Option (List ℕ)
  root : Option (List ℕ)
  asked : IsAsked words (question cert problem root)
  form : Form
  judgement : Judgement
  found : IsJudged read.old.files cert problem root (form, judgement)
  ends : e ≡ judgement_exit judgement
  is : text ≡ judgement_line form judgement

-- the text is that of the certificate in the newest format
record SaysRewriting (words : List (List ℕ)) (read : Reading) (text : List ℕ) : Type 0 where
  cert : List ℕ
  problem : Option (List ℕ)
  root : Option (List ℕ)
  asked : IsAsked words (rewrite cert problem root)
  rewritten : IsRewritten read.old.files cert problem root (rewriting.Text text)

-- the text is the line of what the saturation says of the atom, with the exit that goes with it
record SaysReply (words : List (List ℕ)) (read : Reading) (text : List ℕ) (e : Exit) : Type 0 where
  cert : List ℕ
  atom : Signed Tree
  asked : IsAsked words (ask cert atom)
  reply : Reply
  said : IsReplied read.old.files cert atom.atom reply
  ends : e ≡ reply_exit reply
  is : text ≡ reply_line reply

-- the text is that of the size of a refutation of the chain
record SaysSize (words : List (List ℕ)) (text : List ℕ) : Type 0 where
  number : ℕ
  asked : IsAsked words (stress number)
  size : Size
  refuted : IsRefutedIn number size
  is : text ≡ size_lines size

-- the text tells truth values for clauses, or that there are none, with the exit that goes with it
record SaysSolved (words : List (List ℕ)) (read : Reading) (text : List ℕ) (e : Exit) : Type 0 where
  file : List ℕ
  asked : IsAsked words (sat file)
  bytes : List ℕ
  held : IsHeld read.old.files file bytes
  clauses : Cnf
  spelled : IsDimacs bytes clauses
  answer : SatAnswer
  shown : IsAnswerFor clauses.vars clauses.clauses answer
  ends : e ≡ solved_exit answer
  is : text ≡ solved_text answer

-- the text tells the value of a formula, with the exit that goes with it
record SaysFormula (words : List (List ℕ)) (read : Reading) (text : List ℕ) (e : Exit) : Type 0 where
  file : List ℕ
  asked : IsAsked words (qbf file)
  bytes : List ℕ
  held : IsHeld read.old.files file bytes
  formula : Formula
  spelled : IsQdimacs bytes formula
  answer : FormulaAnswer
  shown : IsFormulaAnswer file formula answer
  ends : e ≡ value_exit answer
  is : text ≡ value_text answer

-- the text is that of tables for what is asked, or of that there are none
record SaysModel (words : List (List ℕ)) (read : Reading) (text : List ℕ) : Type 0 where
  elements : ℕ
  file : List ℕ
  root : Option (List ℕ)
  asked : IsAsked words (fmodel elements file root)
  shown : HasModelAnswer read.old.files elements file root text

-- the text is that of a core of what is asked, or of that there is none
record SaysCore (words : List (List ℕ)) (read : Reading) (text : List ℕ) : Type 0 where
  file : List ℕ
  root : Option (List ℕ)
  asked : IsAsked words (core file root)
  shown : HasCoreAnswer read.old.files file root text

-- what is complained of a certificate
abbrev SaysComplaint : List (List ℕ) → Reading → List ℕ → Type 0
SaysComplaint words read text = SaysJudgement check words read text exit.CheckFailed ⊎ SaysJudgement rewrite words read text exit.CheckFailed ⊎ SaysReply words read text exit.CheckFailed

-- what is decided of a question
abbrev DecidedOf : List (List ℕ) → Reading → List ℕ → Asked → Type 0
DecidedOf words read text (prove file root budget) = SaysVerdict words read text
DecidedOf words read text (sat file) = ⊥
DecidedOf words read text (check cert problem root) = SaysJudgement check words read text exit.Decided
DecidedOf words read text (rewrite cert problem root) = SaysRewriting words read text
DecidedOf words read text (ask cert atom) = SaysReply words read text exit.Decided
DecidedOf words read text (stress number) = SaysSize words text
DecidedOf words read text (qbf file) = ⊥
DecidedOf words read text (fmodel elements file root) = SaysModel words read text
DecidedOf words read text (core file root) = SaysCore words read text

-- what is decided of what is asked
abbrev SaysDecided : List (List ℕ) → Reading → List ℕ → Type 0
SaysDecided words read text = (a : Asked) × IsAsked words a × DecidedOf words read text a

-- what the value is that a question found
abbrev ValueOf : List (List ℕ) → Reading → List ℕ → Exit → Asked → Type 0
ValueOf words read text e (sat file) = SaysSolved words read text e
ValueOf words read text e (qbf file) = SaysFormula words read text e
ValueOf words read text e a = ⊥

-- what the value is that was asked for
abbrev SaysValue : List (List ℕ) → Reading → List ℕ → Exit → Type 0
SaysValue words read text e = (a : Asked) × IsAsked words a × ValueOf words read text e a

-- the text says that memory is wanted
record SaysWant (words : List (List ℕ)) (read : Reading) (text : List ℕ) : Type 0 where
  name : List ℕ
  named : IsNamed words read name
  is : text ≡ want_text name

-- ---- words ask one thing

abbrev pub AsksOne : Type 0
AsksOne = (words : List (List ℕ)) (a b : Asked) → IsAsked words a → IsAsked words b → a ≡ b

-- the number of a question's command
abbrev kind : Asked → ℕ
kind (prove file root budget) = 0
kind (sat file) = 1
kind (check cert problem root) = 2
kind (ask cert atom) = 3
kind (stress number) = 4
kind (rewrite cert problem root) = 5
kind (qbf file) = 6
kind (fmodel elements file root) = 7
kind (core file root) = 8

apart_from_itself : (n : ℕ) → nat_eq n n ≡ false → ⊥
apart_from_itself n h = grind (arith, nat_tests)

other_kind : (a b : Asked) → nat_eq (kind a) (kind b) ≡ false → a ≡ b → ⊥
other_kind a b apart is =
    let same : nat_eq (kind a) (kind a) ≡ false = subst (λ (x : Asked). nat_eq (kind a) (kind x) ≡ false) (sym is) apart in
    apart_from_itself (kind a) same

module _ (words : List (List ℕ)) (read : Reading) where
  named_by : (a : Asked) → IsAsked words a → IsNamed words read (name_of a)
  named_by a asked = inr (a, asked, refl)

  -- what an answer's own exit tells of its text
  abbrev Tells : List ℕ → Exit → Type 0
  Tells text exit.Decided = SaysDecided words read text
  Tells text exit.ResourceOut = SaysNumbers words read text
  Tells text exit.Refused = ⊤
  Tells text exit.Usage = IsUnread words
  Tells text exit.ReadFault = Rose read.old.faults read.new.faults
  Tells text exit.WriteFault = ⊥
  Tells text exit.Memory = SaysWant words read text
  Tells text exit.Sat = SaysValue words read text exit.Sat
  Tells text exit.Unsat = SaysValue words read text exit.Unsat
  Tells text exit.CheckFailed = SaysComplaint words read text

  -- ---- answers without a result

  -- the cause of a fault, by its status; of want of memory, that nothing more is told
  abbrev HasCause : Status → List ℕ → Type 0
  HasCause status.SyntaxError reason = ⊤
  HasCause status.Inappropriate reason = ⊤
  HasCause status.InputError reason = ⊤
  HasCause status.OsError reason = Rose read.old.faults read.new.faults
  HasCause status.UsageError reason = ⊥
  HasCause status.ResourceOut reason = ⊥
  HasCause status.MemoryOut reason = reason ≡ []

  notice_tells : (name reason : List ℕ) → IsNamed words read name → (s : Status) → HasCause s reason → Tells (notice_text s name reason) (exit_of s)
  notice_tells name reason named status.SyntaxError h = tt
  notice_tells name reason named status.Inappropriate h = tt
  notice_tells name reason named status.InputError h = tt
  notice_tells name reason named status.OsError h = h
  notice_tells name reason named status.UsageError h = absurd h
  notice_tells name reason named status.ResourceOut h = absurd h
  notice_tells name reason named status.MemoryOut h = record { name = name; named = named; is = ap (λ (r : List ℕ). notice_text status.MemoryOut name r) h }

  text_caused : (file : List ℕ) (f : ReadError) → f ≢ text.Memory → HasCause (text_status f) (text_reason file f)
  text_caused file (text.Syntax k) h = tt
  text_caused file (text.Language k w) h = tt
  text_caused file (text.Feature k w) h = tt
  text_caused file (text.Role k w) h = tt
  text_caused file (text.Limit k which) h = tt
  text_caused file text.Memory h = absurd (h refl)

  load_caused : (file : List ℕ) (root : Option (List ℕ)) (e : LoadError) → IsLoadCause read.old.files read.old.faults read.new.faults file root e → HasCause (load_status e) (load_reason e)
  load_caused file root (load.Text at f) h = text_caused at f h.0
  load_caused file root (load.Absent wanted) h = tt
  load_caused file root (load.NotSelected at wanted) h = tt
  load_caused file root (load.IncludeDepth at) h = tt
  load_caused file root load.TooLong h = tt
  load_caused file root load.ReadFault h = h
  load_caused file root load.Memory h = refl

  cert_caused : (c : List ℕ) (f : CertFault) → IsCertFault read.old.files read.old.faults read.new.faults c f → HasCause (fault_status f) (fault_reason c f)
  cert_caused c cert.Absent h = tt
  cert_caused c cert.TooLong h = tt
  cert_caused c cert.ReadFault h = h
  cert_caused c (cert.Syntax line) h = tt
  cert_caused c (cert.Version word) h = tt
  cert_caused c cert.NoSaturation h = tt
  cert_caused c cert.Memory h = refl

  ask_caused : (c : List ℕ) (f : CertFault) → IsAskFault read.old.files read.old.faults read.new.faults c f → HasCause (fault_status f) (fault_reason c f)
  ask_caused c cert.Absent h = tt
  ask_caused c cert.TooLong h = tt
  ask_caused c cert.ReadFault h = h
  ask_caused c (cert.Syntax line) h = tt
  ask_caused c (cert.Version word) h = tt
  ask_caused c cert.NoSaturation h = tt
  ask_caused c cert.Memory h = refl

  check_caused : (c : List ℕ) (problem root : Option (List ℕ)) (why : CheckFault) → IsCheckFault read.old.files read.old.faults read.new.faults c problem root why
      → HasCause (unjudged_status why) (unjudged_reason c why)
  check_caused c problem root (unjudged.Cert f) h = cert_caused c f h.1
  check_caused c None root (unjudged.Problem e) h = absurd h.2
  check_caused c (Some file) root (unjudged.Problem e) h = load_caused file root e h.2
  check_caused c problem root unjudged.Memory h = refl

  lines_caused : (file : List ℕ) (e : DimacsError) → IsRefused read.old.files file e → HasCause (status_of_text e) (line_of_text file e)
  lines_caused file (fault.Syntax line) h = tt
  lines_caused file (fault.Range line) h = tt
  lines_caused file (fault.Count found) h = tt
  lines_caused file fault.Limit h = tt
  lines_caused file (fault.Twice line) h = tt
  lines_caused file fault.Memory h = absurd h

  sat_caused : (file : List ℕ) (e : SatError) → IsOutcome read.old read.new file (Err e) → HasCause (refusal_status e) (refusal_reason file e)
  sat_caused file bar.Absent h = tt
  sat_caused file bar.TooLong h = tt
  sat_caused file bar.ReadFault h = h
  sat_caused file (bar.Text e) h = lines_caused file e h
  sat_caused file bar.Memory h = refl

  formula_caused : (file : List ℕ) (e : DimacsError) → IsFormulaRefused read.old.files file e → HasCause (status_of_text e) (line_of_text file e)
  formula_caused file (fault.Syntax line) h = tt
  formula_caused file (fault.Range line) h = tt
  formula_caused file (fault.Count found) h = tt
  formula_caused file fault.Limit h = tt
  formula_caused file (fault.Twice line) h = tt
  formula_caused file fault.Memory h = absurd h

  qbf_caused : (file : List ℕ) (e : SatError) → IsFormulaOutcome read.old read.new file (Err e) → HasCause (refusal_status e) (refusal_reason file e)
  qbf_caused file bar.Absent h = tt
  qbf_caused file bar.TooLong h = tt
  qbf_caused file bar.ReadFault h = h
  qbf_caused file (bar.Text e) h = formula_caused file e h
  qbf_caused file bar.Memory h = refl

  model_caused : (elements : ℕ) (file : List ℕ) (root : Option (List ℕ)) (why : Refusal) → IsRefusal (IsUnmodelled elements) read file root why → HasCause (status_of why) (reason_of why)
  model_caused elements file root (Load e) h = load_caused file root e h
  model_caused elements file root (Unanswered (OutOfBudget all left least)) h = absurd h.2
  model_caused elements file root (Unanswered TooWide) h = tt
  model_caused elements file root (Unanswered (Functions clause)) h = absurd h.2
  model_caused elements file root Memory h = refl

  core_caused : (file : List ℕ) (root : Option (List ℕ)) (why : Refusal) → IsRefusal IsUncored read file root why → HasCause (status_of why) (reason_of why)
  core_caused file root (Load e) h = load_caused file root e h
  core_caused file root (Unanswered (OutOfBudget all left least)) h = absurd h.2
  core_caused file root (Unanswered TooWide) h = absurd h.2
  core_caused file root (Unanswered (Functions clause)) h = tt
  core_caused file root Memory h = refl

  -- ---- each command

  refusal_tells : (file : List ℕ) (root : Option (List ℕ)) (budget : ℕ) → IsAsked words (prove file root budget) → (why : Refusal) → IsRefusal (IsUndecided budget) read file root why
      → Tells (refusal_text file why) (problem_exit (Err why))
  refusal_tells file root budget asked (Load e) h = notice_tells file (load_reason e) (named_by (prove file root budget) asked) (load_status e) (load_caused file root e h)
  refusal_tells file root budget asked (Unanswered (OutOfBudget all left least)) h = record {
    file = file;
    root = root;
    budget = budget;
    left = left;
    wanted = least;
    asked = asked;
    stopped = record { problem = h.0; is_problem = h.1; stopped = h.2.1 };
    is = ap (λ (n : ℕ). refusal_text file (Unanswered (OutOfBudget n left least))) h.2.0;
  }
  refusal_tells file root budget asked (Unanswered TooWide) h = absurd h.2
  refusal_tells file root budget asked (Unanswered (Functions clause)) h = absurd h.2
  refusal_tells file root budget asked Memory h = record { name = file; named = named_by (prove file root budget) asked; is = refl }

  prove_tells : (file : List ℕ) (root : Option (List ℕ)) (budget : ℕ) → IsAsked words (prove file root budget) → (o : Result (List ℕ) Refusal) → IsProof read file root budget o
      → Tells (problem_text file o) (problem_exit o)
  prove_tells file root budget asked (Ok text) h =
      (prove file root budget, asked, record { file = file; root = root; budget = budget; asked = asked; certificate = h.0; is_verdict = h.1; is = h.2 })
  prove_tells file root budget asked (Err why) h = refusal_tells file root budget asked why h

  solved_says : (file : List ℕ) → IsAsked words (sat file) → (a : SatAnswer) → IsOutcome read.old read.new file (Ok a) → SaysSolved words read (solved_text a) (solved_exit a)
  solved_says file asked a h = record {
    file = file;
    asked = asked;
    bytes = h.0;
    held = h.2;
    clauses = h.1;
    spelled = h.3;
    answer = a;
    shown = h.4;
    ends = refl;
    is = refl;
  }

  sat_tells : (file : List ℕ) → IsAsked words (sat file) → (o : Result SatAnswer SatError) → IsOutcome read.old read.new file o → Tells (sat_text file o) (sat_exit o)
  sat_tells file asked (Ok (Satisfiable text)) h = (sat file, asked, solved_says file asked (Satisfiable text) h)
  sat_tells file asked (Ok (Unsatisfiable text)) h = (sat file, asked, solved_says file asked (Unsatisfiable text) h)
  sat_tells file asked (Err e) h = notice_tells file (refusal_reason file e) (named_by (sat file) asked) (refusal_status e) (sat_caused file e h)

  judgement_says : (c : List ℕ) (problem root : Option (List ℕ)) → IsAsked words (check c problem root) → (form : Form) (j : Judgement) → IsJudged read.old.files c problem root (form, j)
      → SaysJudgement check words read (judgement_line form j) (judgement_exit j)
  judgement_says c problem root asked form j h = record { cert = c; problem = problem; root = root; asked = asked; form = form; judgement = j; found = h; ends = refl; is = refl }

  judgement_tells : (c : List ℕ) (problem root : Option (List ℕ)) → IsAsked words (check c problem root) → (form : Form) (j : Judgement) → IsJudged read.old.files c problem root (form, j)
      → Tells (judgement_line form j) (judgement_exit j)
  judgement_tells c problem root asked form judgement.Valid h = (check c problem root, asked, judgement_says c problem root asked form judgement.Valid h)
  judgement_tells c problem root asked form (judgement.Problem n) h = inl (judgement_says c problem root asked form (judgement.Problem n) h)
  judgement_tells c problem root asked form (judgement.Invalid why) h = inl (judgement_says c problem root asked form (judgement.Invalid why) h)

  check_tells : (c : List ℕ) (problem root : Option (List ℕ)) → IsAsked words (check c problem root) → (o : Result (Form × Judgement) CheckFault) → IsFinding read c problem root o
      → Tells (check_text c o) (check_exit o)
  check_tells c problem root asked (Ok found) h = judgement_tells c problem root asked found.0 found.1 h
  check_tells c problem root asked (Err why) h = notice_tells c (unjudged_reason c why) (named_by (check c problem root) asked) (unjudged_status why) (check_caused c problem root why h)

  -- what is found where a certificate is not rewritten
  refusal_says : (c : List ℕ) (problem root : Option (List ℕ)) → IsAsked words (rewrite c problem root) → (form : Form) (j : Judgement) → IsRewritten read.old.files c problem root (rewriting.Refused form j)
      → SaysJudgement rewrite words read (judgement_line form j) (judgement_exit j)
  refusal_says c problem root asked form j h =
      let found = judged read.old.files c problem root (rewriting.Refused form j) h in
      record { cert = c; problem = problem; root = root; asked = asked; form = form; judgement = j; found = found; ends = refl; is = refl }

  refused_tells : (c : List ℕ) (problem root : Option (List ℕ)) → IsAsked words (rewrite c problem root) → (form : Form) (j : Judgement) → IsRewritten read.old.files c problem root (rewriting.Refused form j)
      → Tells (judgement_line form j) (judgement_exit j)
  refused_tells c problem root asked form judgement.Valid h = absurd (h.rewritten.so.1 refl)
  refused_tells c problem root asked form (judgement.Problem n) h = inr (inl (refusal_says c problem root asked form (judgement.Problem n) h))
  refused_tells c problem root asked form (judgement.Invalid why) h = inr (inl (refusal_says c problem root asked form (judgement.Invalid why) h))

  rewriting_tells : (c : List ℕ) (problem root : Option (List ℕ)) → IsAsked words (rewrite c problem root) → (o : Result Rewriting CheckFault) → IsRewritingOf read c problem root o
      → Tells (rewriting_text c o) (rewriting_exit o)
  rewriting_tells c problem root asked (Ok (rewriting.Text text)) h = (rewrite c problem root, asked, record { cert = c; problem = problem; root = root; asked = asked; rewritten = h })
  rewriting_tells c problem root asked (Ok (rewriting.Refused form j)) h = refused_tells c problem root asked form j h
  rewriting_tells c problem root asked (Err why) h = notice_tells c (unjudged_reason c why) (named_by (rewrite c problem root) asked) (unjudged_status why) (check_caused c problem root why h)

  reply_says : (c : List ℕ) (atom : Signed Tree) → IsAsked words (ask c atom) → (r : Reply) → IsReplied read.old.files c atom.atom r → SaysReply words read (reply_line r) (reply_exit r)
  reply_says c atom asked r h = record { cert = c; atom = atom; asked = asked; reply = r; said = h; ends = refl; is = refl }

  reply_tells : (c : List ℕ) (atom : Signed Tree) → IsAsked words (ask c atom) → (r : Reply) → IsReplied read.old.files c atom.atom r → Tells (reply_line r) (reply_exit r)
  reply_tells c atom asked reply.True h = (ask c atom, asked, reply_says c atom asked reply.True h)
  reply_tells c atom asked reply.False h = (ask c atom, asked, reply_says c atom asked reply.False h)
  reply_tells c atom asked (reply.Invalid why) h = inr (inr (reply_says c atom asked (reply.Invalid why) h))

  ask_tells : (c : List ℕ) (atom : Signed Tree) → IsAsked words (ask c atom) → (o : Result Reply CertFault) → IsReplyOf read c atom.atom o → Tells (ask_text c o) (ask_exit o)
  ask_tells c atom asked (Ok r) h = reply_tells c atom asked r h
  ask_tells c atom asked (Err f) h = notice_tells c (fault_reason c f) (named_by (ask c atom) asked) (fault_status f) (ask_caused c f h)

  stress_tells : (name : List ℕ) (n : ℕ) → name ≡ codes "stress" → IsAsked words (stress n) → (o : Result Size OutOfMemory) → IsMeasured n o → Tells (stress_text name o) (stress_exit o)
  stress_tells name n named asked (Ok size) h = (stress n, asked, record { number = n; asked = asked; size = size; refuted = h; is = refl })
  stress_tells name n named asked (Err want) h = record { name = name; named = inr (stress n, asked, named); is = refl }

  formula_says : (file : List ℕ) → IsAsked words (qbf file) → (a : FormulaAnswer) → IsFormulaOutcome read.old read.new file (Ok a) → SaysFormula words read (value_text a) (value_exit a)
  formula_says file asked a h = record {
    file = file;
    asked = asked;
    bytes = h.0;
    held = h.2;
    formula = h.1;
    spelled = h.3;
    answer = a;
    shown = h.4;
    ends = refl;
    is = refl;
  }

  qbf_tells : (file : List ℕ) → IsAsked words (qbf file) → (o : Result FormulaAnswer SatError) → IsFormulaOutcome read.old read.new file o → Tells (qbf_text file o) (qbf_exit o)
  qbf_tells file asked (Ok (True text)) h = (qbf file, asked, formula_says file asked (True text) h)
  qbf_tells file asked (Ok (False text)) h = (qbf file, asked, formula_says file asked (False text) h)
  qbf_tells file asked (Err e) h = notice_tells file (refusal_reason file e) (named_by (qbf file) asked) (refusal_status e) (qbf_caused file e h)

  fmodel_tells : (elements : ℕ) (file : List ℕ) (root : Option (List ℕ)) → IsAsked words (fmodel elements file root) → (o : Result (List ℕ) Refusal) → IsModelOutcome read elements file root o
      → Tells (problem_text file o) (problem_exit o)
  fmodel_tells elements file root asked (Ok text) h = (fmodel elements file root, asked, record { elements = elements; file = file; root = root; asked = asked; shown = h })
  fmodel_tells elements file root asked (Err why) h = notice_tells file (reason_of why) (named_by (fmodel elements file root) asked) (status_of why) (model_caused elements file root why h)

  core_tells : (file : List ℕ) (root : Option (List ℕ)) → IsAsked words (core file root) → (o : Result (List ℕ) Refusal) → IsCoreOutcome read file root o → Tells (problem_text file o) (problem_exit o)
  core_tells file root asked (Ok text) h = (core file root, asked, record { file = file; root = root; asked = asked; shown = h })
  core_tells file root asked (Err why) h = notice_tells file (reason_of why) (named_by (core file root) asked) (status_of why) (core_caused file root why h)

  tells : (name : List ℕ) (a : Answer) → IsAnswer words read name a → Tells (text_for name a) (exit_for a)
  tells name (Prove o) h = prove_tells name h.0 h.1 h.2 o h.3
  tells name (Sat o) h = sat_tells name h.0 o h.1
  tells name (Check o) h = check_tells name h.0 h.1 h.2 o h.3
  tells name (Rewrite o) h = rewriting_tells name h.0 h.1 h.2 o h.3
  tells name (Ask o) h = ask_tells name h.0 h.1 o h.2
  tells name (Stress o) h = stress_tells name h.2 h.0 h.3 o h.4
  tells name (Qbf o) h = qbf_tells name h.0 o h.1
  tells name (Fmodel o) h = fmodel_tells h.0 name h.1 h.2 o h.3
  tells name (Core o) h = core_tells name h.0 h.1 o h.2
  tells name Unread h = h.2
  tells name NoWords h = record { name = name; named = inl h; is = refl }

module _ (words : List (List ℕ)) (read : Reading) (write : Writing) (e : Exit) (a : Answered words read write e) where
  abbrev said : List ℕ
  said = text_for a.name a.answer

  -- the exit is the answer's own, and its text was written whole; or neither is so
  abbrev IsOwn : Type 0
  IsOwn = Tells words read said e × Appends write.old.taken write.new.taken said

  own : e ≡ exit_for a.answer → Appends write.old.taken write.new.taken said → IsOwn
  own is w = (subst (Tells words read said) (sym is) (tells words read a.name a.answer a.cause), w)

  pub read_fault : e ≡ exit.ReadFault → Rose read.old.faults read.new.faults
  read_fault is = elim a.written [
    | inl w ↦ subst (Tells words read said) is (own w.0 w.1).0
    | inr v ↦ elim v [ inl w ↦ absurd (let x = w.0 in cc) | inr w ↦ absurd (let x = w.0 in cc) ]
  ]

  pub write_fault : e ≡ exit.WriteFault → Rose write.old.faults write.new.faults
  write_fault is = elim a.written [
    | inl w ↦ absurd (subst (Tells words read said) is (own w.0 w.1).0)
    | inr v ↦ elim v [ inl w ↦ w.2 | inr w ↦ absurd (let x = w.0 in cc) ]
  ]

  pub interrupted : e ≡ exit.WriteFault → IsInterrupted words read write.old.taken write.new.taken
  interrupted is = elim a.written [
    | inl w ↦ absurd (subst (Tells words read said) is (own w.0 w.1).0)
    | inr v ↦ elim v [
      | inl w ↦ record { name = a.name; answer = a.answer; cause = a.cause; written = w.1 }
      | inr w ↦ record { name = a.name; answer = a.answer; cause = a.cause; written = w.1 }
    ]
  ]

  -- the exit is the answer's own
  whole : (wanted : Exit) → e ≡ wanted → (wanted ≡ exit.WriteFault → ⊥) → (wanted ≡ exit.Memory → ⊥) → Tells words read said wanted × Appends write.old.taken write.new.taken said
  whole wanted is apart other = elim a.written [
    | inl w ↦ (subst (Tells words read said) is (own w.0 w.1).0, w.1)
    | inr v ↦ elim v [ inl w ↦ absurd (apart (sym is ∙ w.0)) | inr w ↦ absurd (other (sym is ∙ w.0)) ]
  ]

  says_decided : e ≡ exit.Decided → SaysDecided words read said × Appends write.old.taken write.new.taken said
  says_decided is = whole exit.Decided is (λ x. cc) (λ x. cc)

  pub usage_unread : e ≡ exit.Usage → IsUnread words
  usage_unread is = (whole exit.Usage is (λ x. cc) (λ x. cc)).0

  writes_verdict : SaysVerdict words read said → Appends write.old.taken write.new.taken said → WritesCertificate words read.old.files write.old.taken write.new.taken
  writes_verdict s w = record {
    file = s.file;
    root = s.root;
    budget = s.budget;
    asked = s.asked;
    certificate = s.certificate;
    is_verdict = s.is_verdict;
    written = subst (Appends write.old.taken write.new.taken) s.is w;
  }

  writes_judgement : (question : OfCertificate) (x : Exit) → SaysJudgement question words read said x → Appends write.old.taken write.new.taken said
      → WritesJudgement question words read.old.files write.old.taken write.new.taken x
  writes_judgement question x s w = record {
    cert = s.cert;
    problem = s.problem;
    root = s.root;
    asked = s.asked;
    form = s.form;
    judgement = s.judgement;
    found = s.found;
    ends = s.ends;
    written = subst (Appends write.old.taken write.new.taken) s.is w;
  }

  writes_rewriting : SaysRewriting words read said → Appends write.old.taken write.new.taken said → WritesRewriting words read.old.files write.old.taken write.new.taken
  writes_rewriting s w = record { cert = s.cert; problem = s.problem; root = s.root; asked = s.asked; text = said; rewritten = s.rewritten; written = w }

  writes_reply : (x : Exit) → SaysReply words read said x → Appends write.old.taken write.new.taken said → WritesReply words read.old.files write.old.taken write.new.taken x
  writes_reply x s w = record { cert = s.cert; atom = s.atom; asked = s.asked; reply = s.reply; said = s.said; ends = s.ends; written = subst (Appends write.old.taken write.new.taken) s.is w }

  writes_size : SaysSize words said → Appends write.old.taken write.new.taken said → WritesSize words write.old.taken write.new.taken
  writes_size s w = record { number = s.number; asked = s.asked; size = s.size; refuted = s.refuted; written = subst (Appends write.old.taken write.new.taken) s.is w }

  pub check_failed : e ≡ exit.CheckFailed → WritesComplaint words read.old.files write.old.taken write.new.taken
  check_failed is = by (whole exit.CheckFailed is (λ x. cc) (λ x. cc))
    where
      by : SaysComplaint words read said × Appends write.old.taken write.new.taken said → WritesComplaint words read.old.files write.old.taken write.new.taken
      by (inl s, w) = inl (writes_judgement check exit.CheckFailed s w)
      by (inr (inl s), w) = inr (inl (writes_judgement rewrite exit.CheckFailed s w))
      by (inr (inr s), w) = inr (inr (writes_reply exit.CheckFailed s w))

  module _ (once : AsksOne) where
    ends_chain : (answer : Answer) → IsAnswer words read a.name answer → AsksChain words → (exit_for answer ≡ exit.Decided) ⊎ (exit_for answer ≡ exit.Memory)
    ends_chain (Prove o) h asks = absurd (other_kind _ _ refl (once words _ _ h.2 asks.1))
    ends_chain (Sat o) h asks = absurd (other_kind _ _ refl (once words _ _ h.0 asks.1))
    ends_chain (Check o) h asks = absurd (other_kind _ _ refl (once words _ _ h.2 asks.1))
    ends_chain (Rewrite o) h asks = absurd (other_kind _ _ refl (once words _ _ h.2 asks.1))
    ends_chain (Ask o) h asks = absurd (other_kind _ _ refl (once words _ _ h.1 asks.1))
    ends_chain (Stress (Ok size)) h asks = inl refl
    ends_chain (Stress (Err want)) h asks = inr refl
    ends_chain (Qbf o) h asks = absurd (other_kind _ _ refl (once words _ _ h.0 asks.1))
    ends_chain (Fmodel o) h asks = absurd (other_kind _ _ refl (once words _ _ h.2 asks.1))
    ends_chain (Core o) h asks = absurd (other_kind _ _ refl (once words _ _ h.1 asks.1))
    ends_chain Unread h asks = absurd (h.2 (stress asks.0) asks.1)
    ends_chain NoWords h asks = inr refl

    pub chain : AsksChain words → EndsChain e
    chain asks = elim a.written [
      | inl w ↦ elim (ends_chain a.answer a.cause asks) [ inl d ↦ inl (w.0 ∙ d) | inr m ↦ inr (inr (w.0 ∙ m)) ]
      | inr v ↦ elim v [ inl w ↦ inr (inl w.0) | inr w ↦ inr (inr w.0) ]
    ]

    -- what is decided of what is asked
    decides : (q : Asked) → IsAsked words q → e ≡ exit.Decided → DecidedOf words read said q × Appends write.old.taken write.new.taken said
    decides q asked is =
        let d = says_decided is in
        (subst (DecidedOf words read said) (once words d.0.0 q d.0.1 asked) d.0.2, d.1)

    pub decided : AsksProof words → e ≡ exit.Decided → WritesCertificate words read.old.files write.old.taken write.new.taken
    decided asks is = let d = decides (prove asks.0 asks.1 asks.2) asks.3 is in writes_verdict d.0 d.1

    pub checked : AsksCheck words → e ≡ exit.Decided → WritesJudgement check words read.old.files write.old.taken write.new.taken exit.Decided
    checked asks is = let d = decides (check asks.0 asks.1 asks.2) asks.3 is in writes_judgement check exit.Decided d.0 d.1

    pub rewritten : AsksRewriting words → e ≡ exit.Decided → WritesRewriting words read.old.files write.old.taken write.new.taken
    rewritten asks is = let d = decides (rewrite asks.0 asks.1 asks.2) asks.3 is in writes_rewriting d.0 d.1

    pub asked_atom : AsksAtom words → e ≡ exit.Decided → WritesReply words read.old.files write.old.taken write.new.taken exit.Decided
    asked_atom asks is = let d = decides (ask asks.0 asks.1) asks.2 is in writes_reply exit.Decided d.0 d.1

    pub stressed : AsksChain words → e ≡ exit.Decided → WritesSize words write.old.taken write.new.taken
    stressed asks is = let d = decides (stress asks.0) asks.1 is in writes_size d.0 d.1

    pub modelled : AsksModel words → e ≡ exit.Decided → WritesModel words read.old.files write.old.taken write.new.taken
    modelled asks is =
        let d = decides (fmodel asks.0 asks.1 asks.2) asks.3 is in
        let s = d.0 in
        record { elements = s.elements; file = s.file; root = s.root; asked = s.asked; text = said; shown = s.shown; written = d.1 }

    pub has_core : AsksCore words → e ≡ exit.Decided → WritesCore words read.old.files write.old.taken write.new.taken
    has_core asks is =
        let d = decides (core asks.0 asks.1) asks.2 is in
        let s = d.0 in
        record { file = s.file; root = s.root; asked = s.asked; text = said; shown = s.shown; written = d.1 }

    writes_solved : (x : Exit) → SaysSolved words read said x → Appends write.old.taken write.new.taken said → WritesSolved words read.old.files write.old.taken write.new.taken x
    writes_solved x s w = record {
      file = s.file;
      asked = s.asked;
      bytes = s.bytes;
      held = s.held;
      clauses = s.clauses;
      read = s.spelled;
      answer = s.answer;
      shown = s.shown;
      ends = s.ends;
      written = subst (Appends write.old.taken write.new.taken) s.is w;
    }

    solves : (x : Exit) → SaysValue words read said x × Appends write.old.taken write.new.taken said → AsksClauses words → WritesSolved words read.old.files write.old.taken write.new.taken x
    solves x v asks = writes_solved x (subst (ValueOf words read said x) (once words v.0.0 (sat asks.0) v.0.1 asks.1) v.0.2) v.1

    pub solved : AsksClauses words → TellsValue e → WritesSolved words read.old.files write.old.taken write.new.taken e
    solved asks (inl is) = subst (WritesSolved words read.old.files write.old.taken write.new.taken) (sym is) (solves exit.Sat (whole exit.Sat is (λ x. cc) (λ x. cc)) asks)
    solved asks (inr is) = subst (WritesSolved words read.old.files write.old.taken write.new.taken) (sym is) (solves exit.Unsat (whole exit.Unsat is (λ x. cc) (λ x. cc)) asks)

    writes_formula : (x : Exit) → SaysFormula words read said x → Appends write.old.taken write.new.taken said → WritesFormula words read.old.files write.old.taken write.new.taken x
    writes_formula x s w = record {
      file = s.file;
      asked = s.asked;
      bytes = s.bytes;
      held = s.held;
      formula = s.formula;
      read = s.spelled;
      answer = s.answer;
      shown = s.shown;
      ends = s.ends;
      written = subst (Appends write.old.taken write.new.taken) s.is w;
    }

    values : (x : Exit) → SaysValue words read said x × Appends write.old.taken write.new.taken said → AsksFormula words → WritesFormula words read.old.files write.old.taken write.new.taken x
    values x v asks = writes_formula x (subst (ValueOf words read said x) (once words v.0.0 (qbf asks.0) v.0.1 asks.1) v.0.2) v.1

    pub formula_value : AsksFormula words → TellsValue e → WritesFormula words read.old.files write.old.taken write.new.taken e
    formula_value asks (inl is) = subst (WritesFormula words read.old.files write.old.taken write.new.taken) (sym is) (values exit.Sat (whole exit.Sat is (λ x. cc) (λ x. cc)) asks)
    formula_value asks (inr is) = subst (WritesFormula words read.old.files write.old.taken write.new.taken) (sym is) (values exit.Unsat (whole exit.Unsat is (λ x. cc) (λ x. cc)) asks)

  pub resource_out : e ≡ exit.ResourceOut → WritesNumbers words read.old.files write.old.taken write.new.taken
  resource_out is = by (whole exit.ResourceOut is (λ x. cc) (λ x. cc))
    where
      by : SaysNumbers words read said × Appends write.old.taken write.new.taken said → WritesNumbers words read.old.files write.old.taken write.new.taken
      by (s, w) = record {
        file = s.file;
        root = s.root;
        budget = s.budget;
        left = s.left;
        wanted = s.wanted;
        asked = s.asked;
        stopped = s.stopped;
        written = subst (Appends write.old.taken write.new.taken) s.is w;
      }

  pub memory : e ≡ exit.Memory → WantsMemory words read write
  memory is = elim a.written [
    | inl w ↦ by (subst (Tells words read said) is (own w.0 w.1).0) w.1
    | inr v ↦ elim v [
      | inl w ↦ absurd (let x = w.0 in cc)
      | inr w ↦ inr (w.2, record { name = a.name; answer = a.answer; cause = a.cause; written = w.1 })
    ]
  ]
    where
      by : SaysWant words read said → Appends write.old.taken write.new.taken said → WantsMemory words read write
      by s w = inl (record { name = s.name; named = s.named; written = subst (Appends write.old.taken write.new.taken) s.is w })
