-- What the program answers, command by command: what is told, for which cause, how the program ends, and when it ends so.
use Rattle.std.specs.Prelude.{Bool, Err, IsFalse, IsTrue, List, None, Ok, Option, Result, Some, [], codes, length, ℕ, ⊤, ◌<◌, ◌≡◌, ◌⊎◌}
use Rattle.std.specs.Io.KnownBytes.{Appends}
use Rattle.inst_logic.specs.declared.memory.Memory.{Memory as OutOfMemory}
use Rattle.outside_io.specs.Notices.{notice_text}
use Rattle.outside_io.specs.declared.notices.Status.{Status}
use Rattle.tptp_load.specs.declared.error.LoadError.{LoadError}
use Rattle.cert_front.specs.Texts.{fault_reason, fault_status}
use Rattle.cert_front.specs.Words.{judgement_line, reply_line}
use Rattle.cert_front.specs.declared.check.CheckFault.{CheckFault}
use Rattle.cert_front.specs.declared.fault.CertFault.{CertFault}
use Rattle.cert_front.specs.declared.judgement.Judgement.{Judgement}
use Rattle.cert_front.specs.declared.reply.Reply.{Reply}
use Rattle.cert_front.specs.declared.rewriting.Rewriting.{Rewriting}
use Rattle.cert_front.specs.declared.words.Form.{Form}
use Rattle.dimacs_front.specs.Notices.{refusal_reason, refusal_status}
use Rattle.dimacs_front.specs.declared.answers.SatAnswer.{SatAnswer}
use Rattle.dimacs_front.specs.declared.file.SatError.{SatError}
use Rattle.szs_prove.specs.SizeWords.{size_lines}
use Rattle.szs_prove.specs.declared.answer.Answer.{Answer}
use Rattle.szs_prove.specs.declared.answer.Answer.TheVariants.{Ask, Check, Core, Fmodel, NoWords, Prove, Qbf, Rewrite, Sat, Stress, Unread}
use Rattle.szs_prove.specs.declared.exit.Exit.{Exit}
use Rattle.szs_prove.specs.declared.formula.FormulaAnswer.{FormulaAnswer}
use Rattle.szs_prove.specs.declared.formula.FormulaAnswer.TheVariants.{False, True}
use Rattle.szs_prove.specs.declared.refusal.Refusal.{Refusal}
use Rattle.szs_prove.specs.declared.sizes.Size.{Size}
use Rattle.inst_logic.specs.Tree.{Tree}
use Rattle.inst_logic.specs.declared.signed.Signed.{Signed}
use Rattle.cert_front.specs.Checks.{IsCheckFault, IsFound, IsJudged}
use Rattle.cert_front.specs.Queries.{IsAskFault, IsFoundReply, IsReplied}
use Rattle.cert_front.specs.Rewritings.{IsRewritten}
use Rattle.command_words.specs.declared.request.Request.{Request}
use Rattle.command_words.specs.Asked.{Asked, IsAsked, IsUnread, ask, asked as question_of, check, core, fmodel, name_of, prove, qbf, rewrite, sat, stress}
use Rattle.dimacs_front.specs.Files.{IsHeld, IsOutcome, limit}
use Rattle.szs_prove.specs.Answers.{IsAnswered, IsOutOfBudget, IsProof, IsUntouched, IsVerdict, Reading, ReasonRelation}
use Rattle.szs_prove.specs.CoreAnswers.{HasCoreAnswer, IsUncored}
use Rattle.szs_prove.specs.Formulas.{IsFalseFormula, IsFormulaAnswer, IsFormulaOutcome, IsTrueFormula}
use Rattle.szs_prove.specs.ModelAnswers.{HasModelAnswer, IsUnmodelled}
use Rattle.szs_prove.specs.Sizes.{IsRefutedIn}
use Rattle.outside_io.specs.Seen.{Seen}
use Rattle.outside_io.specs.Taken.{AppendsProperPrefix}
use Rattle.outside_io.specs.declared.library.NamedFile.{NamedFile}
use Rattle.cert_format.specs.Certificate.{Certificate}
use Rattle.cert_format.specs.Text.{written_text}
use Rattle.cert_format.specs.ValueLines.{IsCertificateText}
use Rattle.dimacs_front.specs.Dimacs.{IsDimacs}
use Rattle.dimacs_front.specs.FormulaRefusals.{IsFormulaRefusal}
use Rattle.dimacs_front.specs.Qdimacs.{IsQdimacs}
use Rattle.dimacs_front.specs.Refusals.{IsRefusal}
use Rattle.dimacs_front.specs.declared.cnf.Qbf.{Qbf as Quantified}
use Rattle.szs_prove.specs.Written.{IsWritten}
use Rattle.outside_io.specs.Causes.{Rose}
use Rattle.outside_io.specs.Files.{bytes_named}
use Rattle.finite_model.specs.Tables.{IsTooWide}
use Rattle.inst_logic.specs.Measure.{is_function_free}
use Rattle.inst_logic.specs.declared.clause.Problem.{Problem}
use Rattle.tptp_load.specs.Problems.{Loads, Refuses}
use Rattle.dimacs_front.specs.Answers.{IsAnswerFor, IsModel}
use Rattle.dimacs_front.specs.declared.cnf.Cnf.{Cnf}
use Rattle.dimacs_front.specs.declared.error.DimacsError.{DimacsError}
use Rattle.szs_prove.specs.Texts.{exit_of, load_reason, load_status, refusal_text, status_of, want_text}
use Rattle.cert_front.specs.declared.check.CheckFault.TheVariants as unjudged
use Rattle.cert_front.specs.declared.judgement.Judgement.TheVariants as judgement
use Rattle.cert_front.specs.declared.reply.Reply.TheVariants as reply
use Rattle.cert_front.specs.declared.rewriting.Rewriting.TheVariants as rewriting
use Rattle.dimacs_front.specs.declared.answers.SatAnswer.TheVariants as solved
use Rattle.dimacs_front.specs.declared.error.DimacsError.TheVariants as fault
use Rattle.dimacs_front.specs.declared.file.SatError.TheVariants as bar
use Rattle.outside_io.specs.declared.notices.Status.TheVariants as status
use Rattle.szs_prove.specs.declared.exit.Exit.TheVariants as end
use Rattle.szs_prove.specs.declared.refusal.Reason.TheVariants as reason
use Rattle.szs_prove.specs.declared.refusal.Refusal.TheVariants as why

-- ---- what is told of each answer, and how the program ends with it

-- of the commands that answer for the problem of a file
abbrev pub problem_text : List ℕ → Result (List ℕ) Refusal → List ℕ
problem_text name (Ok text) = text
problem_text name (Err refusal) = refusal_text name refusal

abbrev pub problem_exit : Result (List ℕ) Refusal → Exit
problem_exit (Ok text) = end.Decided
problem_exit (Err refusal) = exit_of (status_of refusal)

-- truth values, or a derivation that there are none
abbrev pub solved_text : SatAnswer → List ℕ
solved_text (solved.Satisfiable text) = text
solved_text (solved.Unsatisfiable text) = text

abbrev pub solved_exit : SatAnswer → Exit
solved_exit (solved.Satisfiable text) = end.Sat
solved_exit (solved.Unsatisfiable text) = end.Unsat

abbrev pub sat_text : List ℕ → Result SatAnswer SatError → List ℕ
sat_text name (Ok found) = solved_text found
sat_text name (Err error) = notice_text (refusal_status error) name (refusal_reason name error)

abbrev pub sat_exit : Result SatAnswer SatError → Exit
sat_exit (Ok found) = solved_exit found
sat_exit (Err error) = exit_of (refusal_status error)

-- why a certificate is not judged, under its own name also where the problem is refused
abbrev pub unjudged_status : CheckFault → Status
unjudged_status (unjudged.Cert f) = fault_status f
unjudged_status (unjudged.Problem e) = load_status e
unjudged_status unjudged.Memory = status.MemoryOut

abbrev pub unjudged_reason : List ℕ → CheckFault → List ℕ
unjudged_reason cert (unjudged.Cert f) = fault_reason cert f
unjudged_reason cert (unjudged.Problem e) = load_reason e
unjudged_reason cert unjudged.Memory = []

abbrev pub check_text : List ℕ → Result (Form × Judgement) CheckFault → List ℕ
check_text cert (Ok found) = judgement_line found.0 found.1
check_text cert (Err fault) = notice_text (unjudged_status fault) cert (unjudged_reason cert fault)

abbrev pub judgement_exit : Judgement → Exit
judgement_exit judgement.Valid = end.Decided
judgement_exit (judgement.Problem n) = end.CheckFailed
judgement_exit (judgement.Invalid complaint) = end.CheckFailed

abbrev pub check_exit : Result (Form × Judgement) CheckFault → Exit
check_exit (Ok found) = judgement_exit found.1
check_exit (Err fault) = exit_of (unjudged_status fault)

-- the new text of the certificate, or what is found of it
abbrev pub rewriting_text : List ℕ → Result Rewriting CheckFault → List ℕ
rewriting_text cert (Ok (rewriting.Text text)) = text
rewriting_text cert (Ok (rewriting.Refused form found)) = judgement_line form found
rewriting_text cert (Err fault) = notice_text (unjudged_status fault) cert (unjudged_reason cert fault)

abbrev pub rewriting_exit : Result Rewriting CheckFault → Exit
rewriting_exit (Ok (rewriting.Text text)) = end.Decided
rewriting_exit (Ok (rewriting.Refused form found)) = judgement_exit found
rewriting_exit (Err fault) = exit_of (unjudged_status fault)

abbrev pub ask_text : List ℕ → Result Reply CertFault → List ℕ
ask_text cert (Ok found) = reply_line found
ask_text cert (Err fault) = notice_text (fault_status fault) cert (fault_reason cert fault)

abbrev pub reply_exit : Reply → Exit
reply_exit reply.True = end.Decided
reply_exit reply.False = end.Decided
reply_exit (reply.Invalid complaint) = end.CheckFailed

abbrev pub ask_exit : Result Reply CertFault → Exit
ask_exit (Ok found) = reply_exit found
ask_exit (Err fault) = exit_of (fault_status fault)

abbrev pub stress_text : List ℕ → Result Size OutOfMemory → List ℕ
stress_text name (Ok size) = size_lines size
stress_text name (Err want) = want_text name

abbrev pub stress_exit : Result Size OutOfMemory → Exit
stress_exit (Ok size) = end.Decided
stress_exit (Err want) = end.Memory

-- the value of a formula, with its certificate
abbrev pub value_text : FormulaAnswer → List ℕ
value_text (True text) = text
value_text (False text) = text

abbrev pub value_exit : FormulaAnswer → Exit
value_exit (True text) = end.Sat
value_exit (False text) = end.Unsat

abbrev pub qbf_text : List ℕ → Result FormulaAnswer SatError → List ℕ
qbf_text name (Ok found) = value_text found
qbf_text name (Err error) = notice_text (refusal_status error) name (refusal_reason name error)

abbrev pub qbf_exit : Result FormulaAnswer SatError → Exit
qbf_exit (Ok found) = value_exit found
qbf_exit (Err error) = exit_of (refusal_status error)

abbrev pub text_for : List ℕ → Answer → List ℕ
text_for name (Prove outcome) = problem_text name outcome
text_for name (Sat outcome) = sat_text name outcome
text_for name (Check outcome) = check_text name outcome
text_for name (Rewrite outcome) = rewriting_text name outcome
text_for name (Ask outcome) = ask_text name outcome
text_for name (Stress outcome) = stress_text name outcome
text_for name (Qbf outcome) = qbf_text name outcome
text_for name (Fmodel outcome) = problem_text name outcome
text_for name (Core outcome) = problem_text name outcome
text_for name Unread = notice_text status.UsageError name (codes "% usage\n")
text_for name NoWords = want_text name

abbrev pub exit_for : Answer → Exit
exit_for (Prove outcome) = problem_exit outcome
exit_for (Sat outcome) = sat_exit outcome
exit_for (Check outcome) = check_exit outcome
exit_for (Rewrite outcome) = rewriting_exit outcome
exit_for (Ask outcome) = ask_exit outcome
exit_for (Stress outcome) = stress_exit outcome
exit_for (Qbf outcome) = qbf_exit outcome
exit_for (Fmodel outcome) = problem_exit outcome
exit_for (Core outcome) = problem_exit outcome
exit_for Unread = end.Usage
exit_for NoWords = end.Memory

-- ---- the causes of what is answered by check, its rewriting, ask, stress, fmodel and core

-- what is found of the certificate of a file and the problem of another, or why nothing is
abbrev pub IsFinding : Reading → List ℕ → Option (List ℕ) → Option (List ℕ) → Result (Form × Judgement) CheckFault → Type 0
IsFinding read cert problem root (Ok found) = IsJudged read.old.files cert problem root found
IsFinding read cert problem root (Err why) = IsCheckFault read.old.files read.old.faults read.new.faults cert problem root why

-- what the certificate of a file is in the format in which certificates are written, or why it is not rewritten
abbrev pub IsRewritingOf : Reading → List ℕ → Option (List ℕ) → Option (List ℕ) → Result Rewriting CheckFault → Type 0
IsRewritingOf read cert problem root (Ok rewriting) = IsRewritten read.old.files cert problem root rewriting
IsRewritingOf read cert problem root (Err why) = IsCheckFault read.old.files read.old.faults read.new.faults cert problem root why

-- what the saturation of a file says of an atom, or why it says nothing
abbrev pub IsReplyOf : Reading → List ℕ → Tree → Result Reply CertFault → Type 0
IsReplyOf read cert atom (Ok reply) = IsReplied read.old.files cert atom reply
IsReplyOf read cert atom (Err why) = IsAskFault read.old.files read.old.faults read.new.faults cert why

-- how large a refutation of the chain is
abbrev pub IsMeasured : ℕ → Result Size OutOfMemory → Type 0
IsMeasured number (Ok size) = IsRefutedIn number size
IsMeasured number (Err want) = ⊤

-- tables over so many elements for the problem of the file, or that there are none, or why there is no answer
abbrev pub IsModelOutcome : Reading → ℕ → List ℕ → Option (List ℕ) → Result (List ℕ) Refusal → Type 0
IsModelOutcome read elements file root = IsAnswered (HasModelAnswer read.old.files elements file root) (IsUnmodelled elements) read file root

-- a core of the problem of the file, or that there is none, or why there is no answer
abbrev pub IsCoreOutcome : Reading → List ℕ → Option (List ℕ) → Result (List ℕ) Refusal → Type 0
IsCoreOutcome read file root = IsAnswered (HasCoreAnswer read.old.files file root) IsUncored read file root

-- ---- the causes of all answers

-- the cause of an answer under this name to the words
abbrev pub IsAnswer : List (List ℕ) → Reading → List ℕ → Answer → Type 0
IsAnswer words read name (Prove outcome) = (root : Option (List ℕ)) × (budget : ℕ) × IsAsked words (prove name root budget) × IsProof read name root budget outcome
IsAnswer words read name (Sat outcome) = IsAsked words (sat name) × IsOutcome read.old read.new name outcome
IsAnswer words read name (Check outcome) = (problem : Option (List ℕ)) × (root : Option (List ℕ)) × IsAsked words (check name problem root) × IsFinding read name problem root outcome
IsAnswer words read name (Rewrite outcome) = (problem : Option (List ℕ)) × (root : Option (List ℕ)) × IsAsked words (rewrite name problem root) × IsRewritingOf read name problem root outcome
IsAnswer words read name (Ask outcome) = (atom : Signed Tree) × IsAsked words (ask name atom) × IsReplyOf read name atom.atom outcome
IsAnswer words read name (Stress outcome) = (name ≡ codes "stress") × IsUntouched read × (number : ℕ) × IsAsked words (stress number) × IsMeasured number outcome
IsAnswer words read name (Qbf outcome) = IsAsked words (qbf name) × IsFormulaOutcome read.old read.new name outcome
IsAnswer words read name (Fmodel outcome) = (elements : ℕ) × (root : Option (List ℕ)) × IsAsked words (fmodel elements name root) × IsModelOutcome read elements name root outcome
IsAnswer words read name (Core outcome) = (root : Option (List ℕ)) × IsAsked words (core name root) × IsCoreOutcome read name root outcome
IsAnswer words read name Unread = (name ≡ codes "instgen") × IsUntouched read × IsUnread words
IsAnswer words read name NoWords = (name ≡ codes "instgen") × IsUntouched read

-- ---- what a run did

-- what the sink has seen before the call and after it
pub record Writing : Type 0 where
  pub old : Seen
  pub new : Seen

abbrev pub writing : Seen → Seen → Writing
writing old new = record { old = old; new = new }

-- There is an answer with its cause, and the exit and what was written are that answer's.
pub record Answered (words : List (List ℕ)) (read : Reading) (write : Writing) (exit : Exit) : Type 0 where
  pub name : List ℕ
  pub answer : Answer
  pub cause : IsAnswer words read name answer
  pub written : IsWritten write.old write.new (text_for name answer) (exit_for answer) exit

-- the name of an answer to words that were read: that of what they ask, or the program's, where they ask nothing
abbrev pub name_for : Option Request → List ℕ
name_for (Some request) = name_of (question_of request)
name_for None = codes "instgen"

-- the answer is under this name
abbrev pub AnsweredUnder : List ℕ → List (List ℕ) → Reading → Writing → Exit → Type 0
AnsweredUnder name words read write exit = (a : Answered words read write exit) × (a.name ≡ name)

-- ---- what the words ask

abbrev pub AsksProof : List (List ℕ) → Type 0
AsksProof words = (file : List ℕ) × (root : Option (List ℕ)) × (budget : ℕ) × IsAsked words (prove file root budget)

abbrev pub AsksCheck : List (List ℕ) → Type 0
AsksCheck words = (cert : List ℕ) × (problem : Option (List ℕ)) × (root : Option (List ℕ)) × IsAsked words (check cert problem root)

abbrev pub AsksRewriting : List (List ℕ) → Type 0
AsksRewriting words = (cert : List ℕ) × (problem : Option (List ℕ)) × (root : Option (List ℕ)) × IsAsked words (rewrite cert problem root)

abbrev pub AsksAtom : List (List ℕ) → Type 0
AsksAtom words = (cert : List ℕ) × (atom : Signed Tree) × IsAsked words (ask cert atom)

abbrev pub AsksChain : List (List ℕ) → Type 0
AsksChain words = (number : ℕ) × IsAsked words (stress number)

abbrev pub AsksClauses : List (List ℕ) → Type 0
AsksClauses words = (file : List ℕ) × IsAsked words (sat file)

abbrev pub AsksFormula : List (List ℕ) → Type 0
AsksFormula words = (file : List ℕ) × IsAsked words (qbf file)

abbrev pub AsksModel : List (List ℕ) → Type 0
AsksModel words = (elements : ℕ) × (file : List ℕ) × (root : Option (List ℕ)) × IsAsked words (fmodel elements file root)

abbrev pub AsksCore : List (List ℕ) → Type 0
AsksCore words = (file : List ℕ) × (root : Option (List ℕ)) × IsAsked words (core file root)

-- ---- what was written

-- The text of a certificate for the problem of the file that the words name was written, whole.
pub record WritesCertificate (words : List (List ℕ)) (files : Option (List NamedFile)) (old new : Option (List ℕ)) : Type 0 where
  pub file : List ℕ
  pub root : Option (List ℕ)
  pub budget : ℕ
  pub asked : IsAsked words (prove file root budget)
  pub certificate : Certificate
  pub is_verdict : IsVerdict files file root certificate
  pub written : Appends old new (written_text file certificate)

-- The numbers of a run on the problem of the file that ends for want of budget were written, whole.
pub record WritesNumbers (words : List (List ℕ)) (files : Option (List NamedFile)) (old new : Option (List ℕ)) : Type 0 where
  pub file : List ℕ
  pub root : Option (List ℕ)
  pub budget : ℕ
  pub left : ℕ
  pub wanted : ℕ
  pub asked : IsAsked words (prove file root budget)
  pub stopped : IsOutOfBudget files file root budget left wanted
  pub written : Appends old new (refusal_text file (why.Unanswered (reason.OutOfBudget budget left wanted)))

-- a question about a certificate, and the problem of another file
abbrev pub OfCertificate : Type 0
OfCertificate = List ℕ → Option (List ℕ) → Option (List ℕ) → Asked

-- The line of what the certificate is found to be was written, whole, to this question, and the program ends as it should with that.
pub record WritesJudgement (question : OfCertificate) (words : List (List ℕ)) (files : Option (List NamedFile)) (old new : Option (List ℕ)) (exit : Exit) : Type 0 where
  pub cert : List ℕ
  pub problem : Option (List ℕ)
  pub root : Option (List ℕ)
  pub asked : IsAsked words (question cert problem root)
  pub form : Form
  pub judgement : Judgement
  pub found : IsJudged files cert problem root (form, judgement)
  pub ends : exit ≡ judgement_exit judgement
  pub written : Appends old new (judgement_line form judgement)

-- The text of the certificate in the format in which certificates are written, under its own name, was written, whole.
pub record WritesRewriting (words : List (List ℕ)) (files : Option (List NamedFile)) (old new : Option (List ℕ)) : Type 0 where
  pub cert : List ℕ
  pub problem : Option (List ℕ)
  pub root : Option (List ℕ)
  pub asked : IsAsked words (rewrite cert problem root)
  pub text : List ℕ
  pub rewritten : IsRewritten files cert problem root (rewriting.Text text)
  pub written : Appends old new text

-- The line of what the saturation says of the atom was written, whole, and the program ends as it should with that.
pub record WritesReply (words : List (List ℕ)) (files : Option (List NamedFile)) (old new : Option (List ℕ)) (exit : Exit) : Type 0 where
  pub cert : List ℕ
  pub atom : Signed Tree
  pub asked : IsAsked words (ask cert atom)
  pub reply : Reply
  pub said : IsReplied files cert atom.atom reply
  pub ends : exit ≡ reply_exit reply
  pub written : Appends old new (reply_line reply)

-- The lines that say how large a refutation of the chain is were written, whole.
pub record WritesSize (words : List (List ℕ)) (old new : Option (List ℕ)) : Type 0 where
  pub number : ℕ
  pub asked : IsAsked words (stress number)
  pub size : Size
  pub refuted : IsRefutedIn number size
  pub written : Appends old new (size_lines size)

-- how the program ends where it tells that truth values are found, or a formula is true, or that there are none, or it is false
abbrev pub TellsValue : Exit → Type 0
TellsValue exit = (exit ≡ end.Sat) ⊎ (exit ≡ end.Unsat)

-- Truth values that make the clauses of the file true, or a derivation that there are none, were written, whole, and the program ends
-- as it should with that.
pub record WritesSolved (words : List (List ℕ)) (files : Option (List NamedFile)) (old new : Option (List ℕ)) (exit : Exit) : Type 0 where
  pub file : List ℕ
  pub asked : IsAsked words (sat file)
  pub bytes : List ℕ
  pub held : IsHeld files file bytes
  pub clauses : Cnf
  pub read : IsDimacs bytes clauses
  pub answer : SatAnswer
  pub shown : IsAnswerFor clauses.vars clauses.clauses answer
  pub ends : exit ≡ solved_exit answer
  pub written : Appends old new (solved_text answer)

-- The value of the formula of the file that the words name was written, whole, with the certificate that shows it, and the program
-- ends as it should with that.
pub record WritesFormula (words : List (List ℕ)) (files : Option (List NamedFile)) (old new : Option (List ℕ)) (exit : Exit) : Type 0 where
  pub file : List ℕ
  pub asked : IsAsked words (qbf file)
  pub bytes : List ℕ
  pub held : IsHeld files file bytes
  pub formula : Quantified
  pub read : IsQdimacs bytes formula
  pub answer : FormulaAnswer
  pub shown : IsFormulaAnswer file formula answer
  pub ends : exit ≡ value_exit answer
  pub written : Appends old new (value_text answer)

-- Tables that make the clauses of the problem of the file true were written, whole, or the refutation that shows that there are none.
pub record WritesModel (words : List (List ℕ)) (files : Option (List NamedFile)) (old new : Option (List ℕ)) : Type 0 where
  pub elements : ℕ
  pub file : List ℕ
  pub root : Option (List ℕ)
  pub asked : IsAsked words (fmodel elements file root)
  pub text : List ℕ
  pub shown : HasModelAnswer files elements file root text
  pub written : Appends old new text

-- A core of the problem of the file was written, whole, with the certificates that show that it is one, or the saturation that shows
-- that there is none.
pub record WritesCore (words : List (List ℕ)) (files : Option (List NamedFile)) (old new : Option (List ℕ)) : Type 0 where
  pub file : List ℕ
  pub root : Option (List ℕ)
  pub asked : IsAsked words (core file root)
  pub text : List ℕ
  pub shown : HasCoreAnswer files file root text
  pub written : Appends old new text

-- how the program ends where the words ask for a chain
abbrev pub EndsChain : Exit → Type 0
EndsChain exit = (exit ≡ end.Decided) ⊎ (exit ≡ end.WriteFault) ⊎ (exit ≡ end.Memory)

-- what is complained of a certificate, whether it is checked, with or without its rewriting, or asked
abbrev pub WritesComplaint : List (List ℕ) → Option (List NamedFile) → Option (List ℕ) → Option (List ℕ) → Type 0
WritesComplaint words files old new =
    WritesJudgement check words files old new end.CheckFailed ⊎ WritesJudgement rewrite words files old new end.CheckFailed ⊎ WritesReply words files old new end.CheckFailed

-- The sink tells what it took, and that is the text of a printable certificate, whole.
pub record TookCertificate (old new : Option (List ℕ)) : Type 0 where
  pub taken : List ℕ
  pub told : old ≡ Some taken
  pub text : List ℕ
  pub is_text : IsCertificateText text
  pub written : Appends old new text

-- A proper prefix of the text of an answer with its cause was written.
pub record IsInterrupted (words : List (List ℕ)) (read : Reading) (old new : Option (List ℕ)) : Type 0 where
  pub name : List ℕ
  pub answer : Answer
  pub cause : IsAnswer words read name answer
  pub written : AppendsProperPrefix old new (text_for name answer)

-- The name of an answer to the words: that of what they ask; or the program's, where the library was not called, since it is
-- called only once the words are read.
abbrev pub IsNamed : List (List ℕ) → Reading → List ℕ → Type 0
IsNamed words read name = ((name ≡ codes "instgen") × IsUntouched read) ⊎ ((a : Asked) × IsAsked words a × (name ≡ name_of a))

-- that memory is wanted was written, whole, under such a name
pub record WritesWant (words : List (List ℕ)) (read : Reading) (old new : Option (List ℕ)) : Type 0 where
  pub name : List ℕ
  pub named : IsNamed words read name
  pub written : Appends old new (want_text name)

-- that memory is wanted was written; or the sink may want memory, and an answer was not written whole
abbrev pub WantsMemory : List (List ℕ) → Reading → Writing → Type 0
WantsMemory words read write =
    WritesWant words read write.old.taken write.new.taken ⊎ (IsTrue write.old.may_want × IsInterrupted words read write.old.taken write.new.taken)

-- ---- what is found of a problem, where the files are told, and the exits that are wanted then

-- the problem of the file, or why it gives none
abbrev pub IsLoaded : List NamedFile → List ℕ → Option (List ℕ) → Result Problem LoadError → Type 0
IsLoaded files file root (Ok p) = Loads files file root p
IsLoaded files file root (Err e) = Refuses files file root e

-- a problem is decided; or, where it has function symbols with arguments, a budget may run out
abbrev pub WantsOfProblem : Result Problem LoadError → Exit → Type 0
WantsOfProblem (Ok p) exit = (exit ≡ end.Decided) ⊎ ((exit ≡ end.ResourceOut) × IsFalse (is_function_free p.clauses))
WantsOfProblem (Err e) exit = exit ≡ end.Refused

-- the problem of the file, where it fits, or why there is none
abbrev pub IsFitting : (Problem → Type 0) → ReasonRelation → List NamedFile → List ℕ → Option (List ℕ) → Result Problem Refusal → Type 0
IsFitting fits bars files file root (Ok p) = Loads files file root p × fits p
IsFitting fits bars files file root (Err (why.Load e)) = Refuses files file root e
IsFitting fits bars files file root (Err (why.Unanswered given)) = (p : Problem) × Loads files file root p × bars p given
IsFitting fits bars files file root (Err why.Memory) = ⊥

-- the problem of the file, whose tables over so many elements are not too large, or why there is none
abbrev pub IsTabled : List NamedFile → ℕ → List ℕ → Option (List ℕ) → Result Problem Refusal → Type 0
IsTabled files elements file root = IsFitting (λ p. ¬ IsTooWide elements p.clauses) (IsUnmodelled elements) files file root

-- the problem of the file, without function symbols that have arguments, or why there is none
abbrev pub IsFlat : List NamedFile → List ℕ → Option (List ℕ) → Result Problem Refusal → Type 0
IsFlat files file root = IsFitting (λ p. IsTrue (is_function_free p.clauses)) IsUncored files file root

-- such a problem is always decided
abbrev pub WantsDecision : Result Problem Refusal → Exit → Type 0
WantsDecision (Ok p) exit = exit ≡ end.Decided
WantsDecision (Err e) exit = exit ≡ end.Refused

-- ---- what is found of clauses in the DIMACS form, and of formulas

-- a relation between texts and what they give
abbrev pub TextRelation : Type 0 → Type 1
TextRelation A = List ℕ → A → Type 0

-- the file's text is refused for this, and memory did not run out
abbrev pub IsRefusedBy : TextRelation DimacsError → List NamedFile → List ℕ → DimacsError → Type 0
IsRefusedBy refuses files file fault.Memory = ⊥
IsRefusedBy refuses files file e = (bytes : List ℕ) × IsHeld (Some files) file bytes × refuses bytes e

-- the file is absent or too long, or its text is refused
abbrev pub IsBarred : TextRelation DimacsError → List NamedFile → List ℕ → SatError → Type 0
IsBarred refuses files file bar.Absent = bytes_named files file ≡ None
IsBarred refuses files file bar.TooLong = (bytes : List ℕ) × (bytes_named files file ≡ Some bytes) × (limit < length bytes)
IsBarred refuses files file (bar.Text e) = IsRefusedBy refuses files file e
IsBarred refuses files file bar.ReadFault = ⊥
IsBarred refuses files file bar.Memory = ⊥

-- what the file's text spells, or why it spells nothing
abbrev pub IsRead : {A : Type 0} → TextRelation A → TextRelation DimacsError → List NamedFile → List ℕ → Result A SatError → Type 0
IsRead spells refuses files file (Ok found) = (bytes : List ℕ) × IsHeld (Some files) file bytes × spells bytes found
IsRead spells refuses files file (Err e) = IsBarred refuses files file e

-- some truth values make the clauses true, or none do
abbrev pub WantsOfClauses : Result Cnf SatError → Exit → Type 0
WantsOfClauses (Ok cnf) exit =
    ((exit ≡ end.Sat) × (values : List Bool) × IsModel cnf.vars cnf.clauses values)
    ⊎ ((exit ≡ end.Unsat) × ((values : List Bool) → ¬ IsModel cnf.vars cnf.clauses values))
WantsOfClauses (Err e) exit = exit ≡ end.Refused

-- some truth values of the variables without a quantifier make the formula true, or all make it false
abbrev pub WantsOfFormula : Result Quantified SatError → Exit → Type 0
WantsOfFormula (Ok q) exit = ((exit ≡ end.Sat) × IsTrueFormula q) ⊎ ((exit ≡ end.Unsat) × IsFalseFormula q)
WantsOfFormula (Err e) exit = exit ≡ end.Refused

-- ---- what is found of certificates

abbrev pub WantsOfCheck : Result (Form × Judgement) CheckFault → Exit → Type 0
WantsOfCheck (Ok found) exit = exit ≡ judgement_exit found.1
WantsOfCheck (Err why) exit = exit ≡ end.Refused

abbrev pub WantsOfReply : Result Reply CertFault → Exit → Type 0
WantsOfReply (Ok reply) exit = exit ≡ reply_exit reply
WantsOfReply (Err why) exit = exit ≡ end.Refused

-- ---- when each exit comes, where the files are told

-- what a question finds
abbrev pub Finding : Asked → Type 0
Finding (prove file root budget) = Result Problem LoadError
Finding (sat file) = Result Cnf SatError
Finding (check cert problem root) = Result (Form × Judgement) CheckFault
Finding (rewrite cert problem root) = Result (Form × Judgement) CheckFault
Finding (ask cert atom) = Result Reply CertFault
Finding (stress number) = ⊤
Finding (qbf file) = Result Quantified SatError
Finding (fmodel elements file root) = Result Problem Refusal
Finding (core file root) = Result Problem Refusal

-- it finds this in the files
abbrev pub Finds : List NamedFile → (question : Asked) → Finding question → Type 0
Finds files (prove file root budget) found = IsLoaded files file root found
Finds files (sat file) found = IsRead IsDimacs IsRefusal files file found
Finds files (check cert problem root) found = IsFound files cert problem root found
Finds files (rewrite cert problem root) found = IsFound files cert problem root found
Finds files (ask cert atom) found = IsFoundReply files cert atom.atom found
Finds files (stress number) found = ⊤
Finds files (qbf file) found = IsRead IsQdimacs IsFormulaRefusal files file found
Finds files (fmodel elements file root) found = IsTabled files elements file root found
Finds files (core file root) found = IsFlat files file root found

-- this exit is wanted then
abbrev pub Wants : (question : Asked) → Finding question → Exit → Type 0
Wants (prove file root budget) found exit = WantsOfProblem found exit
Wants (sat file) found exit = WantsOfClauses found exit
Wants (check cert problem root) found exit = WantsOfCheck found exit
Wants (rewrite cert problem root) found exit = WantsOfCheck found exit
Wants (ask cert atom) found exit = WantsOfReply found exit
Wants (stress number) found exit = exit ≡ end.Decided
Wants (qbf file) found exit = WantsOfFormula found exit
Wants (fmodel elements file root) found exit = WantsDecision found exit
Wants (core file root) found exit = WantsDecision found exit

-- what can stand in the words and the files: a question with what it finds, or words that are not read
pub data Situation : Type 0 where
  asks : (question : Asked) → Finding question → Situation
  unread : Situation

abbrev pub Stands : List (List ℕ) → List NamedFile → Situation → Type 0
Stands words files (asks question found) = IsAsked words question × Finds files question found
Stands words files unread = IsUnread words

abbrev pub IsWanted : Situation → Exit → Type 0
IsWanted (asks question found) exit = Wants question found exit
IsWanted unread exit = exit ≡ end.Usage

-- the exit is that of a fault that has its cause, or of being out of memory
abbrev pub Yields : Reading → Writing → Exit → Type 0
Yields read write exit =
    ((exit ≡ end.ReadFault) × Rose read.old.faults read.new.faults) ⊎ ((exit ≡ end.WriteFault) × Rose write.old.faults write.new.faults) ⊎ (exit ≡ end.Memory)

-- The exit is wanted in a situation that stands, or yields; and in each situation that stands it is wanted, or yields.
pub record IsExact (words : List (List ℕ)) (files : List NamedFile) (read : Reading) (write : Writing) (exit : Exit) : Type 0 where
  pub cause : ((s : Situation) × Stands words files s × IsWanted s exit) ⊎ Yields read write exit
  pub each : (s : Situation) → Stands words files s → IsWanted s exit ⊎ Yields read write exit
