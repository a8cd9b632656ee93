-- Where the text of a certificate was taken whole, the answer is a verdict, and was written whole.
use Rattle.std.proofs.Common.{◌≡◌, ◌∙◌, ℕ, List, [], false, Option, inl, inr, refl, sym, ap, codes, ◌++◌, true, append-nil}
use Rattle.std.specs.Prelude.{◌⊎◌, Result, Ok, Err}
use Rattle.std.specs.Io.KnownBytes.{Appends}
use Rattle.outside_io.specs.Notices.{notice_text}
use Rattle.outside_io.specs.declared.notices.Status.{Status}
use Rattle.cert_front.specs.Words.{judgement_line, reply_line}
use Rattle.cert_front.specs.declared.judgement.Judgement.{Judgement}
use Rattle.cert_front.specs.declared.reply.Reply.{Reply}
use Rattle.cert_front.specs.declared.rewriting.Rewriting.{Rewriting}
use Rattle.cert_front.specs.declared.words.Form.{Form}
use Rattle.cert_front.specs.Texts.{fault_reason, fault_status}
use Rattle.cert_front.specs.declared.check.CheckFault.{CheckFault}
use Rattle.dimacs_front.specs.Files.{IsOutcome}
use Rattle.dimacs_front.specs.Notices.{refusal_reason, refusal_status}
use Rattle.dimacs_front.specs.declared.answers.SatAnswer.{SatAnswer}
use Rattle.dimacs_front.specs.declared.answers.SatAnswer.TheVariants.{Satisfiable, Unsatisfiable}
use Rattle.dimacs_front.specs.declared.file.SatError.{SatError}
use Rattle.szs_prove.specs.SizeWords.{size_lines}
use Rattle.szs_prove.specs.Answers.{IsProof, Reading}
use Rattle.szs_prove.specs.Answered.{Answered, IsAnswer, IsCoreOutcome, IsModelOutcome, IsRewritingOf, TookCertificate, Writing, exit_for, problem_exit, qbf_text, rewriting_exit, rewriting_text, sat_text, text_for, problem_text, unjudged_reason, unjudged_status}
use Rattle.szs_prove.specs.Texts.{reason_of, status_of}
use Rattle.szs_prove.specs.Formulas.{IsFormulaOutcome}
use Rattle.szs_prove.specs.ModelAnswers.{IsNoTablesText, IsTablesText}
use Rattle.szs_prove.specs.declared.answer.Answer.{Answer}
use Rattle.szs_prove.specs.declared.answer.Answer.TheVariants.{Prove, Sat, Check, Rewrite, Ask, Stress, Qbf, Fmodel, Core, Unread, NoWords}
use Rattle.szs_prove.specs.declared.exit.Exit.{Exit}
use Rattle.szs_prove.specs.declared.formula.FormulaAnswer.{FormulaAnswer}
use Rattle.szs_prove.specs.declared.formula.FormulaAnswer.TheVariants.{True, False}
use Rattle.szs_prove.specs.declared.refusal.Refusal.{Refusal}
use Rattle.szs_prove.specs.declared.sizes.Size.{Size}
use Rattle.cert_format.specs.ValueLines.{IsCertificateText}
use Rattle.cert_format.proofs.Taken.{no_more}
use Rattle.cert_format.specs.Formats.{written_format}
use Rattle.outside_io.specs.Taken.{AppendsProperPrefix}
use Rattle.szs_prove.specs.CoreTexts.{IsCoreText, IsNoCoreText}
use Rattle.inst_logic.specs.declared.clause.Problem.{Problem}
use Rattle.szs_prove.proofs.VerdictTexts.{begins_comment, begins_verdict, has_start, no_comment, no_line, no_other, notice_begins, one_text, second_line, third_is_s}
use Rattle.outside_io.specs.declared.notices.Status.TheVariants as status
use Rattle.tptp_read.specs.declared.text.ReadError.TheVariants as text
use Rattle.cert_front.specs.declared.judgement.Judgement.TheVariants as judgement
use Rattle.cert_front.specs.declared.reply.Reply.TheVariants as reply
use Rattle.cert_front.specs.declared.rewriting.Rewriting.TheVariants as rewriting
use Rattle.szs_prove.specs.declared.exit.Exit.TheVariants as exit

judgement_begins : (f : Form) (j : Judgement) → begins_comment (judgement_line f j) ≡ false
judgement_begins f judgement.Valid = refl
judgement_begins f (judgement.Problem n) = refl
judgement_begins f (judgement.Invalid why) = refl

reply_begins : (r : Reply) → begins_comment (reply_line r) ≡ false
reply_begins reply.True = refl
reply_begins reply.False = refl
reply_begins (reply.Invalid why) = refl

tables_third : (k : ℕ) (file : List ℕ) (p : Problem) (text : List ℕ) → IsTablesText k file p text ⊎ IsNoTablesText k file p text → third_is_s text ≡ false
tables_third k file p text (inl h) = ap third_is_s h.is
tables_third k file p text (inr h) = ap third_is_s h.is

core_third : (p : Problem) (file text : List ℕ) → IsCoreText p file text ⊎ IsNoCoreText p file text → third_is_s text ≡ false
core_third p file text (inl h) = ap third_is_s h.is
core_third p file text (inr h) = ap third_is_s h.is

no_chain : (size : Size) (text more : List ℕ) → IsCertificateText text → size_lines size ≡ text ++ more → ⊥
no_chain size text more h e =
    let yes : has_start (text ++ more) ≡ true = ap (λ t. has_start (t ++ more)) h.is ∙ second_line h.format h.name h.value more h.name_is in
    let no : has_start (text ++ more) ≡ false = sym (ap has_start e) in
    cc

module _ (words : List (List ℕ)) (read : Reading) (write : Writing) (e : Exit) (a : Answered words read write e) (t : TookCertificate write.old.taken write.new.taken) where
  no_notice : (s : Status) (name reason more : List ℕ) → notice_text s name reason ≡ t.text ++ more → ⊥
  no_notice s name reason more same = no_other (notice_text s name reason) t.text more (notice_begins s name reason) t.is_text same

  prove_decides : (name : List ℕ) (root : Option (List ℕ)) (budget : ℕ) (o : Result (List ℕ) Refusal) → IsProof read name root budget o → (more : List ℕ)
      → problem_text name o ≡ t.text ++ more → (problem_exit o ≡ exit.Decided) × (more ≡ [])
  prove_decides name root budget (Ok text) h more same =
      let is : IsCertificateText (t.text ++ more) = record { format = written_format; name = name; value = h.0; name_is = h.1.name; printable = h.1.certifies.printable; is = sym same ∙ h.2 } in
      (refl, no_more t.text more t.is_text is)
  prove_decides name root budget (Err why) h more same = absurd (no_notice (status_of why) name (reason_of why) more same)

  rewriting_decides : (name : List ℕ) (problem root : Option (List ℕ)) (o : Result Rewriting CheckFault) → IsRewritingOf read name problem root o → (more : List ℕ)
      → rewriting_text name o ≡ t.text ++ more → (rewriting_exit o ≡ exit.Decided) × (more ≡ [])
  rewriting_decides name problem root (Ok (rewriting.Text text)) h more same =
      let new = h.rewritten.so.1 in
      let is : IsCertificateText (t.text ++ more) = record { format = written_format; name = h.held.text.1; value = new.value; name_is = h.held.text.2.name_is; printable = new.printable; is = sym same ∙ new.is } in
      (refl, no_more t.text more t.is_text is)
  rewriting_decides name problem root (Ok (rewriting.Refused form j)) h more same = absurd (no_line (judgement_line form j) t.text more (judgement_begins form j) t.is_text same)
  rewriting_decides name problem root (Err why) h more same = absurd (no_notice (unjudged_status why) name (unjudged_reason name why) more same)

  not_values : (name : List ℕ) (o : Result SatAnswer SatError) → IsOutcome read.old read.new name o → (more : List ℕ) → sat_text name o ≡ t.text ++ more → ⊥
  not_values name (Ok (Satisfiable text)) h more same = no_other text t.text more (ap begins_verdict h.4.is) t.is_text same
  not_values name (Ok (Unsatisfiable text)) h more same = no_other text t.text more (ap begins_verdict h.4.is) t.is_text same
  not_values name (Err e) h more same = no_notice (refusal_status e) name (refusal_reason name e) more same

  not_formula : (name : List ℕ) (o : Result FormulaAnswer SatError) → IsFormulaOutcome read.old read.new name o → (more : List ℕ) → qbf_text name o ≡ t.text ++ more → ⊥
  not_formula name (Ok (True text)) h more same = no_line text t.text more (ap begins_comment h.4.1.is) t.is_text same
  not_formula name (Ok (False text)) h more same = no_line text t.text more (ap begins_comment h.4.1.is) t.is_text same
  not_formula name (Err e) h more same = no_notice (refusal_status e) name (refusal_reason name e) more same

  not_tables : (elements : ℕ) (name : List ℕ) (root : Option (List ℕ)) (o : Result (List ℕ) Refusal) → IsModelOutcome read elements name root o → (more : List ℕ) → problem_text name o ≡ t.text ++ more → ⊥
  not_tables elements name root (Ok text) h more same = no_comment text t.text more (tables_third elements name h.0 text h.2.said) t.is_text same
  not_tables elements name root (Err why) h more same = no_notice (status_of why) name (reason_of why) more same

  not_core : (name : List ℕ) (root : Option (List ℕ)) (o : Result (List ℕ) Refusal) → IsCoreOutcome read name root o → (more : List ℕ) → problem_text name o ≡ t.text ++ more → ⊥
  not_core name root (Ok text) h more same = no_comment text t.text more (core_third h.0 name text h.3) t.is_text same
  not_core name root (Err why) h more same = no_notice (status_of why) name (reason_of why) more same

  -- an answer whose text has the certificate's in front
  has_certificate : (name : List ℕ) (answer : Answer) → IsAnswer words read name answer → (more : List ℕ) → text_for name answer ≡ t.text ++ more → (exit_for answer ≡ exit.Decided) × (more ≡ [])
  has_certificate name (Prove o) h more same = prove_decides name h.0 h.1 o h.3 more same
  has_certificate name (Sat o) h more same = absurd (not_values name o h.1 more same)
  has_certificate name (Check (Ok found)) h more same = absurd (no_line (judgement_line found.0 found.1) t.text more (judgement_begins found.0 found.1) t.is_text same)
  has_certificate name (Check (Err why)) h more same = absurd (no_notice (unjudged_status why) name (unjudged_reason name why) more same)
  has_certificate name (Rewrite o) h more same = rewriting_decides name h.0 h.1 o h.3 more same
  has_certificate name (Ask (Ok r)) h more same = absurd (no_line (reply_line r) t.text more (reply_begins r) t.is_text same)
  has_certificate name (Ask (Err f)) h more same = absurd (no_notice (fault_status f) name (fault_reason name f) more same)
  has_certificate name (Stress (Ok size)) h more same = absurd (no_chain size t.text more t.is_text same)
  has_certificate name (Stress (Err want)) h more same = absurd (no_notice status.MemoryOut name [] more same)
  has_certificate name (Qbf o) h more same = absurd (not_formula name o h.1 more same)
  has_certificate name (Fmodel o) h more same = absurd (not_tables h.0 name h.1 o h.3 more same)
  has_certificate name (Core o) h more same = absurd (not_core name h.0 o h.2 more same)
  has_certificate name Unread h more same = absurd (no_notice status.UsageError name (codes "% usage\n") more same)
  has_certificate name NoWords h more same = absurd (no_notice status.MemoryOut name [] more same)

  abbrev told_text : List ℕ
  told_text = text_for a.name a.answer

  taken_whole : Appends write.old.taken write.new.taken told_text → exit_for a.answer ≡ exit.Decided
  taken_whole w = (has_certificate a.name a.answer a.cause [] (one_text write.old.taken write.new.taken t.taken told_text t.text t.told w t.written ∙ sym (append-nil t.text))).0

  not_cut : AppendsProperPrefix write.old.taken write.new.taken told_text → ⊥
  not_cut (front, rest, same, some, w) =
      let is : front ≡ t.text = one_text write.old.taken write.new.taken t.taken front t.text t.told w t.written in
      some (has_certificate a.name a.answer a.cause rest (same ∙ ap (λ (x : List ℕ). x ++ rest) is)).1

  pub took_verdict : e ≡ exit.Decided
  took_verdict = elim a.written [
    | inl w ↦ w.0 ∙ taken_whole w.1
    | inr v ↦ elim v [ inl w ↦ absurd (not_cut w.1) | inr w ↦ absurd (not_cut w.1) ]
  ]
