use Rattle.std.proofs.Common.{arith, subst, sym, refl, map, string_bytes, ℕ, List, Option, codes}
use Rattle.std.specs.Prelude.{IfOk, IfErr, Result, Ok, Err}
use Rattle.command_words.specs.declared.request.Request.{Request}
use Rattle.szs_prove.specs.Answers.{reading, HasVerdict, IsAnswered, IsRefusal, IsUndecided, IsUntouched, Reading, ReasonRelation}
use Rattle.szs_prove.specs.Answered.{IsAnswer}
use Rattle.szs_prove.specs.declared.answer.Answer.TheVariants.{Prove, Sat, Check, Rewrite, Ask, Stress, Qbf, Fmodel, Core}
use Rattle.szs_prove.proofs.AskedAtoms.{asked_atom_is_formed, asked_atom_is_free}
use Rattle.inst_logic.specs.declared.memory.Memory.{Memory as OutOfMemory}
use Rattle.inst_logic.specs.declared.signed.Signed.{Signed}
use Rattle.inst_logic.specs.Tree.{Tree}
use Rattle.cert_front.specs.Checks.{IsCheckFault, IsJudged}
use Rattle.cert_front.specs.Queries.{IsAskFault, IsReplied}
use Rattle.cert_front.specs.Rewritings.{IsRewritten}
use Rattle.cert_front.specs.declared.check.CheckFault.{CheckFault}
use Rattle.cert_front.specs.declared.fault.CertFault.{CertFault}
use Rattle.cert_front.specs.declared.judgement.Judgement.{Judgement}
use Rattle.cert_front.specs.declared.reply.Reply.{Reply}
use Rattle.cert_front.specs.declared.rewriting.Rewriting.{Rewriting}
use Rattle.cert_front.specs.declared.words.Form.{Form}
use Rattle.command_words.specs.Asked.{IsAsked, ask, asked, check, core, fmodel, name_of, prove, rewrite, stress}
use Rattle.szs_prove.specs.CoreAnswers.{HasCoreAnswer, IsUncored}
use Rattle.szs_prove.specs.ModelAnswers.{HasModelAnswer, IsUnmodelled}
use Rattle.szs_prove.specs.Sizes.{IsRefutedIn}
use Rattle.szs_prove.specs.declared.refusal.Refusal.{Refusal}
use Rattle.szs_prove.specs.declared.sizes.Size.{Size}
use Rattle.szs_prove.proofs.command.answer.Goals as goal

-- ---- the causes of what the calls of the commands answer

module _ (words : List (List ℕ)) (read : Reading) where
  of_problem : (answers : List ℕ → Type 0) (bars : ReasonRelation) (file : List ℕ) (root : Option (List ℕ)) (o : Result (List ℕ) Refusal) → IfOk o answers
      → IfErr o (IsRefusal bars read file root) → IsAnswered answers bars read file root o
  of_problem answers bars file root (Ok text) ok err = ok
  of_problem answers bars file root (Err why) ok err = err

  proved : (file : List ℕ) (root : Option (List ℕ)) (budget : ℕ) (o : Result (List ℕ) Refusal) → IsAsked words (prove file root budget)
      → IfOk o (HasVerdict read.old.files file root) → IfErr o (IsRefusal (IsUndecided budget) read file root) → IsAnswer words read file (Prove o)
  proved file root budget o asked ok err = (root, budget, asked, of_problem (HasVerdict read.old.files file root) (IsUndecided budget) file root o ok err)

  checked : (cert : List ℕ) (problem root : Option (List ℕ)) (o : Result (Form × Judgement) CheckFault) → IsAsked words (check cert problem root)
      → IfOk o (IsJudged read.old.files cert problem root) → IfErr o (IsCheckFault read.old.files read.old.faults read.new.faults cert problem root)
      → IsAnswer words read cert (Check o)
  checked cert problem root (Ok found) asked ok err = (problem, root, asked, ok)
  checked cert problem root (Err why) asked ok err = (problem, root, asked, err)

  rewritten : (cert : List ℕ) (problem root : Option (List ℕ)) (o : Result Rewriting CheckFault) → IsAsked words (rewrite cert problem root)
      → IfOk o (IsRewritten read.old.files cert problem root) → IfErr o (IsCheckFault read.old.files read.old.faults read.new.faults cert problem root)
      → IsAnswer words read cert (Rewrite o)
  rewritten cert problem root (Ok rewriting) asked ok err = (problem, root, asked, ok)
  rewritten cert problem root (Err why) asked ok err = (problem, root, asked, err)

  replied : (cert : List ℕ) (atom : Signed Tree) (o : Result Reply CertFault) → IsAsked words (ask cert atom)
      → IfOk o (IsReplied read.old.files cert atom.atom) → IfErr o (IsAskFault read.old.files read.old.faults read.new.faults cert)
      → IsAnswer words read cert (Ask o)
  replied cert atom (Ok reply) asked ok err = (atom, asked, ok)
  replied cert atom (Err why) asked ok err = (atom, asked, err)

  measured : (number : ℕ) (o : Result Size OutOfMemory) → IsUntouched read → IsAsked words (stress number) → IfOk o (IsRefutedIn number)
      → IsAnswer words read (codes "stress") (Stress o)
  measured number (Ok size) untouched asked ok = (refl, untouched, number, asked, ok)
  measured number (Err want) untouched asked ok = (refl, untouched, number, asked, tt)

  modelled : (elements : ℕ) (file : List ℕ) (root : Option (List ℕ)) (o : Result (List ℕ) Refusal) → IsAsked words (fmodel elements file root)
      → IfOk o (HasModelAnswer read.old.files elements file root) → IfErr o (IsRefusal (IsUnmodelled elements) read file root) → IsAnswer words read file (Fmodel o)
  modelled elements file root o asked ok err = (elements, root, asked, of_problem (HasModelAnswer read.old.files elements file root) (IsUnmodelled elements) file root o ok err)

  has_core : (file : List ℕ) (root : Option (List ℕ)) (o : Result (List ℕ) Refusal) → IsAsked words (core file root)
      → IfOk o (HasCoreAnswer read.old.files file root) → IfErr o (IsRefusal IsUncored read file root) → IsAnswer words read file (Core o)
  has_core file root o asked ok err = (root, asked, of_problem (HasCoreAnswer read.old.files file root) IsUncored file root o ok err)

-- ---- each command

pub prove-requires-clause-name : goal.prove-requires-clause-name
prove-requires-clause-name g c =
    let h = subst (λ (q : Request). IsAsked (map string_bytes c.args._words.now) (asked q)) c.in-Prove.is c.requires in
    c.asked_once.ensures.named _ _ h

pub prove-requires-clause-budget : goal.prove-requires-clause-budget
prove-requires-clause-budget g c =
    let h = subst (λ (q : Request). IsAsked (map string_bytes c.args._words.now) (asked q)) c.in-Prove.is c.requires in
    c.asked_once.ensures.within _ _ h

pub returns-in-Prove-clause-answer : goal.returns-in-Prove-clause-answer
returns-in-Prove-clause-answer g c =
    let h = subst (λ (q : Request). IsAsked (map string_bytes c.args._words.now) (asked q)) c.in-Prove.is c.requires in
    let read = reading (g.L.Library.told c.args.files.now) (g.L.Library.told c.prove.new.files) in
    subst (λ (q : Request). IsAnswer (map string_bytes c.args._words.now) read (name_of (asked q)) (Prove c.prove.result)) (sym c.in-Prove.is)
    (proved _ read _ _ _ c.prove.result h c.prove.ensures.ok c.prove.ensures.err)

pub returns-in-Sat-clause-answer : goal.returns-in-Sat-clause-answer
returns-in-Sat-clause-answer g c =
    let h = subst (λ (q : Request). IsAsked (map string_bytes c.args._words.now) (asked q)) c.in-Sat.is c.requires in
    let read = reading (g.L.Library.told c.args.files.now) (g.L.Library.told c.answer_file.new.files) in
    subst (λ (q : Request). IsAnswer (map string_bytes c.args._words.now) read (name_of (asked q)) (Sat c.answer_file.result)) (sym c.in-Sat.is)
    (h, c.answer_file.ensures.outcome)

pub returns-in-Check-clause-answer : goal.returns-in-Check-clause-answer
returns-in-Check-clause-answer g c =
    let h = subst (λ (q : Request). IsAsked (map string_bytes c.args._words.now) (asked q)) c.in-Check.is c.requires in
    let read = reading (g.L.Library.told c.args.files.now) (g.L.Library.told c.check_file.new.files) in
    subst (λ (q : Request). IsAnswer (map string_bytes c.args._words.now) read (name_of (asked q)) (Check c.check_file.result)) (sym c.in-Check.is)
    (checked _ read _ _ _ c.check_file.result h c.check_file.ensures.judged c.check_file.ensures.refused)

pub returns-in-Rewrite-clause-answer : goal.returns-in-Rewrite-clause-answer
returns-in-Rewrite-clause-answer g c =
    let h = subst (λ (q : Request). IsAsked (map string_bytes c.args._words.now) (asked q)) c.in-Rewrite.is c.requires in
    let read = reading (g.L.Library.told c.args.files.now) (g.L.Library.told c.rewrite_file.new.files) in
    subst (λ (q : Request). IsAnswer (map string_bytes c.args._words.now) read (name_of (asked q)) (Rewrite c.rewrite_file.result)) (sym c.in-Rewrite.is)
    (rewritten _ read _ _ _ c.rewrite_file.result h c.rewrite_file.ensures.rewritten c.rewrite_file.ensures.refused)

pub ask_file-requires-clause-atom : goal.ask_file-requires-clause-atom
ask_file-requires-clause-atom g c =
    let h = subst (λ (q : Request). IsAsked (map string_bytes c.args._words.now) (asked q)) c.in-Ask.is c.requires in
    asked_atom_is_formed _ _ _ h

pub ask_file-requires-clause-variable_free : goal.ask_file-requires-clause-variable_free
ask_file-requires-clause-variable_free g c =
    let h = subst (λ (q : Request). IsAsked (map string_bytes c.args._words.now) (asked q)) c.in-Ask.is c.requires in
    asked_atom_is_free c.atoms_are_variable_free.ensures _ _ _ h

pub returns-in-Ask-clause-answer : goal.returns-in-Ask-clause-answer
returns-in-Ask-clause-answer g c =
    let h = subst (λ (q : Request). IsAsked (map string_bytes c.args._words.now) (asked q)) c.in-Ask.is c.requires in
    let read = reading (g.L.Library.told c.args.files.now) (g.L.Library.told c.ask_file.new.files) in
    subst (λ (q : Request). IsAnswer (map string_bytes c.args._words.now) read (name_of (asked q)) (Ask c.ask_file.result)) (sym c.in-Ask.is)
    (replied _ read _ _ c.ask_file.result h c.ask_file.ensures.replied c.ask_file.ensures.refused)

pub stress-requires-clause-some : goal.stress-requires-clause-some
stress-requires-clause-some g c =
    let h = subst (λ (q : Request). IsAsked (map string_bytes c.args._words.now) (asked q)) c.in-Stress.is c.requires in
    let within = c.asked_once.ensures.within _ _ h in
    omega (arith, within.0)

pub stress-requires-clause-fits : goal.stress-requires-clause-fits
stress-requires-clause-fits g c =
    let h = subst (λ (q : Request). IsAsked (map string_bytes c.args._words.now) (asked q)) c.in-Stress.is c.requires in
    let within = c.asked_once.ensures.within _ _ h in
    omega (arith, within.1)

pub returns-in-Stress-clause-answer : goal.returns-in-Stress-clause-answer
returns-in-Stress-clause-answer g c =
    let h = subst (λ (q : Request). IsAsked (map string_bytes c.args._words.now) (asked q)) c.in-Stress.is c.requires in
    let read = reading (g.L.Library.told c.args.files.now) (g.L.Library.told c.args.files.now) in
    subst (λ (q : Request). IsAnswer (map string_bytes c.args._words.now) read (name_of (asked q)) (Stress c.stress.result)) (sym c.in-Stress.is)
    (measured _ read _ c.stress.result refl h c.stress.ensures)

pub answer_formula_file-requires : goal.answer_formula_file-requires
answer_formula_file-requires g c =
    let h = subst (λ (q : Request). IsAsked (map string_bytes c.args._words.now) (asked q)) c.in-Qbf.is c.requires in
    record { name = c.asked_once.ensures.named _ _ h }

pub returns-in-Qbf-clause-answer : goal.returns-in-Qbf-clause-answer
returns-in-Qbf-clause-answer g c =
    let h = subst (λ (q : Request). IsAsked (map string_bytes c.args._words.now) (asked q)) c.in-Qbf.is c.requires in
    let read = reading (g.L.Library.told c.args.files.now) (g.L.Library.told c.answer_formula_file.new.files) in
    subst (λ (q : Request). IsAnswer (map string_bytes c.args._words.now) read (name_of (asked q)) (Qbf c.answer_formula_file.result)) (sym c.in-Qbf.is)
    (h, c.answer_formula_file.ensures.outcome)

pub model_file-requires-clause-name : goal.model_file-requires-clause-name
model_file-requires-clause-name g c =
    let h = subst (λ (q : Request). IsAsked (map string_bytes c.args._words.now) (asked q)) c.in-Fmodel.is c.requires in
    c.asked_once.ensures.named _ _ h

pub model_file-requires-clause-some : goal.model_file-requires-clause-some
model_file-requires-clause-some g c =
    let h = subst (λ (q : Request). IsAsked (map string_bytes c.args._words.now) (asked q)) c.in-Fmodel.is c.requires in
    (c.asked_once.ensures.within _ _ h).0

pub model_file-requires-clause-few : goal.model_file-requires-clause-few
model_file-requires-clause-few g c =
    let h = subst (λ (q : Request). IsAsked (map string_bytes c.args._words.now) (asked q)) c.in-Fmodel.is c.requires in
    (c.asked_once.ensures.within _ _ h).1

pub returns-in-Fmodel-clause-answer : goal.returns-in-Fmodel-clause-answer
returns-in-Fmodel-clause-answer g c =
    let h = subst (λ (q : Request). IsAsked (map string_bytes c.args._words.now) (asked q)) c.in-Fmodel.is c.requires in
    let read = reading (g.L.Library.told c.args.files.now) (g.L.Library.told c.model_file.new.files) in
    subst (λ (q : Request). IsAnswer (map string_bytes c.args._words.now) read (name_of (asked q)) (Fmodel c.model_file.result)) (sym c.in-Fmodel.is)
    (modelled _ read _ _ _ c.model_file.result h c.model_file.ensures.ok c.model_file.ensures.err)

pub core_file-requires : goal.core_file-requires
core_file-requires g c =
    let h = subst (λ (q : Request). IsAsked (map string_bytes c.args._words.now) (asked q)) c.in-Core.is c.requires in
    record { name = c.asked_once.ensures.named _ _ h }

pub returns-in-Core-clause-answer : goal.returns-in-Core-clause-answer
returns-in-Core-clause-answer g c =
    let h = subst (λ (q : Request). IsAsked (map string_bytes c.args._words.now) (asked q)) c.in-Core.is c.requires in
    let read = reading (g.L.Library.told c.args.files.now) (g.L.Library.told c.core_file.new.files) in
    subst (λ (q : Request). IsAnswer (map string_bytes c.args._words.now) read (name_of (asked q)) (Core c.core_file.result)) (sym c.in-Core.is)
    (has_core _ read _ _ c.core_file.result h c.core_file.ensures.ok c.core_file.ensures.err)
