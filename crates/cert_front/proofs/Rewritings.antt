-- The texts of certificates in the format in which certificates are written, and what is found of them.
use Rattle.std.proofs.Common.{◌≡◌, ◌⊎◌, ◌∙◌, ℕ, false, nat_eq, List, Option, None, Some, Result, Ok, Err, IfOk, IfErr, IfSome, inl, inr, refl, sym, ap, subst}
use Rattle.outside_io.specs.declared.library.NamedFile.{NamedFile}
use Rattle.inst_logic.specs.declared.clause.Problem.{Problem}
use Rattle.cert_format.specs.Certificate as format
use Rattle.cert_format.specs.Certificate.{Certificate, first_refutation, refutation, saturation, covered}
use Rattle.cert_format.specs.Formats.{written_format}
use Rattle.cert_format.specs.Printable.{CoveredFits, HasFormat, IsPrintable, LinesFit}
use Rattle.cert_format.specs.Text.{written_text}
use Rattle.cert_format.specs.Upgrades.{IsUpgrade}
use Rattle.cert_format.specs.Validity.{IsNamed, IsValid, IsValidRefutation, IsValidSaturation}
use Rattle.cert_reader.specs.Reads.{IsTextOf}
use Rattle.cert_front.specs.Certificates.{IsCertificateOf, IsTextIn}
use Rattle.cert_front.specs.Checks.{IsCheckFault, IsJudged, form_of}
use Rattle.cert_front.specs.Judgements.{IsChecked, IsJudgement}
use Rattle.cert_front.specs.Rewritings.{IsExactRewriting, IsNewText, IsRewriting, IsRewrittenAs, IsRewritten, found_by}
use Rattle.cert_front.specs.declared.check.CheckFault.{CheckFault}
use Rattle.cert_front.specs.declared.judgement.Judgement.{Judgement}
use Rattle.cert_front.specs.declared.judgement.Judgement.TheVariants.{Valid}
use Rattle.cert_front.specs.declared.rewriting.Rewriting.{Rewriting}
use Rattle.cert_front.specs.declared.rewriting.Rewriting.TheVariants.{Text, Refused}
use Rattle.cert_front.specs.declared.words.Form.{Form}
use Rattle.cert_front.specs.declared.words.Form.TheVariants as form
use Rattle.cert_front.proofs.Checks.{ChecksAreOne, exact}

-- ---- texts

-- that names can be printed where the certificate without names can
pub record NamesArePrintable : Type 0 where
  pub covers : (f : ℕ) (c : format.Covered) → IsNamed c → IsPrintable f (saturation c.saturation) → CoveredFits c → IsPrintable 3 (covered c)
  pub lines : (c : format.FirstRefutation) (r : format.Refutation) → IsValidRefutation c → IsUpgrade c r → IsPrintable 1 (first_refutation c) → LinesFit r
      → (f : ℕ) → (f ≡ 2) ⊎ (f ≡ 3) → IsPrintable f (refutation r)

pub upgraded_text : NamesArePrintable → (name text : List ℕ) (c : format.FirstRefutation) (r : format.Refutation) (f : ℕ) → IsValidRefutation c → IsPrintable f (first_refutation c) → IsUpgrade c r → LinesFit r
    → text ≡ written_text name (refutation r) → IsNewText name (first_refutation c) text
upgraded_text laws name text c r f valid can_print upgrade fits is =
    let first : IsPrintable 1 (first_refutation c) = subst (λ (n : ℕ). IsPrintable n (first_refutation c)) can_print.known.0 can_print in
    record { value = refutation r; rewrites = (r, upgrade, refl); printable = laws.lines c r valid upgrade first fits 3 (inr refl); is = is }

pub own_text : (name text : List ℕ) (r : format.Refutation) (f : ℕ) → IsPrintable f (refutation r) → text ≡ written_text name (refutation r) → IsNewText name (refutation r) text
own_text name text r f can_print is = record { value = refutation r; rewrites = refl; printable = record { known = inr refl; parts = can_print.parts; numbers = can_print.numbers }; is = is }

pub named_text : (name text : List ℕ) (c : format.Covered) (f : ℕ) → IsPrintable f (covered c) → text ≡ written_text name (covered c) → IsNewText name (covered c) text
named_text name text c f can_print is = record { value = covered c; rewrites = refl; printable = record { known = refl; parts = can_print.parts; numbers = can_print.numbers }; is = is }

pub covered_text : NamesArePrintable → (name text : List ℕ) (c : format.Covered) (f : ℕ) → IsNamed c → IsPrintable f (saturation c.saturation) → CoveredFits c → text ≡ written_text name (covered c)
    → IsNewText name (saturation c.saturation) text
covered_text laws name text c f named can_print fits is = record { value = covered c; rewrites = (c, refl, named, refl); printable = laws.covers f c named can_print fits; is = is }

-- ---- what is rewritten

pub checked_printable : {C : Type 0} (value : C → Certificate) (p : Option Problem) (c : Certificate) (checked : C) → IsChecked value p c (Ok checked) → (f : ℕ) × IsPrintable f c → (f : ℕ) × IsPrintable f (value checked)
checked_printable value p c checked h can_print = subst (λ (d : Certificate). (f : ℕ) × IsPrintable f d) (sym h.1) can_print

pub checked_valid : {C : Type 0} (value : C → Certificate) (p : Option Problem) (c : Certificate) (checked : C) → IsChecked value p c (Ok checked) → IsValid (value checked)
checked_valid value p c checked h = subst IsValid (sym h.1) h.0.1

pub rewritten : {C : Type 0} (value : C → Certificate) (p : Option Problem) (name : List ℕ) (c : Certificate) (checked : C) (text : List ℕ) → IsChecked value p c (Ok checked) → IsNewText name (value checked) text
    → IsRewriting p name c (Text text)
rewritten value p name c checked text h new = (h.0, subst (λ (d : Certificate). IsNewText name d text) h.1 new)

pub refused : {C : Type 0} (value : C → Certificate) (p : Option Problem) (name : List ℕ) (c : Certificate) (f : Form) (j : Judgement) → f ≡ form_of c → IsChecked value p c (Err j) → IsRewriting p name c (Refused f j)
refused value p name c f j same h = (same, h.0, h.1)

-- what is handed back of a saturation by its covers
pub uncovered_checked : ((c : format.Covered) → IsNamed c → IsValidSaturation c.saturation) → (c d : format.Covered) (s : format.Saturation) → d ≡ c → c.saturation ≡ s → IsNamed c
    → IsJudgement None (saturation s) Valid × (saturation d.saturation ≡ saturation s)
uncovered_checked law c d s same is named =
    ((tt, subst IsValidSaturation is (law c named)), ap (λ (x : format.Covered). saturation x.saturation) same ∙ ap saturation is)

-- ---- files

pub certificate_in : (files : Option (List NamedFile)) (file : List ℕ) (f : ℕ) (name : List ℕ) (c : Certificate) → IsTextIn files file f name c → IsCertificateOf files file c
certificate_in files file f name c h = record { bytes = h.bytes; held = h.held; text = (f, name, h.text) }

pub of_file : (files : Option (List NamedFile)) (file : List ℕ) (problem root : Option (List ℕ)) (f : ℕ) (name : List ℕ) (c : Certificate) (rewriting : Rewriting) → IsTextIn files file f name c
    → IsRewrittenAs files problem root name c rewriting → IsRewritten files file problem root rewriting
unfolding certificate_in
of_file files file problem root f name c rewriting h so = record { certificate = c; held = certificate_in files file f name c h; rewritten = so }

-- what a check finds where the certificate is so rewritten
pub judged : (files : Option (List NamedFile)) (file : List ℕ) (problem root : Option (List ℕ)) (rewriting : Rewriting) → (h : IsRewritten files file problem root rewriting)
    → IfOk (found_by (form_of h.certificate) (Ok rewriting)) (IsJudged files file problem root)
judged files file problem root (Text text) h = record { certificate = h.certificate; held = h.held; judged = record { form = refl; against = h.rewritten.against; loads = h.rewritten.loads; judgement = h.rewritten.so.0 } }
judged files file problem root (Refused own j) h = record {
  certificate = h.certificate;
  held = h.held;
  judged = record { form = h.rewritten.so.0; against = h.rewritten.against; loads = h.rewritten.loads; judgement = h.rewritten.so.2 };
}

form_for : (files : Option (List NamedFile)) (file : List ℕ) (problem root : Option (List ℕ)) (answer : Result Rewriting CheckFault) → IfOk answer (IsRewritten files file problem root)
    → (f : Form) × IfOk (found_by f answer) (IsJudged files file problem root)
form_for files file problem root (Ok rewriting) h = (form_of h.certificate, judged files file problem root rewriting h)
form_for files file problem root (Err why) h = (form.Refutation, tt)

same_fault : (files : Option (List NamedFile)) (before now : ℕ) (file : List ℕ) (problem root : Option (List ℕ)) (f : Form) (answer : Result Rewriting CheckFault)
    → IfErr answer (IsCheckFault files before now file problem root) → IfErr (found_by f answer) (IsCheckFault files before now file problem root)
same_fault files before now file problem root f (Ok (Text text)) h = tt
same_fault files before now file problem root f (Ok (Refused own j)) h = tt
same_fault files before now file problem root f (Err why) h = h

pub exact_rewriting : ChecksAreOne → (files : Option (List NamedFile)) (before now : ℕ) (file : List ℕ) (problem root : Option (List ℕ)) (answer : Result Rewriting CheckFault)
    → IfOk answer (IsRewritten files file problem root) → IfErr answer (IsCheckFault files before now file problem root)
    → IfSome files (λ told. IsExactRewriting told before now file problem root answer)
exact_rewriting once None before now file problem root answer h r = tt
exact_rewriting once (Some files) before now file problem root answer h r =
    let found = form_for (Some files) file problem root answer h in
    record { form = found.0; checked = exact once (Some files) before now file problem root (found_by found.0 answer) found.1 (same_fault (Some files) before now file problem root found.0 answer r) }

-- ---- the newest format

other_number : (n : ℕ) → nat_eq 3 n ≡ false → written_format ≡ n → ⊥
other_number n apart e = let same : nat_eq 3 3 ≡ false = subst (λ (m : ℕ). nat_eq 3 m ≡ false) (sym e) apart in absurd cc

pub stays : (text name : List ℕ) (c : Certificate) (new : List ℕ) → IsTextOf text written_format name c → IsNewText name c new → new ≡ text
stays text name (first_refutation c) new h k = absurd (other_number 1 refl h.printable.known.0)
stays text name (refutation c) new h k = k.is ∙ ap (written_text name) k.rewrites ∙ sym h.is
stays text name (saturation c) new h k = absurd (not_newest h.printable.known)
  where
    not_newest : HasFormat written_format (saturation c) → ⊥
    not_newest (inl first) = other_number 1 refl first.0
    not_newest (inr second) = other_number 2 refl second
stays text name (covered c) new h k = k.is ∙ ap (written_text name) k.rewrites ∙ sym h.is
