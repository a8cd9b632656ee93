-- What files that are told say of a saturation and an atom is one thing, and each answer to a question is that or yields.
use Rattle.std.proofs.Common.{◌≡◌, ℕ, ◌^◌, ◌<◌, ◌≤◌, true, false, List, Option, Some, None, Result, Ok, Err, IfSome, IfOk, IfErr, length, ◌⊎◌, inl, inr, refl, sym, ap, subst, ◌∙◌, arith}
use Rattle.std.specs.Prelude.{OnOk}
use Rattle.outside_io.specs.declared.library.NamedFile.{NamedFile}
use Rattle.inst_logic.specs.Tree.{Tree}
use Rattle.outside_io.specs.WholeFiles.{IsHeld}
use Rattle.cert_format.specs.Certificate.{Certificate}
use Rattle.cert_format.specs.Text.{certificate_text}
use Rattle.cert_format.specs.ValueLines.{is_refutation}
use Rattle.cert_values.specs.Wholes.{AreLight}
use Rattle.cert_front.specs.Kinds.{selected_of}
use Rattle.cert_front.specs.Replies.{IsReply}
use Rattle.cert_front.specs.declared.reply.Reply.{Reply}
use Rattle.cert_front.specs.Certificates.{IsBarred, IsCertificateOf, limit}
use Rattle.cert_front.specs.Queries.{HasRefutation, IsAskFault, IsExactReply, IsFoundReply, IsNoSaturation, IsReplied, IsUnasked, YieldsReply}
use Rattle.cert_front.specs.declared.fault.CertFault.{CertFault}
use Rattle.cert_front.specs.declared.fault.CertFault.TheVariants.{Absent, TooLong, ReadFault, Syntax, Version, NoSaturation, Memory}
use Rattle.cert_front.proofs.Certificates.{TextsAreOne, not_barred, one_bar, one_certificate}

-- ---- the certificate of a file

pub replied_of : (files : Option (List NamedFile)) (name : List ℕ) (a : Tree) (c : Certificate) → IsCertificateOf files name c → (r : Result Reply CertFault) → OnOk r (is_refutation c ≡ false) → IfOk r (IsReply c a)
    → IfOk r (IsReplied files name a)
replied_of files name a c held (Ok reply) plain is = record { certificate = c; no_refutation = plain; held = held; replied = is }
replied_of files name a c held (Err fault) plain is = tt

pub unasked : (files : Option (List NamedFile)) (before now : ℕ) (name : List ℕ) (c : Certificate) → IsCertificateOf files name c → (f : CertFault) → IsUnasked c f → IsAskFault files before now name f
unasked files before now name c held Absent h = absurd h
unasked files before now name c held TooLong h = absurd h
unasked files before now name c held ReadFault h = absurd h
unasked files before now name c held (Syntax line) h = absurd h
unasked files before now name c held (Version word) h = absurd h
unasked files before now name c held NoSaturation h = (c, h, held)
unasked files before now name c held Memory h = tt

-- ---- one thing

-- that a saturation says one thing of an atom
abbrev pub RepliesAreOne : Type 0
RepliesAreOne = (c : Certificate) (t : Tree) (i j : Reply) → IsReply c t i → IsReply c t j → i ≡ j

other_form : (c d : Certificate) → is_refutation c ≡ false → is_refutation d ≡ true → c ≡ d → ⊥
other_form c d h k e = let same = ap is_refutation e in cc

-- there is a refutation, or the file is barred
either : (files : Option (List NamedFile)) (name : List ℕ) (f : CertFault) → IsNoSaturation files name f → ((f ≡ NoSaturation) × HasRefutation files name) ⊎ IsBarred files name f
either files name Absent h = inr h
either files name TooLong h = inr h
either files name ReadFault h = absurd h
either files name (Syntax line) h = inr h
either files name (Version word) h = inr h
either files name NoSaturation h = inl (refl, h)
either files name Memory h = absurd h

module _ (texts : TextsAreOne) (replies : RepliesAreOne) (files : List NamedFile) (name : List ℕ) where
  not_dumb : (c : Certificate) (f : CertFault) → is_refutation c ≡ false → IsCertificateOf (Some files) name c → IsNoSaturation (Some files) name f → ⊥
  not_dumb c f plain h k = elim (either (Some files) name f k) [
    | inl r ↦ other_form c r.1.0 plain r.1.1 (one_certificate texts files name c r.1.0 h r.1.2)
    | inr b ↦ not_barred texts files name c f h b
  ]

  one_cause : (e f : CertFault) → IsNoSaturation (Some files) name e → IsNoSaturation (Some files) name f → e ≡ f
  one_cause e f h k = elim (either (Some files) name e h) [
    | inl r ↦ elim (either (Some files) name f k) [
      | inl s ↦ r.0 ∙ sym s.0
      | inr b ↦ absurd (not_barred texts files name r.1.0 f r.1.2 b)
    ]
    | inr a ↦ elim (either (Some files) name f k) [
      | inl s ↦ absurd (not_barred texts files name s.1.0 e s.1.2 a)
      | inr b ↦ one_bar texts files name e f a b
    ]
  ]

  pub one_answer : (t : Tree) (a b : Result Reply CertFault) → IsFoundReply files name t a → IsFoundReply files name t b → a ≡ b
  one_answer t (Ok a) (Ok b) h k =
      let same = one_certificate texts files name k.certificate h.certificate k.held h.held in
      ap Ok (replies h.certificate t a b h.replied (subst (λ (c : Certificate). IsReply c t b) same k.replied))
  one_answer t (Ok a) (Err f) h k = absurd (not_dumb h.certificate f h.no_refutation h.held k)
  one_answer t (Err e) (Ok b) h k = absurd (not_dumb k.certificate e k.no_refutation k.held h)
  one_answer t (Err e) (Err f) h k = ap Err (one_cause e f h k)

-- ---- short texts

held_short : (files : Option (List NamedFile)) (name bytes : List ℕ) → IsHeld limit files name bytes → length bytes ≤ limit
held_short None name bytes h = h
held_short (Some told) name bytes h = h.0

-- that the selected literals of a saturation with a short text are light
abbrev pub ShortIsLight : Type 0
ShortIsLight = (format : ℕ) (name : List ℕ) (c : Certificate) → length (certificate_text format name c) < 2 ^ 63 → AreLight (selected_of c)

pub light_of : ShortIsLight → (files : Option (List NamedFile)) (name : List ℕ) (c : Certificate) → IsCertificateOf files name c → AreLight (selected_of c)
light_of light files name c h =
    let few : length h.bytes ≤ limit = held_short files name h.bytes h.held in
    light h.text.0 h.text.1 c (subst (λ (b : List ℕ). length b < 2 ^ 63) h.text.2.is (omega (arith, few)))

-- ---- each answer

module _ (files : List NamedFile) (before now : ℕ) (name : List ℕ) (t : Tree) where
  abbrev IsDue : Result Reply CertFault → Type 0
  IsDue a = IsFoundReply files name t a ⊎ YieldsReply before now a

  due : (a : Result Reply CertFault) → IfOk a (IsReplied (Some files) name t) → IfErr a (IsAskFault (Some files) before now name) → IsDue a
  due (Ok reply) j r = inl j
  due (Err Absent) j r = inl r
  due (Err TooLong) j r = inl r
  due (Err ReadFault) j r = inr (inl (refl, r))
  due (Err (Syntax line)) j r = inl r
  due (Err (Version word)) j r = inl r
  due (Err NoSaturation) j r = inl r
  due (Err Memory) j r = inr (inr refl)

-- that the files say one thing
abbrev pub AnswersAreOne : Type 0
AnswersAreOne = (files : List NamedFile) (name : List ℕ) (t : Tree) (a b : Result Reply CertFault) → IsFoundReply files name t a → IsFoundReply files name t b → a ≡ b

pub exact : AnswersAreOne → (files : Option (List NamedFile)) (before now : ℕ) (name : List ℕ) (t : Tree) (a : Result Reply CertFault)
    → IfOk a (IsReplied files name t) → IfErr a (IsAskFault files before now name) → IfSome files (λ told. IsExactReply told before now name t a)
exact once None before now name t a j r = tt
exact once (Some files) before now name t a j r =
    let cause = due files before now name t a j r in
    record {
      cause = cause;
      each = λ b h. elim cause [ inl found ↦ inl (once files name t a b found h) | inr yields ↦ inr yields ];
    }
