-- No text that begins otherwise has that of a certificate in front.
use Rattle.std.proofs.Common.{◌≡◌, ◌≢◌, ◌≤◌, ℕ, List, [], ◌∷◌, ◌++◌, All, Bool, true, false, cond, nat_eq, Option, Some, None, sym, ap, refl, ◌∙◌, append_assoc, arith}
use Rattle.std.specs.Prelude.{◌&&◌, ◌||◌}
use Rattle.std.specs.Io.KnownBytes.{Appends}
use Rattle.std.proofs.lemmas.Bool.Decides.{nat_tests}
use Rattle.std.proofs.lemmas.List.Elements.{All-head, All-tail}
use Rattle.cert_format.specs.Certificate.{Certificate, first_refutation, refutation, saturation, covered}
use Rattle.cert_format.specs.Text.{certificate_text}
use Rattle.cert_format.specs.ValueLines.{IsCertificateText}
use Rattle.cert_format.proofs.LineNotes.{behind_front}
use Rattle.cert_format.specs.LineMachine.{closing, opening, status, version}
use Rattle.cert_format.specs.Formats.{text_of_lines}
use Rattle.cert_format.specs.LineTexts.{line_text}
use Rattle.cert_format.specs.Printable.{IsTextName}
use Rattle.cert_format.specs.ValueLines.{constant_lines, is_refutation, item_lines, items_of}
use Rattle.cert_format.proofs.LineTexts.{text_is}
use Rattle.outside_io.specs.Notices.{notice_text}
use Rattle.outside_io.specs.declared.notices.Status.{Status}
use Rattle.outside_io.specs.declared.notices.Status.TheVariants as told

-- behind `% SZS status ` stands the first of a verdict's two words, by their first two letters
abbrev pub begins_verdict : List ℕ → Bool
begins_verdict (a ∷ b ∷ c ∷ d ∷ e ∷ f ∷ g ∷ h ∷ i ∷ j ∷ k ∷ l ∷ m ∷ x ∷ y ∷ more) = (nat_eq x 85 && nat_eq y 110) || (nat_eq x 83 && nat_eq y 97)
begins_verdict _ = false

verdict_begins : (format : ℕ) (name : List ℕ) (c : Certificate) (more : List ℕ) → begins_verdict (certificate_text format name c ++ more) ≡ true
verdict_begins format name (first_refutation c) more = refl
verdict_begins format name (refutation c) more = refl
verdict_begins format name (saturation c) more = refl
verdict_begins format name (covered c) more = refl

pub notice_begins : (s : Status) (name reason : List ℕ) → begins_verdict (notice_text s name reason) ≡ false
notice_begins told.SyntaxError name reason = refl
notice_begins told.Inappropriate name reason = refl
notice_begins told.InputError name reason = refl
notice_begins told.OsError name reason = refl
notice_begins told.UsageError name reason = refl
notice_begins told.ResourceOut name reason = refl
notice_begins told.MemoryOut name reason = refl

-- no text that does not begin as a verdict has that of a certificate in front
pub no_other : (other text more : List ℕ) → begins_verdict other ≡ false → IsCertificateText text → other ≡ text ++ more → ⊥
no_other other text more is h e =
    let yes : begins_verdict (text ++ more) ≡ true = ap (λ t. begins_verdict (t ++ more)) h.is ∙ verdict_begins h.format h.name h.value more in
    let no : begins_verdict (text ++ more) ≡ false = sym (ap begins_verdict e) ∙ is in
    cc

-- ---- lines that begin no comment

abbrev pub begins_comment : List ℕ → Bool
begins_comment (b ∷ more) = nat_eq b 37
begins_comment [] = false

certificate_begins : (format : ℕ) (name : List ℕ) (c : Certificate) (more : List ℕ) → begins_comment (certificate_text format name c ++ more) ≡ true
certificate_begins format name (first_refutation c) more = refl
certificate_begins format name (refutation c) more = refl
certificate_begins format name (saturation c) more = refl
certificate_begins format name (covered c) more = refl

pub no_line : (other text more : List ℕ) → begins_comment other ≡ false → IsCertificateText text → other ≡ text ++ more → ⊥
no_line other text more is h e =
    let yes : begins_comment (text ++ more) ≡ true = ap (λ t. begins_comment (t ++ more)) h.is ∙ certificate_begins h.format h.name h.value more in
    let no : begins_comment (text ++ more) ≡ false = sym (ap begins_comment e) ∙ is in
    cc

-- ---- comments of another kind

abbrev pub third_is_s : List ℕ → Bool
third_is_s (a ∷ b ∷ c ∷ more) = nat_eq c 83
third_is_s _ = false

certificate_third : (format : ℕ) (name : List ℕ) (c : Certificate) (more : List ℕ) → third_is_s (certificate_text format name c ++ more) ≡ true
certificate_third format name (first_refutation c) more = refl
certificate_third format name (refutation c) more = refl
certificate_third format name (saturation c) more = refl
certificate_third format name (covered c) more = refl

pub no_comment : (other text more : List ℕ) → third_is_s other ≡ false → IsCertificateText text → other ≡ text ++ more → ⊥
no_comment other text more is h e =
    let yes : third_is_s (text ++ more) ≡ true = ap (λ t. third_is_s (t ++ more)) h.is ∙ certificate_third h.format h.name h.value more in
    let no : third_is_s (text ++ more) ≡ false = sym (ap third_is_s e) ∙ is in
    cc

-- ---- lines behind the first

-- what stands behind the first line
abbrev behind_line : List ℕ → List ℕ
behind_line [] = []
behind_line (b ∷ bs) = cond (nat_eq b 10) bs (behind_line bs)

-- whether the second line begins with `% S`
abbrev pub has_start : List ℕ → Bool
has_start text = third_is_s (behind_line text)

abbrev IsPlain : ℕ → Type 0
IsPlain b = (32 ≤ b) × (b ≢ 127)

no_feed : (b : ℕ) → IsPlain b → nat_eq b 10 ≡ false
no_feed b h = let large = h.0 in grind (arith, nat_tests)

behind_name : (name rest : List ℕ) → All IsPlain name → behind_line ((name ++ 10 ∷ []) ++ rest) ≡ rest
behind_name [] rest h = refl
behind_name (b ∷ bs) rest h =
    ap (λ (t : Bool). cond t ((bs ++ 10 ∷ []) ++ rest) (behind_line ((bs ++ 10 ∷ []) ++ rest))) (no_feed b (All-head IsPlain b bs h))
    ∙ behind_name bs rest (All-tail IsPlain b bs h)

-- what stands behind the first line of a certificate
behind_status : (r : Bool) (name rest : List ℕ) → IsTextName name → behind_line (line_text (status r name) ++ rest) ≡ rest
behind_status true name rest h = behind_name name rest h.bytes
behind_status false name rest h = behind_name name rest h.bytes

front_start : (r : Bool) (name rest more : List ℕ) → IsTextName name → has_start ((line_text (status r name) ++ (line_text (opening r name) ++ rest)) ++ more) ≡ true
front_start r name rest more h =
    ap has_start (append_assoc (line_text (status r name)) (line_text (opening r name) ++ rest) more)
    ∙ ap third_is_s (behind_status r name ((line_text (opening r name) ++ rest) ++ more) h)

pub second_line : (format : ℕ) (name : List ℕ) (c : Certificate) (more : List ℕ) → IsTextName name → has_start (certificate_text format name c ++ more) ≡ true
second_line format name c more h =
    ap (λ t. has_start (t ++ more)) (text_is format name c)
    ∙ front_start (is_refutation c) name (text_of_lines (version format ∷ (constant_lines c ++ (item_lines [] (items_of c) ++ closing (is_refutation c) name ∷ [])))) more h

-- what is appended to what is told is one text
pub one_text : (o n : Option (List ℕ)) (taken u v : List ℕ) → o ≡ Some taken → Appends o n u → Appends o n v → u ≡ v
one_text None n taken u v told p q = absurd (cc)
one_text (Some xs) None taken u v told p q = absurd p
one_text (Some xs) (Some ys) taken u v told p q = behind_front xs u v (sym p ∙ q)
