-- A text names at most one other format, and where it does it is no certificate's.
use Rattle.std.proofs.Common.{◌≡◌, ℕ, true, List, [], ◌∷◌, ◌++◌, Some, refl, sym, ap, ◌∙◌}
use Rattle.std.specs.Prelude.{codes, decimal}
use Rattle.std.specs.Char.{is_ascii_digit}
use Rattle.std.specs.List.{list_all}
use Rattle.cert_format.specs.Certificate.{Certificate}
use Rattle.cert_format.specs.Formats.{text_of_lines}
use Rattle.cert_format.specs.LineMachine.{status, opening, version, closing}
use Rattle.cert_format.specs.LineTexts.{line, line_text}
use Rattle.cert_format.specs.Printable.{IsPrintable}
use Rattle.cert_format.specs.Text.{certificate_text}
use Rattle.cert_format.specs.ValueLines.{IsCertificateText, constant_lines, is_refutation, item_lines, items_of, lines_of}
use Rattle.cert_format.proofs.Digits.{decimal_digits}
use Rattle.cert_format.proofs.LineNotes.{behind_front, line_more}
use Rattle.cert_format.proofs.Runs.{one_split}
use Rattle.cert_format.proofs.ValueRuns.{name_yes}
use Rattle.cert_format.proofs.Formats.{small_format}
use Rattle.cert_format.proofs.Writables.{format_is_known}
use Rattle.cert_reader.specs.Reads.{format_line, IsVersion}
use Rattle.cert_reader.proofs.FirstLines.{two_front, version_third}
use Rattle.cert_format.proofs.LineTexts.{text_is}

-- digits in front of a line feed
one_word : (v w r s : List ℕ) → list_all is_ascii_digit v ≡ true → list_all is_ascii_digit w ≡ true → format_line v r ≡ format_line w s → v ≡ w
one_word v w r s a b e = (one_split is_ascii_digit v w (10 ∷ r) (10 ∷ s) a b refl refl (behind_front (codes "% instgen certificate ") (v ++ 10 ∷ r) (w ++ 10 ∷ s) e)).0

some_is : (a b : List ℕ) → Some a ≡ Some b → a ≡ b
some_is a b e = cc

pub one_version : (text v w : List ℕ) → IsVersion text v → IsVersion text w → v ≡ w
one_version text v w a b =
    let front = some_is a.begun.front b.begun.front (sym a.begun.here ∙ b.begun.here) in
    let same = sym a.third ∙ b.third ∙ ap (λ (xs : List ℕ). xs ++ format_line w b.rest) (sym front) in
    one_word v w a.rest b.rest a.format.digits b.format.digits (behind_front a.begun.front (format_line v a.rest) (format_line w b.rest) same)

-- the text of a certificate by its first lines
abbrev behind : List ℕ → Certificate → List ℕ
behind n c = text_of_lines (constant_lines c ++ (item_lines [] (items_of c) ++ closing (is_refutation c) n ∷ []))

first_three : (f : ℕ) (n : List ℕ) (c : Certificate) → text_of_lines (lines_of f n c) ≡ two_front (is_refutation c) n (format_line (decimal f) (behind n c))
first_three f n c =
    let r = is_refutation c in
    let third = line_more (version f) [] (behind n c) in
    let second = line_more (opening r n) [] (line_text (version f) ++ behind n c) ∙ ap (line (opening r n)) third in
    line_more (status r n) [] (line_text (opening r n) ++ (line_text (version f) ++ behind n c)) ∙ ap (line (status r n)) second

-- that the text of a certificate is that of its lines
abbrev pub HasLines : Type 0
HasLines = (f : ℕ) (n : List ℕ) (c : Certificate) → IsPrintable f c → certificate_text f n c ≡ text_of_lines (lines_of f n c)

pub has_lines : HasLines
has_lines f n c p = text_is f n c

pub no_certificate : HasLines → (text w : List ℕ) → IsVersion text w → IsCertificateText text → ⊥
no_certificate lines text w v c =
    let first = c.is ∙ lines c.format c.name c.value c.printable ∙ first_three c.format c.name c.value in
    let third = version_third text (is_refutation c.value) c.name (format_line (decimal c.format) (behind c.name c.value)) (name_yes c.name c.name_is) first w v in
    let known = format_is_known c.format c.value c.printable.known in
    v.format.other c.format known (sym (one_word (decimal c.format) w (behind c.name c.value) v.rest (decimal_digits c.format (small_format c.format known)) v.format.digits third))
