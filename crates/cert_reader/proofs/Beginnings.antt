-- The first lines of a text.
use Rattle.std.proofs.Common.{◌≡◌, ◌≢◌, ℕ, Bool, true, List, [], ◌∷◌, ◌++◌, refl, sym, ap, ◌∙◌, subst, arith}
use Rattle.std.specs.Prelude.{codes, decimal}
use Rattle.std.specs.List.{list_all}
use Rattle.std.specs.Char.{is_ascii_digit}
use Rattle.std.proofs.lemmas.Option.{same_Some}
use Rattle.inst_logic.specs.Printing.{is_readable_name, name_text}
use Rattle.cert_format.specs.Fronts.{first_lines}
use Rattle.cert_format.specs.LineMachine.{status, opening, version, constant, nothing, begun, opened, awaits}
use Rattle.cert_format.specs.LineTexts.{line, is_text_name}
use Rattle.cert_format.specs.Formats.{is_known, text_of_lines}
use Rattle.cert_format.specs.ValueLines.{IsCertificateText}
use Rattle.cert_format.proofs.Digits.{decimal_digits}
use Rattle.cert_format.proofs.Formats.{small_format}
use Rattle.cert_format.proofs.LineNotes.{behind_front}
use Rattle.cert_format.proofs.Runs.{one_split}
use Rattle.cert_items.specs.declared.shape.TextShape.{TextShape}
use Rattle.cert_reader.specs.Bodies.{header, refutation_in, saturation_in, HasRead, IsRefusedAt}
use Rattle.cert_reader.specs.Reads.{format_line, IsOtherFormat, IsVersion, HasVersion, IsSyntaxAt}
use Rattle.cert_reader.specs.Starts.{NoFormat, HasBegun}
use Rattle.cert_reader.proofs.FirstLines.{two_front, two_lines, two_more, version_third, fewer_front}
use Rattle.cert_reader.proofs.Steps.{no_status, no_opening, no_version, no_constant, one_line, two_leads, saturation_leads, refutation_leads, constant_leads, in_front, refused}

-- ---- the first and the second line

pub bad_first : (text : List ℕ) → ((r : Bool) (n y : List ℕ) → is_text_name n ≡ true → text ≢ line (status r n) y) → IsSyntaxAt text 1
bad_first text bad =
    let q = refused [] nothing text text refl refl (no_status text bad) (λ e. (let k = e.0 in cc)) in
    record { first = q.first; no_text = q.no_text; no_version = λ v. q.first.bad (fewer_front IsCertificateText text v.1.begun) }

pub bad_second : (r : Bool) (n text x : List ℕ) → is_text_name n ≡ true → text ≡ line (status r n) x → ((y : List ℕ) → x ≢ line (opening r n) y) → IsSyntaxAt text 2
bad_second r n text x h is bad =
    let q = refused (status r n ∷ []) (begun r n) text x (one_line r n h) (is ∙ in_front (status r n) [] x) (no_opening r n x bad) (λ e. (let k = e.0 in cc)) in
    record { first = q.first; no_text = q.no_text; no_version = λ v. q.first.bad v.1.begun }

-- ---- the third line

one_word : (w v x y : List ℕ) → list_all is_ascii_digit w ≡ true → list_all is_ascii_digit v ≡ true → format_line w x ≡ format_line v y → (w ≡ v) × (x ≡ y)
one_word w v x y h k e =
    let s = one_split is_ascii_digit w v (10 ∷ x) (10 ∷ y) h k refl refl (behind_front (codes "% instgen certificate ") (w ++ 10 ∷ x) (v ++ 10 ∷ y) e) in
    (s.0, behind_front (10 ∷ []) x y s.1)

text_two : (r : Bool) (n text x : List ℕ) → text ≡ two_front r n x → text ≡ text_of_lines (status r n ∷ opening r n ∷ []) ++ x
text_two r n text x is = is ∙ ap (line (status r n)) (in_front (opening r n) [] x) ∙ in_front (status r n) (opening r n ∷ []) x

refused_third : (r : Bool) (n text x : List ℕ) → is_text_name n ≡ true → text ≡ two_front r n x → ((f : ℕ) (y : List ℕ) → is_known f ≡ true → x ≢ format_line (decimal f) y) → IsRefusedAt text 3
refused_third r n text x h is bad = refused (status r n ∷ opening r n ∷ []) (opened r n) text x (two_leads r n h) (text_two r n text x is) (no_version r n x bad) (λ e. (let k = e.0 in cc))

bad_third : (r : Bool) (n text x : List ℕ) → is_text_name n ≡ true → text ≡ two_front r n x → ((f : ℕ) (y : List ℕ) → is_known f ≡ true → x ≢ format_line (decimal f) y) → ((w y : List ℕ) → IsOtherFormat w → x ≢ format_line w y) → IsSyntaxAt text 3
bad_third r n text x h is bad others =
    let q = refused_third r n text x h is bad in
    record { first = q.first; no_text = q.no_text; no_version = λ v. others v.0 v.1.rest v.1.format (version_third text r n x h is v.0 v.1) }

-- the digits of a known format
known_digits : (f : ℕ) → is_known f ≡ true → list_all is_ascii_digit (decimal f) ≡ true
known_digits f k = decimal_digits f (small_format f k)

-- no digits stand there
pub no_format : (r : Bool) (n text x : List ℕ) → is_text_name n ≡ true → text ≡ two_front r n x → NoFormat x → IsSyntaxAt text 3
no_format r n text x h is bad = bad_third r n text x h is (λ f y k e. bad (decimal f) y (known_digits f k) e) (λ w y o e. bad w y o.digits e)

-- digits that are no format's
pub wrong_format : (r : Bool) (n text x digits rest : List ℕ) → is_text_name n ≡ true → text ≡ two_front r n x → list_all is_ascii_digit digits ≡ true → x ≡ format_line digits rest → ((f : ℕ) → is_known f ≡ true → digits ≢ decimal f) → ¬ IsOtherFormat digits → IsSyntaxAt text 3
wrong_format r n text x digits rest h is d at unknown other =
    bad_third r n text x h is (λ f y k e. unknown f k (one_word digits (decimal f) rest y d (known_digits f k) (sym at ∙ e)).0)
    (λ w y o e. other (subst IsOtherFormat (sym (one_word digits w rest y d o.digits (sym at ∙ e)).0) o))

-- digits of another format
pub other_format : (r : Bool) (n text x digits rest : List ℕ) → is_text_name n ≡ true → text ≡ two_front r n x → x ≡ format_line digits rest → IsOtherFormat digits → IsVersion text digits
other_format r n text x digits rest h is at o =
    let q = refused_third r n text x h is (λ f y k e. o.other f k (one_word digits (decimal f) rest y o.digits (known_digits f k) (sym at ∙ e)).0) in
    let f = q.first.least 2 (omega arith) in
    let same = same_Some f.front (two_front r n []) (sym f.here ∙ ap (first_lines 2) is ∙ two_lines r n x h) in
    record {
      begun = f;
      format = o;
      rest = rest;
      third = is ∙ ap (two_front r n) at ∙ sym (two_more r n (format_line digits rest)) ∙ ap (λ (xs : List ℕ). xs ++ format_line digits rest) (sym same);
    }

-- the digits of a format that is read
pub known_begun : (s : TextShape) (n text x digits rest : List ℕ) → is_text_name n ≡ true → is_known s.format ≡ true → text ≡ two_front s.refutation n x → x ≡ format_line digits rest → digits ≡ decimal s.format → HasBegun text s n rest
known_begun s n text x digits rest h k is at same = record { is = is ∙ ap (two_front s.refutation n) (at ∙ ap (λ (w : List ℕ). format_line w rest) same); name_is = h; known = k }

-- of a text of the shape, where its form is known
pub with_form : (text : List ℕ) (s : TextShape) (r : Bool) (n x : List ℕ) → s.refutation ≡ r → HasBegun text s n x → HasBegun text (record { refutation = r; format = s.format }) n x
with_form text s r n x e b = subst (λ (q : Bool). HasBegun text (record { refutation = q; format = s.format }) n x) e b

pub no_other_format : (text : List ℕ) (s : TextShape) (n x : List ℕ) → HasBegun text s n x → ¬ HasVersion text
no_other_format text s n x b v =
    let e = version_third text s.refutation n (line (version s.format) x) b.name_is b.is v.0 v.1 in
    v.1.format.other s.format b.known (sym (one_word (decimal s.format) v.0 x v.1.rest (known_digits s.format b.known) v.1.format.digits e).0)

-- ---- up to the items

text_three : (text : List ℕ) (s : TextShape) (n x : List ℕ) → HasBegun text s n x → text ≡ text_of_lines (status s.refutation n ∷ opening s.refutation n ∷ version s.format ∷ []) ++ x
text_three text s n x b =
    let r = s.refutation in
    b.is ∙ ap (two_front r n) (in_front (version s.format) [] x) ∙ ap (line (status r n)) (in_front (opening r n) (version s.format ∷ []) x) ∙ in_front (status r n) (opening r n ∷ version s.format ∷ []) x

pub saturation_begun : (text : List ℕ) (f : ℕ) (n x : List ℕ) → HasBegun text (saturation_in f) n x → HasRead text (header (saturation_in f) n []) [] 3 x
saturation_begun text f n x b = record { leads = saturation_leads f n b.known b.name_is; text_is = text_three text (saturation_in f) n x b; counted = refl; good = refl; few = λ k. omega arith }

text_four : (text : List ℕ) (f : ℕ) (n c x rest : List ℕ) → HasBegun text (refutation_in f) n x → x ≡ line (constant c) rest → text ≡ text_of_lines (status true n ∷ opening true n ∷ version f ∷ constant c ∷ []) ++ rest
text_four text f n c x rest b at =
    b.is ∙ ap (λ (xs : List ℕ). two_front true n (line (version f) xs)) (at ∙ in_front (constant c) [] rest) ∙ ap (two_front true n) (in_front (version f) (constant c ∷ []) rest)
    ∙ ap (line (status true n)) (in_front (opening true n) (version f ∷ constant c ∷ []) rest) ∙ in_front (status true n) (opening true n ∷ version f ∷ constant c ∷ []) rest

pub refutation_begun : (text : List ℕ) (f : ℕ) (n c t x rest : List ℕ) → HasBegun text (refutation_in f) n x → x ≡ codes "% ground constant " ++ (t ++ 10 ∷ rest) → t ≡ name_text c → is_readable_name c ≡ true → HasRead text (header (refutation_in f) n c) [] 4 rest
refutation_begun text f n c t x rest b at spelled readable = record {
  leads = constant_leads f n c b.known b.name_is readable;
  text_is = text_four text f n c x rest b (at ∙ ap (λ (xs : List ℕ). codes "% ground constant " ++ (xs ++ 10 ∷ rest)) spelled);
  counted = refl;
  good = refl;
  few = λ k. omega arith;
}

pub bad_constant : (text : List ℕ) (f : ℕ) (n x : List ℕ) → HasBegun text (refutation_in f) n x → ((c y : List ℕ) → is_readable_name c ≡ true → x ≢ line (constant c) y) → IsSyntaxAt text 4
bad_constant text f n x b bad =
    let q = refused (status true n ∷ opening true n ∷ version f ∷ []) (awaits f n) text x (refutation_leads f n b.known b.name_is) (text_three text (refutation_in f) n x b) (no_constant f n x bad) (λ e. (let k = e.0 in cc)) in
    record { first = q.first; no_text = q.no_text; no_version = no_other_format text (refutation_in f) n x b }
