-- The text of a certificate, in a format, as a list of bytes.
use Rattle.std.specs.Prelude.{ℕ, ◌+◌, List, [], ◌∷◌, ◌++◌, codes}
use Rattle.cert_format.specs.Certificate.{Base, FirstRefutation, Refutation, Saturation, Covered, Certificate, first_refutation, refutation, saturation, covered}
use Rattle.cert_format.specs.Formats.{written_format}
use Rattle.cert_format.specs.Lines.{status_line, start_line, end_line, format_line, constant_line, input_line, axiom_line, member_line, selected_line, ground_line, ground_line_by, shown_line, cover_line, step_line}

-- the lines of the items, numbered from n on
abbrev pub numbered_lines : {A : Type 0} → (ℕ → A → List ℕ) → ℕ → List A → List ℕ
numbered_lines text n [] = []
numbered_lines text n (x ∷ xs) = text n x ++ numbered_lines text (n + 1) xs

-- the same of items with what belongs to each, as far as both go
abbrev pub paired_lines : {A B : Type 0} → (ℕ → A → B → List ℕ) → ℕ → List A → List B → List ℕ
paired_lines text n [] ys = []
paired_lines text n (x ∷ xs) [] = []
paired_lines text n (x ∷ xs) (y ∷ ys) = text n x y ++ paired_lines text (n + 1) xs ys

abbrev pub input_lines : Base → List ℕ
input_lines b = paired_lines input_line 1 b.inputs b.names

abbrev pub axiom_lines : Base → List ℕ
axiom_lines b = numbered_lines axiom_line 1 b.axioms

abbrev pub ground_lines : FirstRefutation → List ℕ
ground_lines c = numbered_lines ground_line 1 c.grounds

-- the first two lines, with the status, the form and the name
abbrev pub head_lines : List ℕ → List ℕ → List ℕ → List ℕ
head_lines status form name = status_line status name ++ start_line form name

abbrev pub refutation_text : ℕ → List ℕ → FirstRefutation → List ℕ
refutation_text format name c = head_lines (codes "Unsatisfiable") (codes "CNFRefutation") name ++ format_line format ++ constant_line c.bot
    ++ input_lines c.base ++ axiom_lines c.base ++ numbered_lines member_line 1 c.base.members
    ++ ground_lines c ++ numbered_lines step_line 1 c.steps ++ end_line (codes "CNFRefutation") name

abbrev pub saturation_text : ℕ → List ℕ → Saturation → List ℕ
saturation_text format name c = head_lines (codes "Satisfiable") (codes "Saturation") name ++ format_line format
    ++ input_lines c.base ++ axiom_lines c.base ++ paired_lines selected_line 1 c.base.members c.places
    ++ end_line (codes "Saturation") name

abbrev pub lined_text : ℕ → List ℕ → Refutation → List ℕ
lined_text format name c = head_lines (codes "Unsatisfiable") (codes "CNFRefutation") name ++ format_line format ++ constant_line c.bot
    ++ input_lines c.base ++ axiom_lines c.base ++ numbered_lines member_line 1 c.base.members
    ++ numbered_lines ground_line_by 1 c.grounds ++ numbered_lines step_line 1 c.steps ++ end_line (codes "CNFRefutation") name

abbrev pub covered_text : ℕ → List ℕ → Covered → List ℕ
covered_text format name c = head_lines (codes "Satisfiable") (codes "Saturation") name ++ format_line format
    ++ input_lines c.saturation.base ++ axiom_lines c.saturation.base ++ paired_lines selected_line 1 c.saturation.base.members c.saturation.places
    ++ paired_lines shown_line 1 (c.saturation.base.inputs ++ c.saturation.base.axioms) c.shown ++ numbered_lines cover_line 1 c.covers
    ++ end_line (codes "Saturation") name

abbrev pub certificate_text : ℕ → List ℕ → Certificate → List ℕ
certificate_text format name (first_refutation r) = refutation_text format name r
certificate_text format name (refutation r) = lined_text format name r
certificate_text format name (saturation s) = saturation_text format name s
certificate_text format name (covered c) = covered_text format name c

-- what is written of a certificate under a name
abbrev pub written_text : List ℕ → Certificate → List ℕ
written_text name c = certificate_text written_format name c
