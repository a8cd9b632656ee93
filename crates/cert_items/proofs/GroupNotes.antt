-- What stands behind clauses is read group by group.
use Rattle.std.proofs.Common.{◌≡◌, ◌≢◌, ℕ, ◌^◌, ◌<◌, Bool, true, false, List, [], ◌∷◌, ◌++◌, map, refl, sym, ap, ◌∙◌}
use Rattle.std.specs.Prelude.{◌&&◌, codes, decimal, nat_eq, not}
use Rattle.std.specs.List.{list_all}
use Rattle.std.proofs.lemmas.Bool.{and_parts, and_from}
use Rattle.inst_logic.specs.Tree.{Tree}
use Rattle.inst_logic.proofs.Numbers.{number_is, equal_numbers}
use Rattle.inst_calculus.specs.Entries.{Origin}
use Rattle.inst_calculus.specs.Steps.{Cited}
use Rattle.cert_format.specs.Certificate.{By, Side}
use Rattle.cert_format.specs.LineMachine.{is_number, Note, named, equality, member, selected, ground_of, ground_by, shown_by, input_by, side_by, rank, Header, fits_origin, names_covers, fits}
use Rattle.cert_format.specs.LineTexts.{origin_text, origin_is_printable, hints, hint_is_printable, hints_are_printable, by_text, by_is_printable, note_text}
use Rattle.cert_format.specs.Spelling.{is_printable}
use Rattle.cert_format.proofs.LineNotes.{behind_front, below, note_once, by_once}
use Rattle.cert_format.proofs.Marked.{marked_once}
use Rattle.cert_format.proofs.Spelling.{small_number}
use Rattle.cert_items.specs.declared.group.Group.{Group}
use Rattle.cert_items.specs.declared.group.Group.TheVariants as groups
use Rattle.cert_items.specs.declared.shape.TextShape.{TextShape}
use Rattle.cert_items.specs.Reading.{ArePrintable}
use Rattle.cert_items.specs.Notes.{NoOrigin, NoBy, side_text}
use Rattle.cert_items.specs.Items.{group_of, rank_of, shape_of, HasForm, IsNote, IsNoteAt, NoNote, NoLastNote}
use Rattle.cert_items.proofs.Covering.{numbered, behind_sides}

-- ---- forms

-- the least header of the shape
abbrev pub header : TextShape → Header
header s = record { refutation = s.refutation; name = []; format = s.format; bot = [] }

-- what a shape has, in one test
pub form_in : (s : TextShape) (note : Note) → HasForm s note → fits (header s) note ≡ true
form_in s note h = h (header s) refl

form_of : (h : Header) (s : TextShape) → shape_of h ≡ s → h.refutation ≡ s.refutation
form_of h s e = ap (λ (t : TextShape). t.refutation) e

format_of : (h : Header) (s : TextShape) → shape_of h ≡ s → h.format ≡ s.format
format_of h s e = ap (λ (t : TextShape). t.format) e

-- of the test of a form
no_form : (r : Bool) → r ≡ true → not r ≡ true → ⊥
no_form true e t = cc
no_form false e t = cc

has_form : (r : Bool) → not r ≡ false → r ≡ true
has_form true t = refl
has_form false t = absurd cc

-- ---- members

pub member_note : (s : TextShape) (n : ℕ) (o : Origin) (bytes rest : List ℕ) → s.refutation ≡ true → bytes ≡ origin_text o rest → origin_is_printable o ≡ true → fits_origin s.format o ≡ true → IsNoteAt s groups.Member n (member o) bytes rest
member_note s n o bytes rest t is p k = (
  record { printable = p; form = λ h e. and_from h.refutation (fits_origin h.format o) (form_of h s e ∙ t) (ap (λ (v : ℕ). fits_origin v o) (format_of h s e) ∙ k); group_is = refl },
  is,
)

pub no_member_note : (s : TextShape) (n : ℕ) (bytes : List ℕ) → s.refutation ≡ true → NoOrigin s.format bytes → NoNote s groups.Member n bytes
no_member_note s n bytes t bad (member o) rest i e = bad o rest i.printable (and_parts s.refutation (fits_origin s.format o) (i.form (header s) refl)).1 e
no_member_note s n bytes t bad (selected o p) rest i e = no_form s.refutation t (and_parts (not s.refutation) (fits_origin s.format o) (i.form (header s) refl)).0
no_member_note s n bytes t bad _ rest i e = let q = i.group_is in cc

pub no_selected_note : (s : TextShape) (n : ℕ) (bytes : List ℕ) → s.refutation ≡ false
    → ((o : Origin) (p : ℕ) (rest : List ℕ) → origin_is_printable o ≡ true → fits_origin s.format o ≡ true → p < 2 ^ 64 → bytes ≢ origin_text o (codes ",[selected(" ++ (decimal p ++ 41 ∷ 93 ∷ rest))) → NoNote s groups.Member n bytes
no_selected_note s n bytes t bad (selected o p) rest i e =
    let a = and_parts (origin_is_printable o) (is_number p) i.printable in
    bad o p rest a.0 (and_parts (not s.refutation) (fits_origin s.format o) (i.form (header s) refl)).1 (below p a.1) e
no_selected_note s n bytes t bad (member o) rest i e = let q = (and_parts s.refutation (fits_origin s.format o) (i.form (header s) refl)).0 in cc
no_selected_note s n bytes t bad _ rest i e = let q = i.group_is in cc

-- ---- ground clauses

is_first : (v : ℕ) → v ≡ 1 → nat_eq v 1 ≡ true
is_first v e = equal_numbers v 1 e

pub ground_note : (s : TextShape) (n k : ℕ) (bytes rest : List ℕ) → s.refutation ≡ true → s.format ≡ 1 → k ≡ n → bytes ≡ codes "ground(m" ++ (decimal k ++ 41 ∷ rest) → IsNoteAt s groups.Ground n ground_of bytes rest
ground_note s n k bytes rest t v same is = (
  record { printable = refl; form = λ h e. and_from h.refutation (nat_eq h.format 1) (form_of h s e ∙ t) (is_first h.format (format_of h s e ∙ v)); group_is = refl },
  is ∙ ap (λ (j : ℕ). codes "ground(m" ++ (decimal j ++ 41 ∷ rest)) same,
)

pub no_ground_form : (s : TextShape) (n : ℕ) (bytes : List ℕ) → not s.refutation ≡ true → NoNote s groups.Ground n bytes
no_ground_form s n bytes t ground_of rest i e = no_form s.refutation (and_parts s.refutation (nat_eq s.format 1) (i.form (header s) refl)).0 t
no_ground_form s n bytes t (ground_by k ts) rest i e = no_form s.refutation (and_parts s.refutation (not (nat_eq s.format 1)) (i.form (header s) refl)).0 t
no_ground_form s n bytes t _ rest i e = let q = i.group_is in cc

pub no_first_ground : (s : TextShape) (n : ℕ) (bytes : List ℕ) → s.format ≡ 1 → ((rest : List ℕ) → bytes ≢ codes "ground(m" ++ (decimal n ++ 41 ∷ rest)) → NoNote s groups.Ground n bytes
no_first_ground s n bytes v bad ground_of rest i e = bad rest e
no_first_ground s n bytes v bad (ground_by k ts) rest i e = no_form (nat_eq s.format 1) (is_first s.format v) (and_parts s.refutation (not (nat_eq s.format 1)) (i.form (header s) refl)).1
no_first_ground s n bytes v bad _ rest i e = let q = i.group_is in cc

pub other_ground : (s : TextShape) (n k : ℕ) (bytes after : List ℕ) → s.format ≡ 1 → n < 2 ^ 64 → k < 2 ^ 64 → k ≢ n → bytes ≡ codes "ground(m" ++ (decimal k ++ 41 ∷ after) → NoNote s groups.Ground n bytes
other_ground s n k bytes after v small fits differ is =
    no_first_ground s n bytes v (λ rest e. differ (marked_once k n 41 after rest fits small refl (behind_front (codes "ground(m") _ _ (sym is ∙ e))).0)

pub no_line_note : (s : TextShape) (n : ℕ) (bytes : List ℕ) → s.format ≢ 1 → ((k : ℕ) (ts : List Tree) (rest : List ℕ) → k < 2 ^ 64 → ArePrintable ts → bytes ≢ codes "ground(" ++ numbered k ts rest) → NoNote s groups.Ground n bytes
no_line_note s n bytes v bad ground_of rest i e = v (number_is s.format 1 (and_parts s.refutation (nat_eq s.format 1) (i.form (header s) refl)).1)
no_line_note s n bytes v bad (ground_by k ts) rest i e = let a = and_parts (is_number k) (list_all is_printable ts) i.printable in bad k ts rest (below k a.0) a.1 e
no_line_note s n bytes v bad _ rest i e = let q = i.group_is in cc

-- ---- what shows inputs and axioms, and covers

names : (h : Header) (s : TextShape) → shape_of h ≡ s → (not s.refutation && nat_eq s.format 3) ≡ true → names_covers h ≡ true
names h s e t = ap (λ (z : TextShape). not z.refutation && nat_eq z.format 3) e ∙ t

pub shown_note : (s : TextShape) (n : ℕ) (by : By) (bytes rest : List ℕ) → (not s.refutation && nat_eq s.format 3) ≡ true → bytes ≡ by_text by rest → by_is_printable by ≡ true → IsNoteAt s groups.Shown n (input_by by) bytes rest
shown_note s n by bytes rest t is p = (record { printable = p; form = λ h e. names h s e t; group_is = refl }, is)

pub no_shown_form : (s : TextShape) (n : ℕ) (bytes : List ℕ) → (not s.refutation && nat_eq s.format 3) ≡ false → NoNote s groups.Shown n bytes
no_shown_form s n bytes t (input_by by) rest i e = let q = i.form (header s) refl in cc
no_shown_form s n bytes t _ rest i e = let q = i.group_is in cc

pub cover_note : (s : TextShape) (n l r : ℕ) (d : Side) (by : By) (bytes after behind rest : List ℕ) → (not s.refutation && nat_eq s.format 3) ≡ true → bytes ≡ side_text l r d after → l < 2 ^ 64 → r < 2 ^ 64 → after ≡ by_text by behind → by_is_printable by ≡ true
    → behind ≡ 93 ∷ rest → IsNoteAt s groups.Cover n (side_by l r d by) bytes rest
cover_note s n l r d by bytes after behind rest t is left right at p end = (
  record {
    printable = and_from (is_number l) _ (small_number l left) (and_from (is_number r) (by_is_printable by) (small_number r right) p);
    form = λ h e. names h s e t;
    group_is = refl;
  },
  is ∙ ap (side_text l r d) (at ∙ ap (by_text by) end),
)

pub no_cover_form : (s : TextShape) (n : ℕ) (bytes : List ℕ) → (not s.refutation && nat_eq s.format 3) ≡ false → NoNote s groups.Cover n bytes
no_cover_form s n bytes t (side_by l r d by) rest i e = let q = i.form (header s) refl in cc
no_cover_form s n bytes t _ rest i e = let q = i.group_is in cc

pub no_cover : (s : TextShape) (n : ℕ) (bytes : List ℕ) → ((l r : ℕ) (d : Side) (by : By) (rest : List ℕ) → l < 2 ^ 64 → r < 2 ^ 64 → by_is_printable by ≡ true → bytes ≢ side_text l r d (by_text by (93 ∷ rest))) → NoNote s groups.Cover n bytes
no_cover s n bytes bad (side_by l r d by) rest i e =
    let a = and_parts (is_number l) _ i.printable in
    let b = and_parts (is_number r) (by_is_printable by) a.1 in
    bad l r d by rest (below l a.0) (below r b.0) b.1 e
no_cover s n bytes bad _ rest i e = let q = i.group_is in cc

pub no_cover_by : (s : TextShape) (n l r : ℕ) (d : Side) (bytes after : List ℕ) → bytes ≡ side_text l r d after → l < 2 ^ 64 → r < 2 ^ 64 → NoBy after → NoNote s groups.Cover n bytes
no_cover_by s n l r d bytes after is left right bad =
    no_cover s n bytes (λ m k t by rest h g p e. bad by (93 ∷ rest) p (behind_sides bytes after l r d is left right m k t (by_text by (93 ∷ rest)) h g e))

pub no_cover_end : (s : TextShape) (n l r : ℕ) (d : Side) (b : By) (bytes after behind : List ℕ) → bytes ≡ side_text l r d after → l < 2 ^ 64 → r < 2 ^ 64 → after ≡ by_text b behind → by_is_printable b ≡ true → ((x : List ℕ) → behind ≢ 93 ∷ x) → NoNote s groups.Cover n bytes
no_cover_end s n l r d b bytes after behind is left right at q bad =
    no_cover s n bytes (λ m k t by rest h g p e. bad rest (by_once b by behind (93 ∷ rest) q p (sym at ∙ behind_sides bytes after l r d is left right m k t (by_text by (93 ∷ rest)) h g e)).1)

-- ---- steps

some_hints : (hs : List Cited) → list_all hint_is_printable hs ≡ true → hs ≢ [] → hints_are_printable hs ≡ true
some_hints [] h k = absurd (k refl)
some_hints (c ∷ hs) h k = h

pub no_map : {A B : Type 0} (f : A → B) (xs : List A) → map f xs ≡ [] → xs ≡ []
no_map f [] e = refl
no_map f (x ∷ xs) e = absurd cc

pub step_note : (s : TextShape) (n : ℕ) (hs : List Cited) (bytes after rest : List ℕ) → not s.refutation ≡ false → bytes ≡ codes "rup([" ++ after → after ≡ hints hs rest → list_all hint_is_printable hs ≡ true → hs ≢ [] → IsNoteAt s groups.Step n (shown_by hs) bytes rest
step_note s n hs bytes after rest t is at p k = (record { printable = some_hints hs p k; form = λ h e. form_of h s e ∙ has_form s.refutation t; group_is = refl }, is ∙ ap (λ (xs : List ℕ). codes "rup([" ++ xs) at)

pub no_step_form : (s : TextShape) (n : ℕ) (bytes : List ℕ) → not s.refutation ≡ true → NoNote s groups.Step n bytes
no_step_form s n bytes t (shown_by hs) rest i e = no_form s.refutation (i.form (header s) refl) t
no_step_form s n bytes t _ rest i e = let q = i.group_is in cc

-- ---- the end of a line

pub rank_group : (note : Note) → rank note ≡ rank_of (group_of note)
rank_group (named w) = refl
rank_group equality = refl
rank_group (member o) = refl
rank_group (selected o p) = refl
rank_group ground_of = refl
rank_group (ground_by k ts) = refl
rank_group (shown_by hs) = refl
rank_group (input_by by) = refl
rank_group (side_by left right side by) = refl

pub one_note : (s : TextShape) (g : Group) (n : ℕ) (a b : Note) (x y : List ℕ) → IsNote s g a → IsNote s g b → note_text n a x ≡ note_text n b y → (a ≡ b) × (x ≡ y)
one_note s g n a b x y i j e =
    let same = rank_group a ∙ ap rank_of (i.group_is ∙ sym j.group_is) ∙ sym (rank_group b) in
    note_once (header s) n a b x y same (form_in s a i.form) (form_in s b j.form) i.printable j.printable e

pub no_end : (s : TextShape) (g : Group) (n : ℕ) (a : Note) (bytes after : List ℕ) → IsNoteAt s g n a bytes after → ((rest : List ℕ) → after ≢ 41 ∷ 46 ∷ 10 ∷ rest) → NoLastNote s g n bytes
no_end s g n a bytes after at bad note rest i e = bad rest (one_note s g n a note after (41 ∷ 46 ∷ 10 ∷ rest) at.0 i (sym at.1 ∙ e)).1
