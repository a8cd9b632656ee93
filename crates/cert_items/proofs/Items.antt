-- Whole lines of items.
use Rattle.std.proofs.Common.{◌≡◌, ◌≢◌, ℕ, ◌^◌, ◌<◌, true, cond, List, [], ◌∷◌, ◌++◌, map, refl, sym, ap, ◌∙◌}
use Rattle.std.specs.Prelude.{codes, decimal, nat_eq}
use Rattle.inst_logic.specs.Clauses.{TreeClause}
use Rattle.inst_logic.specs.Printing.{clause_text}
use Rattle.cert_format.specs.Forms.{form_atom}
use Rattle.cert_format.specs.Formats.{clause_is_printable}
use Rattle.cert_format.specs.LineMachine.{Note, named, equality, member, selected, ground_of, ground_by, shown_by, input_by, side_by, item}
use Rattle.cert_format.specs.LineTexts.{note_text, line}
use Rattle.cert_format.proofs.LineNotes.{behind_front, below}
use Rattle.cert_format.proofs.Marked.{marked_once}
use Rattle.cert_format.proofs.Spelling.{small_number}
use Rattle.cert_format.proofs.Clauses.{one_clause}
use Rattle.cert_format.proofs.ClauseForms.{text_of_forms}
use Rattle.cert_format.proofs.Formats.{first_two, test_forms}
use Rattle.cert_items.specs.declared.group.Group.{Group}
use Rattle.cert_items.specs.declared.group.Group.TheVariants as groups
use Rattle.cert_items.specs.declared.shape.TextShape.{TextShape}
use Rattle.cert_items.specs.Items.{group_of, letter_of, role_of, head_text, IsNoteAt, NoLastNote, IsItem, NoItem}

-- ---- heads

abbrev group_at : ℕ → Group
group_at b = cond (nat_eq b 105) groups.Input (cond (nat_eq b 101) groups.Axiom (cond (nat_eq b 109) groups.Member (cond (nat_eq b 103) groups.Ground (cond (nat_eq b 114) groups.Step (cond (nat_eq b 113) groups.Shown groups.Cover)))))

letter_group : (g : Group) → group_at (letter_of g) ≡ g
letter_group groups.Input = refl
letter_group groups.Axiom = refl
letter_group groups.Member = refl
letter_group groups.Ground = refl
letter_group groups.Step = refl
letter_group groups.Shown = refl
letter_group groups.Cover = refl

pub one_letter : (g h : Group) → letter_of g ≡ letter_of h → g ≡ h
one_letter g h e = sym (letter_group g) ∙ ap group_at e ∙ letter_group h

pub one_role : (g : Group) (x y : List ℕ) → role_of g x ≡ role_of g y → x ≡ y
one_role groups.Input x y e = behind_front (codes "axiom,") x y e
one_role groups.Axiom x y e = behind_front (codes "axiom,") x y e
one_role groups.Member x y e = behind_front (codes "plain,") x y e
one_role groups.Ground x y e = behind_front (codes "plain,") x y e
one_role groups.Step x y e = behind_front (codes "plain,") x y e
one_role groups.Shown x y e = behind_front (codes "plain,") x y e
one_role groups.Cover x y e = behind_front (codes "plain,") x y e

-- the letter and the number are one reading
pub one_number : (g h : Group) (n k : ℕ) (x y : List ℕ) → n < 2 ^ 64 → k < 2 ^ 64 → letter_of g ∷ (decimal n ++ 44 ∷ x) ≡ letter_of h ∷ (decimal k ++ 44 ∷ y) → (g ≡ h) × (n ≡ k) × (x ≡ y)
one_number g h n k x y p q e =
    let a = first_two (letter_of g) (letter_of h) _ _ e in
    let b = marked_once n k 44 x y p q refl a.1 in
    (one_letter g h a.0, b.0, b.1)

pub one_head : (g h : Group) (n k : ℕ) (x y : List ℕ) → n < 2 ^ 64 → k < 2 ^ 64 → head_text g n x ≡ head_text h k y → (g ≡ h) × (n ≡ k) × (x ≡ y)
one_head g h n k x y p q e =
    let a = one_number g h n k (role_of g x) (role_of h y) p q (behind_front (codes "cnf(") _ _ e) in
    (a.0, a.1, one_role g x y (a.2 ∙ ap (λ (i : Group). role_of i y) (sym a.0)))

-- a head whose role cannot be read
pub no_role : (g : Group) (n : ℕ) (bytes after behind : List ℕ) → bytes ≡ codes "cnf(" ++ after → after ≡ letter_of g ∷ (decimal n ++ 44 ∷ behind) → n < 2 ^ 64 → ((rest : List ℕ) → behind ≢ role_of g rest) → (h : Group) (k : ℕ) (rest : List ℕ) → k < 2 ^ 64 → bytes ≢ head_text h k rest
no_role g n bytes after behind is at small bad h k rest q e =
    let a = one_number g h n k behind (role_of h rest) small q (sym at ∙ behind_front (codes "cnf(") _ _ (sym is ∙ e)) in
    bad rest (a.2 ∙ ap (λ (i : Group). role_of i rest) (sym a.0))

-- ---- lines

-- what stands behind the role
abbrev tail : ℕ → TreeClause → Note → List ℕ → List ℕ
tail n c note rest = clause_text c ++ 44 ∷ note_text n note (41 ∷ 46 ∷ 10 ∷ rest)

pub line_head : (n : ℕ) (c : TreeClause) (note : Note) (rest : List ℕ) → line (item n c note) rest ≡ head_text (group_of note) n (clause_text c ++ 44 ∷ note_text n note (41 ∷ 46 ∷ 10 ∷ rest))
line_head n c (named w) rest = refl
line_head n c equality rest = refl
line_head n c (member o) rest = refl
line_head n c (selected o p) rest = refl
line_head n c ground_of rest = refl
line_head n c (ground_by k ts) rest = refl
line_head n c (shown_by hs) rest = refl
line_head n c (input_by by) rest = refl
line_head n c (side_by left right side by) rest = refl

clause_once : (c d : TreeClause) (x y : List ℕ) → clause_is_printable c ≡ true → clause_is_printable d ≡ true → clause_text c ++ 44 ∷ x ≡ clause_text d ++ 44 ∷ y → (c ≡ d) × (x ≡ y)
clause_once c d x y p q e =
    let f = test_forms c p in
    let g = test_forms d q in
    let forms = one_clause f.forms g.forms x y f.printable g.printable (sym (text_of_forms c f x) ∙ e ∙ text_of_forms d g y) in
    let same : c ≡ d = sym f.are ∙ ap (map form_atom) forms ∙ g.are in
    (same, behind_front (44 ∷ []) x y (behind_front (clause_text c) _ _ (e ∙ ap (λ (i : TreeClause). clause_text i ++ 44 ∷ y) (sym same))))

-- no head, no clause behind the head, and no note behind the clause
pub no_item_head : (s : TextShape) (bytes : List ℕ) → ((g : Group) (n : ℕ) (rest : List ℕ) → n < 2 ^ 64 → bytes ≢ head_text g n rest) → NoItem s bytes
no_item_head s bytes bad n c note rest i e = bad (group_of note) n (tail n c note rest) (below n i.number) (e ∙ line_head n c note rest)

pub no_item_clause : (s : TextShape) (g : Group) (n : ℕ) (bytes after : List ℕ) → bytes ≡ head_text g n after → n < 2 ^ 64 → ((c : TreeClause) (rest : List ℕ) → clause_is_printable c ≡ true → after ≢ clause_text c ++ 44 ∷ rest) → NoItem s bytes
no_item_clause s g n bytes after is small bad k d note rest i e =
    let a = one_head g (group_of note) n k after (tail k d note rest) small (below k i.number) (sym is ∙ e ∙ line_head k d note rest) in
    bad d (note_text k note (41 ∷ 46 ∷ 10 ∷ rest)) i.clause a.2

pub no_item_note : (s : TextShape) (g : Group) (n : ℕ) (c : TreeClause) (bytes after behind : List ℕ) → bytes ≡ head_text g n after → n < 2 ^ 64 → after ≡ clause_text c ++ 44 ∷ behind → clause_is_printable c ≡ true → NoLastNote s g n behind → NoItem s bytes
no_item_note s g n c bytes after behind is small at p bad k d note rest i e =
    let a = one_head g (group_of note) n k after (tail k d note rest) small (below k i.number) (sym is ∙ e ∙ line_head k d note rest) in
    let b = clause_once c d behind (note_text k note (41 ∷ 46 ∷ 10 ∷ rest)) p i.clause (sym at ∙ a.2) in
    bad note rest (record { printable = i.printable; form = i.form; group_is = sym a.0 }) (b.1 ∙ ap (λ (j : ℕ). note_text j note (41 ∷ 46 ∷ 10 ∷ rest)) (sym a.1))

-- the parts make the line
pub whole_line : (s : TextShape) (g : Group) (n : ℕ) (c : TreeClause) (note : Note) (bytes after behind rest : List ℕ) → bytes ≡ head_text g n after → after ≡ clause_text c ++ 44 ∷ behind → IsNoteAt s g n note behind (41 ∷ 46 ∷ 10 ∷ rest) → bytes ≡ line (item n c note) rest
whole_line s g n c note bytes after behind rest is at i =
    is ∙ ap (head_text g n) (at ∙ ap (λ (xs : List ℕ). clause_text c ++ 44 ∷ xs) i.1) ∙ ap (λ (h : Group). head_text h n (tail n c note rest)) (sym i.0.group_is) ∙ sym (line_head n c note rest)

pub whole_item : (s : TextShape) (g : Group) (n : ℕ) (c : TreeClause) (note : Note) (behind rest : List ℕ) → n < 2 ^ 64 → clause_is_printable c ≡ true → IsNoteAt s g n note behind rest → IsItem s n c note
whole_item s g n c note behind rest small p i = record { number = small_number n small; clause = p; printable = i.0.printable; form = i.0.form }
