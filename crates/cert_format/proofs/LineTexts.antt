-- The text of a value is that of its lines.
use Rattle.std.proofs.Common.{◌≡◌, ℕ, suc, ◌+◌, Bool, true, false, cond, List, [], ◌∷◌, ◌++◌, length, map, refl, sym, ap, ap₂, ◌∙◌, arith, append_assoc}
use Rattle.std.specs.Prelude.{nat_eq, codes, decimal}
use Rattle.std.specs.List.{list_all}
use Rattle.std.proofs.lemmas.List.{append-nil}
use Rattle.inst_logic.specs.Tree.{Tree}
use Rattle.inst_logic.specs.Clauses.{TreeClause}
use Rattle.inst_logic.specs.Printing.{clause_text, tree_text, name_text, joined}
use Rattle.inst_calculus.specs.Entries.{Origin, input, inst, lemma, Entry}
use Rattle.inst_calculus.specs.Steps.{Step, Cited, given, earlier}
use Rattle.cert_format.specs.Certificate.{GroundLine, By, by_tautology, by_variant, by_part, Cover, Certificate, first_refutation, refutation, saturation, covered}
use Rattle.cert_format.proofs.ClauseForms.{term_is}
use Rattle.cert_format.specs.Lines as format
use Rattle.cert_format.specs.Text.{certificate_text, numbered_lines, paired_lines}
use Rattle.cert_format.specs.LineMachine.{Note, named, equality, member, selected, ground_of, ground_by, shown_by, input_by, side_by, rank, Item, Line, version, item, closing, count, nothing}
use Rattle.cert_format.specs.LineTexts.{letter, role, line_text, numbers, terms, by_text, hint, hints, more_hints, origin_text, note_text}
use Rattle.cert_format.specs.Lines.{side_word}
use Rattle.cert_format.specs.Formats.{step, is_done, text_of_lines}
use Rattle.cert_format.specs.ValueLines.{input_items, axiom_items, member_items, selected_items, ground_items, line_items, shown_items, cover_items, step_items, items_of, item_lines, lines_of}
use Rattle.inst_logic.proofs.Numbers.{number_is}
use Rattle.cert_format.proofs.LineMachine.{count_push}
use Rattle.std.proofs.lemmas.Bool.{and_parts}
use Rattle.cert_format.proofs.Formats.{exact}
use Rattle.cert_format.proofs.Machines.{texts_append}

-- ---- each line

numbers_are : (mark ns x : List ℕ) → numbers mark ns x ≡ joined (codes ",") (map (λ (p : List ℕ). mark ++ p) (map decimal ns)) ++ 93 ∷ x
numbers_are mark [] x = refl
numbers_are mark (n ∷ []) x = sym (append_assoc mark (decimal n) (93 ∷ x))
numbers_are mark (n ∷ m ∷ ns) x =
    sym (append_assoc mark (decimal n) (44 ∷ numbers mark (m ∷ ns) x)) ∙ ap (λ (bs : List ℕ). (mark ++ decimal n) ++ 44 ∷ bs) (numbers_are mark (m ∷ ns) x)
    ∙ joins (mark ++ decimal n) (joined (codes ",") (map (λ (p : List ℕ). mark ++ p) (map decimal (m ∷ ns)))) (93 ∷ x)
  where
    joins : (a j r : List ℕ) → a ++ 44 ∷ (j ++ r) ≡ ((a ++ codes ",") ++ j) ++ r
    joins a j r = sym (append_assoc (a ++ codes ",") j r ∙ append_assoc a (codes ",") (j ++ r))

terms_are : (ts : List Tree) (x : List ℕ) → terms ts x ≡ joined (codes ",") (map (λ (p : List ℕ). [] ++ p) (map tree_text ts)) ++ 93 ∷ x
terms_are [] x = refl
terms_are (t ∷ []) x = term_is t (93 ∷ x)
terms_are (t ∷ u ∷ ts) x =
    term_is t (44 ∷ terms (u ∷ ts) x) ∙ ap (λ (bs : List ℕ). tree_text t ++ 44 ∷ bs) (terms_are (u ∷ ts) x)
    ∙ joins (tree_text t) (joined (codes ",") (map (λ (p : List ℕ). [] ++ p) (map tree_text (u ∷ ts)))) (93 ∷ x)
  where
    joins : (a j r : List ℕ) → a ++ 44 ∷ (j ++ r) ≡ ((a ++ codes ",") ++ j) ++ r
    joins a j r = sym (append_assoc (a ++ codes ",") j r ∙ append_assoc a (codes ",") (j ++ r))

in_brackets : (j x : List ℕ) → 91 ∷ (j ++ 93 ∷ x) ≡ ((codes "[" ++ j) ++ codes "]") ++ x
in_brackets j x = ap (λ (bs : List ℕ). 91 ∷ bs) (sym (append_assoc j (93 ∷ []) x))

listed_is : (mark ns x : List ℕ) → 91 ∷ numbers mark ns x ≡ format.listed mark (map decimal ns) ++ x
listed_is mark ns x = ap (λ (bs : List ℕ). 91 ∷ bs) (numbers_are mark ns x) ∙ in_brackets (joined (codes ",") (map (λ (p : List ℕ). mark ++ p) (map decimal ns))) x

listed_terms : (ts : List Tree) (x : List ℕ) → 91 ∷ terms ts x ≡ format.listed [] (map tree_text ts) ++ x
listed_terms ts x = ap (λ (bs : List ℕ). 91 ∷ bs) (terms_are ts x) ∙ in_brackets (joined (codes ",") (map (λ (p : List ℕ). [] ++ p) (map tree_text ts))) x

by_is : (by : By) (x : List ℕ) → by_text by x ≡ format.by_text by ++ x
by_is by_tautology x = refl
by_is (by_variant j) x = ap (λ (bs : List ℕ). codes "variant(m" ++ bs) (sym (append_assoc (decimal j) (codes ")") x))
by_is (by_part j ts) x = ap (λ (bs : List ℕ). codes "part(m" ++ (decimal j ++ 44 ∷ bs)) (listed_terms ts (41 ∷ x)) ∙ joins (decimal j) (format.listed [] (map tree_text ts))
  where
    joins : (d l : List ℕ) → codes "part(m" ++ (d ++ 44 ∷ (l ++ 41 ∷ x)) ≡ ((((codes "part(m" ++ d) ++ codes ",") ++ l) ++ codes ")") ++ x
    joins d l = simp append_assoc

origin_is : (o : Origin) (x : List ℕ) → origin_text o x ≡ format.origin_text o ++ x
origin_is (input k) x = simp append_assoc
origin_is (inst a p b q) x = simp append_assoc
origin_is (lemma a p b q ks ds) x =
    ap (λ (bs : List ℕ). codes "lemma(m" ++ (decimal a ++ 44 ∷ (decimal p ++ 44 ∷ 109 ∷ (decimal b ++ 44 ∷ (decimal q ++ 44 ∷ bs)))))
    (listed_is [] ks (44 ∷ 91 ∷ numbers (109 ∷ []) ds (41 ∷ x)) ∙ ap (λ (bs : List ℕ). format.listed [] (map decimal ks) ++ 44 ∷ bs) (listed_is (109 ∷ []) ds (41 ∷ x)))
    ∙ joins (decimal a) (decimal p) (decimal b) (decimal q) (format.listed [] (map decimal ks)) (format.listed (109 ∷ []) (map decimal ds))
  where
    joins : (a p b q l m : List ℕ) → codes "lemma(m" ++ (a ++ 44 ∷ (p ++ 44 ∷ 109 ∷ (b ++ 44 ∷ (q ++ 44 ∷ (l ++ 44 ∷ (m ++ 41 ∷ x)))))) ≡ ((((((((((((codes "lemma(m" ++ a) ++ codes ",") ++ p) ++ codes ",m") ++ b) ++ codes ",") ++ q) ++ codes ",") ++ l) ++ codes ",") ++ m) ++ codes ")") ++ x
    joins a p b q l m = simp append_assoc

hint_is : (h : Cited) (x : List ℕ) → hint h x ≡ format.hint_text h ++ x
hint_is (given k) x = refl
hint_is (earlier k) x = refl

hints_are : (hs : List Cited) (x : List ℕ) → hints hs x ≡ joined (codes ",") (map format.hint_text hs) ++ 93 ∷ 41 ∷ x
hints_are [] x = refl
hints_are (h ∷ []) x = hint_is h (93 ∷ 41 ∷ x)
hints_are (h ∷ k ∷ hs) x =
    hint_is h (44 ∷ hint k (more_hints hs x)) ∙ ap (λ (bs : List ℕ). format.hint_text h ++ 44 ∷ bs) (hints_are (k ∷ hs) x)
    ∙ joins (format.hint_text h) (joined (codes ",") (map format.hint_text (k ∷ hs))) (93 ∷ 41 ∷ x)
  where
    joins : (a j r : List ℕ) → a ++ 44 ∷ (j ++ r) ≡ ((a ++ codes ",") ++ j) ++ r
    joins a j r = sym (append_assoc (a ++ codes ",") j r ∙ append_assoc a (codes ",") (j ++ r))

-- a clause's line, by the text of its note
clause_line_is : (label n role clause note : List ℕ) → format.text_line ((((((((codes "cnf(" ++ label) ++ n) ++ codes ",") ++ role) ++ codes ",") ++ clause) ++ codes ",") ++ note ++ codes ").") ≡ codes "cnf(" ++ (label ++ (n ++ 44 ∷ (role ++ 44 ∷ (clause ++ 44 ∷ (note ++ 41 ∷ 46 ∷ 10 ∷ [])))))
clause_line_is label n role clause note = simp append_assoc

-- by the text of the note
item_line_is : (n : ℕ) (c : TreeClause) (note : Note) (text : List ℕ) → note_text n note (41 ∷ 46 ∷ 10 ∷ []) ≡ text ++ 41 ∷ 46 ∷ 10 ∷ [] → line_text (item n c note) ≡ format.clause_line (letter note ∷ []) n (role (rank note)) c text
item_line_is n c note text e =
    ap (λ (bs : List ℕ). codes "cnf(" ++ (letter note ∷ (decimal n ++ 44 ∷ (role (rank note) ++ 44 ∷ (clause_text c ++ 44 ∷ bs))))) e
    ∙ sym (clause_line_is (letter note ∷ []) (decimal n) (role (rank note)) (clause_text c) text)

input_line_is : (n : ℕ) (c : TreeClause) (w : List ℕ) → line_text (item n c (named w)) ≡ format.input_line n c w
input_line_is n c w = item_line_is n c (named w) _ (ap (λ (bs : List ℕ). codes "named(" ++ bs) (sym (append_assoc (name_text w) (codes ")") (41 ∷ 46 ∷ 10 ∷ []))))

axiom_line_is : (n : ℕ) (c : TreeClause) → line_text (item n c equality) ≡ format.axiom_line n c
axiom_line_is n c = item_line_is n c equality _ refl

member_line_is : (n : ℕ) (e : Entry) → line_text (item n e.clause (member e.origin)) ≡ format.member_line n e
member_line_is n e = item_line_is n e.clause (member e.origin) _ (origin_is e.origin (41 ∷ 46 ∷ 10 ∷ []))

selected_line_is : (n : ℕ) (e : Entry) (p : ℕ) → line_text (item n e.clause (selected e.origin p)) ≡ format.selected_line n e p
selected_line_is n e p = item_line_is n e.clause (selected e.origin p) _ (origin_is e.origin _ ∙ joins (format.origin_text e.origin) (decimal p) (41 ∷ 46 ∷ 10 ∷ []))
  where
    joins : (o d r : List ℕ) → o ++ (codes ",[selected(" ++ (d ++ 41 ∷ 93 ∷ r)) ≡ (((o ++ codes ",[selected(") ++ d) ++ codes ")]") ++ r
    joins o d r = simp append_assoc

ground_line_is : (n : ℕ) (c : TreeClause) → line_text (item n c ground_of) ≡ format.ground_line n c
ground_line_is n c = item_line_is n c ground_of _ (ap (λ (bs : List ℕ). codes "ground(m" ++ bs) (sym (append_assoc (decimal n) (codes ")") (41 ∷ 46 ∷ 10 ∷ []))))

ground_line_by_is : (n : ℕ) (g : GroundLine) → line_text (item n g.clause (ground_by g.input g.terms)) ≡ format.ground_line_by n g
ground_line_by_is n g = item_line_is n g.clause (ground_by g.input g.terms) _
    (ap (λ (bs : List ℕ). codes "ground(" ++ (decimal g.input ++ 44 ∷ bs)) (listed_terms g.terms (41 ∷ 41 ∷ 46 ∷ 10 ∷ [])) ∙ joins (decimal g.input) (format.listed [] (map tree_text g.terms)) (41 ∷ 46 ∷ 10 ∷ []))
  where
    joins : (d l r : List ℕ) → codes "ground(" ++ (d ++ 44 ∷ (l ++ 41 ∷ r)) ≡ ((((codes "ground(" ++ d) ++ codes ",") ++ l) ++ codes ")") ++ r
    joins d l r = simp append_assoc

shown_line_is : (n : ℕ) (c : TreeClause) (by : By) → line_text (item n c (input_by by)) ≡ format.shown_line n c by
shown_line_is n c by = item_line_is n c (input_by by) _ (by_is by (41 ∷ 46 ∷ 10 ∷ []))

cover_line_is : (n : ℕ) (v : Cover) → line_text (item n v.clause (side_by v.left v.right v.side v.by)) ≡ format.cover_line n v
cover_line_is n v = item_line_is n v.clause (side_by v.left v.right v.side v.by) _
    (ap (λ (bs : List ℕ). codes "cover(m" ++ (decimal v.left ++ 44 ∷ 109 ∷ (decimal v.right ++ 44 ∷ (side_word v.side ++ (codes "),[" ++ bs))))) (by_is v.by (93 ∷ 41 ∷ 46 ∷ 10 ∷ []))
    ∙ joins (decimal v.left) (decimal v.right) (side_word v.side) (format.by_text v.by) (41 ∷ 46 ∷ 10 ∷ []))
  where
    joins : (a b w y r : List ℕ) → codes "cover(m" ++ (a ++ 44 ∷ 109 ∷ (b ++ 44 ∷ (w ++ (codes "),[" ++ (y ++ 93 ∷ r))))) ≡ ((((((((codes "cover(m" ++ a) ++ codes ",m") ++ b) ++ codes ",") ++ w) ++ codes "),[") ++ y) ++ codes "]") ++ r
    joins a b w y r = simp append_assoc

step_line_is : (n : ℕ) (s : Step Tree) → line_text (item n s.clause (shown_by s.hints)) ≡ format.step_line n s
step_line_is n s = item_line_is n s.clause (shown_by s.hints) _ (ap (λ (bs : List ℕ). codes "rup([" ++ bs) (hints_are s.hints (41 ∷ 46 ∷ 10 ∷ []) ∙ sym (append_assoc (joined (codes ",") (map format.hint_text s.hints)) (codes "])") (41 ∷ 46 ∷ 10 ∷ []))))

status_is : (w name : List ℕ) → codes "% SZS status " ++ (w ++ (codes " for " ++ (name ++ 10 ∷ []))) ≡ format.status_line w name
status_is w name = simp append_assoc

start_is : (w name : List ℕ) → codes "% SZS output start " ++ (w ++ (codes " for " ++ (name ++ 10 ∷ []))) ≡ format.start_line w name
start_is w name = simp append_assoc

end_is : (w name : List ℕ) → codes "% SZS output end " ++ (w ++ (codes " for " ++ (name ++ 10 ∷ []))) ≡ format.end_line w name
end_is w name = simp append_assoc

-- ---- groups

-- one item more of its group
counts : (before : List Item) (i : Item) (n : ℕ) → n ≡ suc (count (rank i.note) before) → (k : ℕ) → nat_eq (rank i.note) k ≡ true → rank i.note ≡ k → n + 1 ≡ suc (count k (before ++ i ∷ []))
counts before i n e k t r =
    let c : count k (before ++ i ∷ []) ≡ suc (count k before) = count_push k before i ∙ ap (λ (b : Bool). cond b (suc (count k before)) (count k before)) t in
    let f : n ≡ suc (count k before) = e ∙ ap (λ (j : ℕ). suc (count j before)) r in
    omega arith

abbrev spelled : List Line → List ℕ
spelled = text_of_lines

input_texts : (before : List Item) (cs : List TreeClause) (ws : List (List ℕ)) (n : ℕ) → n ≡ suc (count 0 before) → spelled (item_lines before (input_items cs ws)) ≡ paired_lines format.input_line n cs ws
input_texts before [] ws n e = refl
input_texts before (c ∷ cs) [] n e = refl
input_texts before (c ∷ cs) (w ∷ ws) n e =
    let i : Item = record { clause = c; note = named w } in
    ap₂ (λ (x y : List ℕ). x ++ y) (ap (λ (k : ℕ). line_text (item k c (named w))) (sym e) ∙ input_line_is n c w) (input_texts (before ++ i ∷ []) cs ws (n + 1) (counts before i n e 0 refl refl))

axiom_texts : (before : List Item) (cs : List TreeClause) (n : ℕ) → n ≡ suc (count 1 before) → spelled (item_lines before (axiom_items cs)) ≡ numbered_lines format.axiom_line n cs
axiom_texts before [] n e = refl
axiom_texts before (c ∷ cs) n e =
    let i : Item = record { clause = c; note = equality } in
    ap₂ (λ (x y : List ℕ). x ++ y) (ap (λ (k : ℕ). line_text (item k c equality)) (sym e) ∙ axiom_line_is n c) (axiom_texts (before ++ i ∷ []) cs (n + 1) (counts before i n e 1 refl refl))

member_texts : (before : List Item) (es : List Entry) (n : ℕ) → n ≡ suc (count 2 before) → spelled (item_lines before (member_items es)) ≡ numbered_lines format.member_line n es
member_texts before [] n e = refl
member_texts before (m ∷ es) n e =
    let i : Item = record { clause = m.clause; note = member m.origin } in
    ap₂ (λ (x y : List ℕ). x ++ y) (ap (λ (k : ℕ). line_text (item k m.clause (member m.origin))) (sym e) ∙ member_line_is n m) (member_texts (before ++ i ∷ []) es (n + 1) (counts before i n e 2 refl refl))

selected_texts : (before : List Item) (es : List Entry) (ps : List ℕ) (n : ℕ) → n ≡ suc (count 2 before) → spelled (item_lines before (selected_items es ps)) ≡ paired_lines format.selected_line n es ps
selected_texts before [] ps n e = refl
selected_texts before (m ∷ es) [] n e = refl
selected_texts before (m ∷ es) (p ∷ ps) n e =
    let i : Item = record { clause = m.clause; note = selected m.origin p } in
    ap₂ (λ (x y : List ℕ). x ++ y) (ap (λ (k : ℕ). line_text (item k m.clause (selected m.origin p))) (sym e) ∙ selected_line_is n m p) (selected_texts (before ++ i ∷ []) es ps (n + 1) (counts before i n e 2 refl refl))

ground_texts : (before : List Item) (cs : List TreeClause) (n : ℕ) → n ≡ suc (count 3 before) → spelled (item_lines before (ground_items cs)) ≡ numbered_lines format.ground_line n cs
ground_texts before [] n e = refl
ground_texts before (c ∷ cs) n e =
    let i : Item = record { clause = c; note = ground_of } in
    ap₂ (λ (x y : List ℕ). x ++ y) (ap (λ (k : ℕ). line_text (item k c ground_of)) (sym e) ∙ ground_line_is n c) (ground_texts (before ++ i ∷ []) cs (n + 1) (counts before i n e 3 refl refl))

line_texts : (before : List Item) (gs : List GroundLine) (n : ℕ) → n ≡ suc (count 3 before) → spelled (item_lines before (line_items gs)) ≡ numbered_lines format.ground_line_by n gs
line_texts before [] n e = refl
line_texts before (g ∷ gs) n e =
    let i : Item = record { clause = g.clause; note = ground_by g.input g.terms } in
    ap₂ (λ (x y : List ℕ). x ++ y) (ap (λ (k : ℕ). line_text (item k g.clause (ground_by g.input g.terms))) (sym e) ∙ ground_line_by_is n g) (line_texts (before ++ i ∷ []) gs (n + 1) (counts before i n e 3 refl refl))

shown_texts : (before : List Item) (cs : List TreeClause) (bys : List By) (n : ℕ) → n ≡ suc (count 5 before) → spelled (item_lines before (shown_items cs bys)) ≡ paired_lines format.shown_line n cs bys
shown_texts before [] bys n e = refl
shown_texts before (c ∷ cs) [] n e = refl
shown_texts before (c ∷ cs) (b ∷ bys) n e =
    let i : Item = record { clause = c; note = input_by b } in
    ap₂ (λ (x y : List ℕ). x ++ y) (ap (λ (k : ℕ). line_text (item k c (input_by b))) (sym e) ∙ shown_line_is n c b) (shown_texts (before ++ i ∷ []) cs bys (n + 1) (counts before i n e 5 refl refl))

cover_texts : (before : List Item) (vs : List Cover) (n : ℕ) → n ≡ suc (count 6 before) → spelled (item_lines before (cover_items vs)) ≡ numbered_lines format.cover_line n vs
cover_texts before [] n e = refl
cover_texts before (v ∷ vs) n e =
    let i : Item = record { clause = v.clause; note = side_by v.left v.right v.side v.by } in
    ap₂ (λ (x y : List ℕ). x ++ y) (ap (λ (k : ℕ). line_text (item k v.clause (side_by v.left v.right v.side v.by))) (sym e) ∙ cover_line_is n v) (cover_texts (before ++ i ∷ []) vs (n + 1) (counts before i n e 6 refl refl))

step_texts : (before : List Item) (ss : List (Step Tree)) (n : ℕ) → n ≡ suc (count 4 before) → spelled (item_lines before (step_items ss)) ≡ numbered_lines format.step_line n ss
step_texts before [] n e = refl
step_texts before (s ∷ ss) n e =
    let i : Item = record { clause = s.clause; note = shown_by s.hints } in
    ap₂ (λ (x y : List ℕ). x ++ y) (ap (λ (k : ℕ). line_text (item k s.clause (shown_by s.hints))) (sym e) ∙ step_line_is n s) (step_texts (before ++ i ∷ []) ss (n + 1) (counts before i n e 4 refl refl))

-- ---- groups one behind the other

pub lines_append : (before is js : List Item) → item_lines before (is ++ js) ≡ item_lines before is ++ item_lines (before ++ is) js
lines_append before [] js = ap (λ (b : List Item). item_lines b js) (sym (append-nil before))
lines_append before (i ∷ is) js =
    ap (λ (ls : List Line). item (suc (count (rank i.note) before)) i.clause i.note ∷ ls)
    (lines_append (before ++ i ∷ []) is js ∙ ap (λ (b : List Item). item_lines (before ++ i ∷ []) is ++ item_lines b js) (append_assoc before (i ∷ []) is))

pub count_append : (k : ℕ) (is js : List Item) → count k (is ++ js) ≡ count k is + count k js
count_append k [] js = omega arith
count_append k (i ∷ is) js = by (nat_eq (rank i.note) k) (count_append k is js)
  where
    by : (t : Bool) → count k (is ++ js) ≡ count k is + count k js → cond t (suc (count k (is ++ js))) (count k (is ++ js)) ≡ cond t (suc (count k is)) (count k is) + count k js
    by true h = omega arith
    by false h = h

pub input_ranks : (cs : List TreeClause) (ws : List (List ℕ)) → list_all (λ (i : Item). nat_eq (rank i.note) 0) (input_items cs ws) ≡ true
input_ranks [] ws = refl
input_ranks (c ∷ cs) [] = refl
input_ranks (c ∷ cs) (w ∷ ws) = input_ranks cs ws

pub axiom_ranks : (cs : List TreeClause) → list_all (λ (i : Item). nat_eq (rank i.note) 1) (axiom_items cs) ≡ true
axiom_ranks [] = refl
axiom_ranks (c ∷ cs) = axiom_ranks cs

pub member_ranks : (es : List Entry) → list_all (λ (i : Item). nat_eq (rank i.note) 2) (member_items es) ≡ true
member_ranks [] = refl
member_ranks (e ∷ es) = member_ranks es

pub selected_ranks : (es : List Entry) (ps : List ℕ) → list_all (λ (i : Item). nat_eq (rank i.note) 2) (selected_items es ps) ≡ true
selected_ranks [] ps = refl
selected_ranks (e ∷ es) [] = refl
selected_ranks (e ∷ es) (p ∷ ps) = selected_ranks es ps

pub ground_ranks : (cs : List TreeClause) → list_all (λ (i : Item). nat_eq (rank i.note) 3) (ground_items cs) ≡ true
ground_ranks [] = refl
ground_ranks (c ∷ cs) = ground_ranks cs

pub line_ranks : (gs : List GroundLine) → list_all (λ (i : Item). nat_eq (rank i.note) 3) (line_items gs) ≡ true
line_ranks [] = refl
line_ranks (g ∷ gs) = line_ranks gs

pub shown_ranks : (cs : List TreeClause) (bys : List By) → list_all (λ (i : Item). nat_eq (rank i.note) 5) (shown_items cs bys) ≡ true
shown_ranks [] bys = refl
shown_ranks (c ∷ cs) [] = refl
shown_ranks (c ∷ cs) (b ∷ bys) = shown_ranks cs bys

pub cover_ranks : (vs : List Cover) → list_all (λ (i : Item). nat_eq (rank i.note) 6) (cover_items vs) ≡ true
cover_ranks [] = refl
cover_ranks (v ∷ vs) = cover_ranks vs

pub step_ranks : (ss : List (Step Tree)) → list_all (λ (i : Item). nat_eq (rank i.note) 4) (step_items ss) ≡ true
step_ranks [] = refl
step_ranks (s ∷ ss) = step_ranks ss

-- a group has none of another rank, and all of its own
pub count_other : (r k : ℕ) (is : List Item) → list_all (λ (i : Item). nat_eq (rank i.note) r) is ≡ true → nat_eq r k ≡ false → count k is ≡ 0
count_other r k [] h n = refl
count_other r k (i ∷ is) h n =
    let a = and_parts (nat_eq (rank i.note) r) _ h in
    let e = number_is (rank i.note) r a.0 in
    let f : nat_eq (rank i.note) k ≡ false = ap (λ (j : ℕ). nat_eq j k) e ∙ n in
    ap (λ (b : Bool). cond b (suc (count k is)) (count k is)) f ∙ count_other r k is a.1 n

pub count_own : (k : ℕ) (is : List Item) → list_all (λ (i : Item). nat_eq (rank i.note) k) is ≡ true → count k is ≡ length is
count_own k [] h = refl
count_own k (i ∷ is) h =
    let a = and_parts (nat_eq (rank i.note) k) _ h in
    let c = count_own k is a.1 in
    ap (λ (b : Bool). cond b (suc (count k is)) (count k is)) a.0 ∙ omega arith

-- ---- the whole text

split : (before is js : List Item) → spelled (item_lines before (is ++ js)) ≡ spelled (item_lines before is) ++ spelled (item_lines (before ++ is) js)
split before is js = ap spelled (lines_append before is js) ∙ texts_append line_text step is_done nothing exact (item_lines before is) (item_lines (before ++ is) js)

base_counts : (cs : List TreeClause) (ws : List (List ℕ)) (as_ : List TreeClause) (k : ℕ) → nat_eq 0 k ≡ false → nat_eq 1 k ≡ false → 1 ≡ suc (count k (input_items cs ws ++ axiom_items as_))
base_counts cs ws as_ k p q = omega (arith, count_append k (input_items cs ws) (axiom_items as_), count_other 0 k (input_items cs ws) (input_ranks cs ws) p, count_other 1 k (axiom_items as_) (axiom_ranks as_) q)

of_refutation : (s o f k a b c d e z : List ℕ) → ((((((((s ++ o) ++ f) ++ k) ++ a) ++ b) ++ c) ++ d) ++ e) ++ z ≡ s ++ (o ++ (f ++ (k ++ ((a ++ (b ++ (c ++ (d ++ e)))) ++ (z ++ [])))))
of_refutation s o f k a b c d e z = simp (append_assoc, append-nil)

of_saturation : (s o f a b c z : List ℕ) → (((((s ++ o) ++ f) ++ a) ++ b) ++ c) ++ z ≡ s ++ (o ++ (f ++ ((a ++ (b ++ c)) ++ (z ++ []))))
of_saturation s o f a b c z = simp (append_assoc, append-nil)

of_covered : (s o f a b c d e z : List ℕ) → (((((((s ++ o) ++ f) ++ a) ++ b) ++ c) ++ d) ++ e) ++ z ≡ s ++ (o ++ (f ++ ((a ++ (b ++ (c ++ (d ++ e)))) ++ (z ++ []))))
of_covered s o f a b c d e z = simp (append_assoc, append-nil)

version_is : (f : ℕ) → line_text (version f) ≡ format.format_line f
version_is f = sym (append_assoc (codes "% instgen certificate ") (decimal f) (10 ∷ []))

pub text_is : (f : ℕ) (name : List ℕ) (v : Certificate) → certificate_text f name v ≡ spelled (lines_of f name v)
text_is f name (first_refutation c) =
    let A = input_items c.base.inputs c.base.names in
    let B = axiom_items c.base.axioms in
    let C = member_items c.base.members in
    let D = ground_items c.grounds in
    let E = step_items c.steps in
    let cA : 1 ≡ suc (count 1 A) = omega (arith, count_other 0 1 A (input_ranks c.base.inputs c.base.names) refl) in
    let cC : 1 ≡ suc (count 3 ((A ++ B) ++ C)) = omega (arith, count_append 3 (A ++ B) C, base_counts c.base.inputs c.base.names c.base.axioms 3 refl refl, count_other 2 3 C (member_ranks c.base.members) refl) in
    let cD : 1 ≡ suc (count 4 (((A ++ B) ++ C) ++ D)) = omega (arith, count_append 4 ((A ++ B) ++ C) D, count_append 4 (A ++ B) C, base_counts c.base.inputs c.base.names c.base.axioms 4 refl refl, count_other 2 4 C (member_ranks c.base.members) refl, count_other 3 4 D (ground_ranks c.grounds) refl) in
    let items : spelled (item_lines [] (items_of (first_refutation c))) ≡ paired_lines format.input_line 1 c.base.inputs c.base.names ++ (numbered_lines format.axiom_line 1 c.base.axioms ++ (numbered_lines format.member_line 1 c.base.members ++ (numbered_lines format.ground_line 1 c.grounds ++ numbered_lines format.step_line 1 c.steps)))
    = split [] A (B ++ (C ++ (D ++ E))) ∙ ap₂ (λ (x y : List ℕ). x ++ y) (input_texts [] c.base.inputs c.base.names 1 refl)
    (split A B (C ++ (D ++ E)) ∙ ap₂ (λ (x y : List ℕ). x ++ y) (axiom_texts A c.base.axioms 1 cA)
    (split (A ++ B) C (D ++ E) ∙ ap₂ (λ (x y : List ℕ). x ++ y) (member_texts (A ++ B) c.base.members 1 (base_counts c.base.inputs c.base.names c.base.axioms 2 refl refl))
    (split ((A ++ B) ++ C) D E ∙ ap₂ (λ (x y : List ℕ). x ++ y) (ground_texts ((A ++ B) ++ C) c.grounds 1 cC) (step_texts (((A ++ B) ++ C) ++ D) c.steps 1 cD)))) in
    let tail : spelled (item_lines [] (items_of (first_refutation c)) ++ closing true name ∷ []) ≡ spelled (item_lines [] (items_of (first_refutation c))) ++ (line_text (closing true name) ++ [])
    = texts_append line_text step is_done nothing exact (item_lines [] (items_of (first_refutation c))) (closing true name ∷ []) in
    of_refutation (format.status_line (codes "Unsatisfiable") name) (format.start_line (codes "CNFRefutation") name) (format.format_line f) (format.constant_line c.bot) _ _ _ _ _ (format.end_line (codes "CNFRefutation") name)
    ∙ sym (ap₂ (λ (x y : List ℕ). x ++ y) (status_is (codes "Unsatisfiable") name) (ap₂ (λ (x y : List ℕ). x ++ y) (start_is (codes "CNFRefutation") name) (ap₂ (λ (w x : List ℕ). w ++ (format.constant_line c.bot ++ x)) (version_is f) (tail ∙ ap₂ (λ (x y : List ℕ). x ++ (y ++ [])) items (end_is (codes "CNFRefutation") name)))))
text_is f name (refutation c) =
    let A = input_items c.base.inputs c.base.names in
    let B = axiom_items c.base.axioms in
    let C = member_items c.base.members in
    let D = line_items c.grounds in
    let E = step_items c.steps in
    let cA : 1 ≡ suc (count 1 A) = omega (arith, count_other 0 1 A (input_ranks c.base.inputs c.base.names) refl) in
    let cC : 1 ≡ suc (count 3 ((A ++ B) ++ C)) = omega (arith, count_append 3 (A ++ B) C, base_counts c.base.inputs c.base.names c.base.axioms 3 refl refl, count_other 2 3 C (member_ranks c.base.members) refl) in
    let cD : 1 ≡ suc (count 4 (((A ++ B) ++ C) ++ D)) = omega (arith, count_append 4 ((A ++ B) ++ C) D, count_append 4 (A ++ B) C, base_counts c.base.inputs c.base.names c.base.axioms 4 refl refl, count_other 2 4 C (member_ranks c.base.members) refl, count_other 3 4 D (line_ranks c.grounds) refl) in
    let items : spelled (item_lines [] (items_of (refutation c))) ≡ paired_lines format.input_line 1 c.base.inputs c.base.names ++ (numbered_lines format.axiom_line 1 c.base.axioms ++ (numbered_lines format.member_line 1 c.base.members ++ (numbered_lines format.ground_line_by 1 c.grounds ++ numbered_lines format.step_line 1 c.steps)))
    = split [] A (B ++ (C ++ (D ++ E))) ∙ ap₂ (λ (x y : List ℕ). x ++ y) (input_texts [] c.base.inputs c.base.names 1 refl)
    (split A B (C ++ (D ++ E)) ∙ ap₂ (λ (x y : List ℕ). x ++ y) (axiom_texts A c.base.axioms 1 cA)
    (split (A ++ B) C (D ++ E) ∙ ap₂ (λ (x y : List ℕ). x ++ y) (member_texts (A ++ B) c.base.members 1 (base_counts c.base.inputs c.base.names c.base.axioms 2 refl refl))
    (split ((A ++ B) ++ C) D E ∙ ap₂ (λ (x y : List ℕ). x ++ y) (line_texts ((A ++ B) ++ C) c.grounds 1 cC) (step_texts (((A ++ B) ++ C) ++ D) c.steps 1 cD)))) in
    let tail : spelled (item_lines [] (items_of (refutation c)) ++ closing true name ∷ []) ≡ spelled (item_lines [] (items_of (refutation c))) ++ (line_text (closing true name) ++ [])
    = texts_append line_text step is_done nothing exact (item_lines [] (items_of (refutation c))) (closing true name ∷ []) in
    of_refutation (format.status_line (codes "Unsatisfiable") name) (format.start_line (codes "CNFRefutation") name) (format.format_line f) (format.constant_line c.bot) _ _ _ _ _ (format.end_line (codes "CNFRefutation") name)
    ∙ sym (ap₂ (λ (x y : List ℕ). x ++ y) (status_is (codes "Unsatisfiable") name) (ap₂ (λ (x y : List ℕ). x ++ y) (start_is (codes "CNFRefutation") name) (ap₂ (λ (w x : List ℕ). w ++ (format.constant_line c.bot ++ x)) (version_is f) (tail ∙ ap₂ (λ (x y : List ℕ). x ++ (y ++ [])) items (end_is (codes "CNFRefutation") name)))))
text_is f name (saturation c) =
    let A = input_items c.base.inputs c.base.names in
    let B = axiom_items c.base.axioms in
    let C = selected_items c.base.members c.places in
    let cA : 1 ≡ suc (count 1 A) = omega (arith, count_other 0 1 A (input_ranks c.base.inputs c.base.names) refl) in
    let items : spelled (item_lines [] (items_of (saturation c))) ≡ paired_lines format.input_line 1 c.base.inputs c.base.names ++ (numbered_lines format.axiom_line 1 c.base.axioms ++ paired_lines format.selected_line 1 c.base.members c.places)
    = split [] A (B ++ C) ∙ ap₂ (λ (x y : List ℕ). x ++ y) (input_texts [] c.base.inputs c.base.names 1 refl)
    (split A B C ∙ ap₂ (λ (x y : List ℕ). x ++ y) (axiom_texts A c.base.axioms 1 cA) (selected_texts (A ++ B) c.base.members c.places 1 (base_counts c.base.inputs c.base.names c.base.axioms 2 refl refl))) in
    let tail : spelled (item_lines [] (items_of (saturation c)) ++ closing false name ∷ []) ≡ spelled (item_lines [] (items_of (saturation c))) ++ (line_text (closing false name) ++ [])
    = texts_append line_text step is_done nothing exact (item_lines [] (items_of (saturation c))) (closing false name ∷ []) in
    of_saturation (format.status_line (codes "Satisfiable") name) (format.start_line (codes "Saturation") name) (format.format_line f) _ _ _ (format.end_line (codes "Saturation") name)
    ∙ sym (ap₂ (λ (x y : List ℕ). x ++ y) (status_is (codes "Satisfiable") name) (ap₂ (λ (x y : List ℕ). x ++ y) (start_is (codes "Saturation") name) (ap₂ (λ (w x : List ℕ). w ++ x) (version_is f) (tail ∙ ap₂ (λ (x y : List ℕ). x ++ (y ++ [])) items (end_is (codes "Saturation") name)))))
text_is f name (covered c) =
    let b = c.saturation.base in
    let A = input_items b.inputs b.names in
    let B = axiom_items b.axioms in
    let C = selected_items b.members c.saturation.places in
    let D = shown_items (b.inputs ++ b.axioms) c.shown in
    let E = cover_items c.covers in
    let cA : 1 ≡ suc (count 1 A) = omega (arith, count_other 0 1 A (input_ranks b.inputs b.names) refl) in
    let cC : 1 ≡ suc (count 5 ((A ++ B) ++ C)) = omega (arith, count_append 5 (A ++ B) C, base_counts b.inputs b.names b.axioms 5 refl refl, count_other 2 5 C (selected_ranks b.members c.saturation.places) refl) in
    let cD : 1 ≡ suc (count 6 (((A ++ B) ++ C) ++ D)) = omega (arith, count_append 6 ((A ++ B) ++ C) D, count_append 6 (A ++ B) C, base_counts b.inputs b.names b.axioms 6 refl refl, count_other 2 6 C (selected_ranks b.members c.saturation.places) refl, count_other 5 6 D (shown_ranks (b.inputs ++ b.axioms) c.shown) refl) in
    let items : spelled (item_lines [] (items_of (covered c))) ≡ paired_lines format.input_line 1 b.inputs b.names ++ (numbered_lines format.axiom_line 1 b.axioms ++ (paired_lines format.selected_line 1 b.members c.saturation.places ++ (paired_lines format.shown_line 1 (b.inputs ++ b.axioms) c.shown ++ numbered_lines format.cover_line 1 c.covers)))
    = split [] A (B ++ (C ++ (D ++ E))) ∙ ap₂ (λ (x y : List ℕ). x ++ y) (input_texts [] b.inputs b.names 1 refl)
    (split A B (C ++ (D ++ E)) ∙ ap₂ (λ (x y : List ℕ). x ++ y) (axiom_texts A b.axioms 1 cA)
    (split (A ++ B) C (D ++ E) ∙ ap₂ (λ (x y : List ℕ). x ++ y) (selected_texts (A ++ B) b.members c.saturation.places 1 (base_counts b.inputs b.names b.axioms 2 refl refl))
    (split ((A ++ B) ++ C) D E ∙ ap₂ (λ (x y : List ℕ). x ++ y) (shown_texts ((A ++ B) ++ C) (b.inputs ++ b.axioms) c.shown 1 cC) (cover_texts (((A ++ B) ++ C) ++ D) c.covers 1 cD)))) in
    let tail : spelled (item_lines [] (items_of (covered c)) ++ closing false name ∷ []) ≡ spelled (item_lines [] (items_of (covered c))) ++ (line_text (closing false name) ++ [])
    = texts_append line_text step is_done nothing exact (item_lines [] (items_of (covered c))) (closing false name ∷ []) in
    of_covered (format.status_line (codes "Satisfiable") name) (format.start_line (codes "Saturation") name) (format.format_line f) _ _ _ _ _ (format.end_line (codes "Saturation") name)
    ∙ sym (ap₂ (λ (x y : List ℕ). x ++ y) (status_is (codes "Satisfiable") name) (ap₂ (λ (x y : List ℕ). x ++ y) (start_is (codes "Saturation") name) (ap₂ (λ (w x : List ℕ). w ++ x) (version_is f) (tail ∙ ap₂ (λ (x y : List ℕ). x ++ (y ++ [])) items (end_is (codes "Saturation") name)))))
