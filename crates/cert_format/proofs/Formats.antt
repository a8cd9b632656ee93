-- The machine of the formats is exact: one text, one list of lines.
use Rattle.std.proofs.Common.{◌≡◌, ℕ, suc, ◌<◌, ◌^◌, ◌⊎◌, inl, inr, Bool, true, false, List, [], ◌∷◌, ◌++◌, map, Some, refl, sym, ap, ap₂, ◌∙◌, subst, arith}
use Rattle.std.specs.Prelude.{◌&&◌, ◌||◌, nat_eq, nat_le, codes, decimal}
use Rattle.std.specs.List.{list_all}
use Rattle.std.specs.Str.{bytes_eq}
use Rattle.std.proofs.lemmas.Bool.Decides.{nat_tests}
use Rattle.std.proofs.lemmas.Slice.Eq.{bytes_eq-Decides}
use Rattle.inst_logic.specs.declared.symbol.Kind.{Kind}
use Rattle.inst_logic.specs.declared.symbol.Kind.TheVariants.{Predicate, Equality, Function}
use Rattle.inst_logic.specs.declared.signed.Signed.{Signed}
use Rattle.inst_logic.specs.Tree.{Tree, var, app, Trees, none, more}
use Rattle.inst_logic.specs.WellFormed.{count_of}
use Rattle.inst_logic.specs.Clauses.{TreeClause, IsCanonical, canonical_form}
use Rattle.inst_logic.specs.Equal.{bool_eq}
use Rattle.inst_logic.specs.EqualLaws.{bool_eq_decides}
use Rattle.inst_logic.specs.Printing.{is_readable_name, clause_text}
use Rattle.cert_format.specs.Spelling.{is_printable, are_printable}
use Rattle.cert_format.specs.Forms.{Form, plain, equal, form_atom, form_is_printable}
use Rattle.cert_format.specs.LineMachine.{is_number, Note, named, equality, member, selected, ground_of, shown_by, rank, Item, Header, Line, status, opening, version, constant, item, closing, State, nothing, begun, opened, awaits, body, done, fits, count, guarded, has_turn}
use Rattle.cert_format.specs.LineMachine as machine
use Rattle.cert_format.specs.Machines.{no_line_feed, IsLine, IsExact}
use Rattle.cert_format.specs.LineTexts.{status_word, letter, role, note_text, line, line_text, is_text_name, note_is_printable}
use Rattle.cert_format.specs.Formats.{clause_eq, symbol_is_printable, atom_is_printable, clause_is_printable, is_known, may_follow, step, is_done, AreLines, text_of_lines}
use Rattle.std.proofs.lemmas.Bool.{and_parts, and_from}
use Rattle.inst_logic.proofs.Numbers.{number_is}
use Rattle.cert_format.proofs.Runs.{one_split}
use Rattle.cert_format.proofs.Names.{names_once}
use Rattle.cert_format.proofs.Clauses.{one_clause}
use Rattle.cert_format.proofs.ClauseForms.{IsWritableClause, AreOfForms, IsOfForm, printable_forms, forms_printable, text_of_forms}
use Rattle.cert_format.proofs.LineMachine.{exact_lines, clause_eq_yes, clause_eq_itself}
use Rattle.cert_format.proofs.Marked.{marked_once}
use Rattle.cert_format.proofs.Spelling.{small_number}
use Rattle.cert_format.proofs.Machines.{one_reading}
use Rattle.cert_format.proofs.LineNotes.{behind_front, line_more, same_rank, note_once}
use Rattle.cert_format.proofs.WholeLines.{clean_text_name, status_is_line, opening_is_line, closing_is_line, version_is_line, constant_is_line, item_is_line}

-- ---- clauses

atom_by : (positive : Bool) (kind : Kind) (name : List ℕ) (arity : ℕ) (ts : Trees) → (symbol_is_printable kind name arity (count_of ts) && are_printable ts) ≡ true → IsOfForm (record { positive = positive; atom = app (record { kind = kind; name = name; arity = arity }) ts })
atom_by positive Predicate name arity ts h =
    let a = and_parts _ (are_printable ts) h in
    let b = and_parts (is_readable_name name) _ a.0 in
    let n = number_is (count_of ts) arity b.1 in
    record { form = plain positive name ts; printable = and_from (is_readable_name name) (are_printable ts) b.0 a.1; is = λ i. record { positive = positive; atom = app (record { kind = Predicate; name = name; arity = n i }) ts } }
atom_by positive Function name arity ts h = absurd cc
atom_by positive Equality name arity (more t (more u none)) h =
    let a = and_parts _ (is_printable t && (is_printable u && true)) h in
    let b = and_parts (bytes_eq name (61 ∷ [])) _ a.0 in
    let n = number_is arity 2 (and_parts (nat_eq arity 2) _ b.1).0 in
    let e = (bytes_eq-Decides name (61 ∷ [])).0 b.0 in
    let p = and_parts (is_printable t) (is_printable u && true) a.1 in
    let q = and_parts (is_printable u) true p.1 in
    record { form = equal positive t u; printable = and_from (is_printable t) (is_printable u) p.0 q.0; is = λ i. record { positive = positive; atom = app (record { kind = Equality; name = sym e i; arity = sym n i }) (more t (more u none)) } }
atom_by positive Equality name arity none h = absurd (wrong (bytes_eq name (61 ∷ [])) (nat_eq arity 2) true h)
  where
    wrong : (x y z : Bool) → ((x && (y && false)) && z) ≡ true → ⊥
    wrong true true z h = cc
    wrong true false z h = cc
    wrong false y z h = cc
atom_by positive Equality name arity (more t none) h = absurd (wrong (bytes_eq name (61 ∷ [])) (nat_eq arity 2) (is_printable t && true) h)
  where
    wrong : (x y z : Bool) → ((x && (y && false)) && z) ≡ true → ⊥
    wrong true true z h = cc
    wrong true false z h = cc
    wrong false y z h = cc
atom_by positive Equality name arity (more t (more u (more v ts))) h = absurd (
    let a = and_parts _ (are_printable (more t (more u (more v ts)))) h in
    let b = and_parts (bytes_eq name (61 ∷ [])) _ a.0 in
    let c = number_is (count_of (more t (more u (more v ts)))) 2 (and_parts (nat_eq arity 2) _ b.1).1 in
    omega arith
    )

literal_of_form : (l : Signed Tree) → atom_is_printable l.atom ≡ true → IsOfForm l
literal_of_form l h = by l.positive l.atom h
  where
    by : (positive : Bool) (t : Tree) → atom_is_printable t ≡ true → IsOfForm (record { positive = positive; atom = t })
    by positive (var n) k = absurd cc
    by positive (app s ts) k = atom_by positive s.kind s.name s.arity ts k

clause_of_forms : (c : TreeClause) → list_all (λ (l : Signed Tree). atom_is_printable l.atom) c ≡ true → AreOfForms c
clause_of_forms [] h = record { forms = []; printable = refl; are = refl }
clause_of_forms (l ∷ c) h =
    let a = and_parts (atom_is_printable l.atom) _ h in
    let f = literal_of_form l a.0 in
    let g = clause_of_forms c a.1 in
    record { forms = f.form ∷ g.forms; printable = and_from (form_is_printable f.form) (list_all form_is_printable g.forms) f.printable g.printable; are = ap₂ (λ (x : Signed Tree) (xs : TreeClause). x ∷ xs) f.is g.are }

same_number : (n : ℕ) → nat_eq n n ≡ true
same_number n = grind (arith, nat_tests)

form_printable : (f : Form) → form_is_printable f ≡ true → atom_is_printable (form_atom f).atom ≡ true
form_printable (plain b name ts) h =
    let a = and_parts (is_readable_name name) (are_printable ts) h in
    and_from (is_readable_name name && nat_eq (count_of ts) (count_of ts)) (are_printable ts) (and_from (is_readable_name name) _ a.0 (same_number (count_of ts))) a.1
form_printable (equal b t u) h = let a = and_parts (is_printable t) (is_printable u) h in and_from (is_printable t) (is_printable u && true) a.0 (and_from (is_printable u) true a.1 refl)

forms_are_printable : (fs : List Form) → list_all form_is_printable fs ≡ true → list_all (λ (l : Signed Tree). atom_is_printable l.atom) (map form_atom fs) ≡ true
forms_are_printable [] h = refl
forms_are_printable (f ∷ fs) h = let a = and_parts (form_is_printable f) (list_all form_is_printable fs) h in and_from (atom_is_printable (form_atom f).atom) _ (form_printable f a.0) (forms_are_printable fs a.1)

-- the test is that of a printable clause
pub test_forms : (c : TreeClause) → clause_is_printable c ≡ true → AreOfForms c
test_forms c h = clause_of_forms c (and_parts (list_all (λ (l : Signed Tree). atom_is_printable l.atom) c) _ h).0

pub test_yes : (c : TreeClause) → clause_is_printable c ≡ true → IsWritableClause c
test_yes c h =
    let a = and_parts (list_all (λ (l : Signed Tree). atom_is_printable l.atom) c) (clause_eq (canonical_form c) c) h in
    let f = clause_of_forms c a.0 in
    subst IsWritableClause f.are (forms_printable f.forms f.printable (subst IsCanonical (sym f.are) (clause_eq_yes (canonical_form c) c a.1)))

pub test_is : (c : TreeClause) → IsWritableClause c → clause_is_printable c ≡ true
test_is c p =
    let f = printable_forms c p in
    and_from (list_all (λ (l : Signed Tree). atom_is_printable l.atom) c) (clause_eq (canonical_form c) c)
    (subst (λ (d : TreeClause). list_all (λ (l : Signed Tree). atom_is_printable l.atom) d ≡ true) f.are (forms_are_printable f.forms f.printable))
    (subst (λ (d : TreeClause). clause_eq d c ≡ true) (sym p.printable.canonical) (clause_eq_itself c))

-- ---- one text, one line

-- the same first byte and the same rest
pub first_two : (a b : ℕ) (x y : List ℕ) → a ∷ x ≡ b ∷ y → (a ≡ b) × (x ≡ y)
first_two a b x y h = (cc, cc)

-- what is known of an item that may follow
pub record IsNext (h : Header) (is : List Item) (n : ℕ) (c : TreeClause) (note : Note) : Type 0 where
  pub form : fits h note ≡ true
  pub at : n ≡ suc (count (rank note) is)
  pub fits_number : is_number n ≡ true
  pub clause_is : clause_is_printable c ≡ true
  pub note_is : note_is_printable note ≡ true
  pub turn : has_turn h is c note ≡ true

pub next_of : (h : Header) (is : List Item) (n : ℕ) (c : TreeClause) (note : Note) → may_follow h is n c note ≡ true → IsNext h is n c note
next_of h is n c note m =
    let a = and_parts (fits h note) _ m in
    let b = and_parts (nat_le (machine.last_rank is) (rank note)) _ a.1 in
    let d = and_parts (nat_eq n (suc (count (rank note) is))) _ b.1 in
    let q = and_parts (is_number n) _ d.1 in
    let f = and_parts (clause_is_printable c) _ q.1 in
    let t = and_parts (note_is_printable note) (has_turn h is c note) f.1 in
    record { form = a.0; at = number_is n (suc (count (rank note) is)) d.0; fits_number = q.0; clause_is = f.0; note_is = t.0; turn = t.1 }

item_once : (h : Header) (is : List Item) (n k : ℕ) (c d : TreeClause) (a b : Note) (x y : List ℕ) → IsNext h is n c a → IsNext h is k d b → line (item n c a) x ≡ line (item k d b) y → (item n c a ≡ item k d b) × (x ≡ y)
item_once h is n k c d a b x y p q e =
    let one = first_two (letter a) (letter b) _ _ (behind_front (codes "cnf(") _ _ e) in
    let same = same_rank a b one.0 in
    let nk : n ≡ k = p.at ∙ ap (λ (r : ℕ). suc (count r is)) same ∙ sym q.at in
    let X = 41 ∷ 46 ∷ 10 ∷ x in
    let Y = 41 ∷ 46 ∷ 10 ∷ y in
    let two = behind_front (decimal n) _ _ (one.1 ∙ ap (λ (j : ℕ). decimal j ++ 44 ∷ (role (rank b) ++ 44 ∷ (clause_text d ++ 44 ∷ note_text k b Y))) (sym nk)) in
    let three = behind_front (44 ∷ role (rank a)) _ _ (two ∙ ap (λ (j : ℕ). 44 ∷ (role j ++ 44 ∷ (clause_text d ++ 44 ∷ note_text k b Y))) (sym same)) in
    let four = behind_front (44 ∷ []) (clause_text c ++ 44 ∷ note_text n a X) (clause_text d ++ 44 ∷ note_text k b Y) three in
    let f = test_forms c p.clause_is in
    let g = test_forms d q.clause_is in
    let forms = one_clause f.forms g.forms (note_text n a X) (note_text k b Y) f.printable g.printable (sym (text_of_forms c f (note_text n a X)) ∙ four ∙ text_of_forms d g (note_text k b Y)) in
    let cd : c ≡ d = sym f.are ∙ ap (map form_atom) forms ∙ g.are in
    let five = behind_front (clause_text c) _ _ (four ∙ ap (λ (j : TreeClause). clause_text j ++ 44 ∷ note_text k b Y) (sym cd)) in
    let six = behind_front (44 ∷ []) (note_text n a X) (note_text k b Y) five ∙ ap (λ (j : ℕ). note_text j b Y) (sym nk) in
    let notes = note_once h n a b X Y same p.form q.form p.note_is q.note_is six in
    (λ i. item (nk i) (cd i) (notes.0 i), behind_front (41 ∷ 46 ∷ 10 ∷ []) x y notes.1)

-- names up to the line feed
name_once : (m n x y : List ℕ) → is_text_name m ≡ true → is_text_name n ≡ true → m ++ 10 ∷ x ≡ n ++ 10 ∷ y → (m ≡ n) × (x ≡ y)
name_once m n x y h k e =
    let r = one_split no_line_feed m n (10 ∷ x) (10 ∷ y) (clean_text_name m h) (clean_text_name n k) refl refl e in
    (r.0, behind_front (10 ∷ []) x y r.1)

abbrev pub first_byte : List ℕ → ℕ
first_byte [] = 0
first_byte (b ∷ bs) = b

-- texts with different first bytes
pub apart_by : (b : ℕ) (xs ys : List ℕ) → xs ≡ ys → nat_eq (first_byte xs) b ≡ true → nat_eq (first_byte ys) b ≡ false → ⊥
apart_by b xs ys e h k = let q : nat_eq (first_byte ys) b ≡ true = ap (λ (zs : List ℕ). nat_eq (first_byte zs) b) (sym e) ∙ h in cc

status_once : (r q : Bool) (m n x y : List ℕ) → is_text_name m ≡ true → is_text_name n ≡ true → line (status r m) x ≡ line (status q n) y → (status r m ≡ status q n) × (x ≡ y)
status_once r q m n x y h k e = by r q (behind_front (codes "% SZS status ") _ _ e)
  where
    by : (r q : Bool) → status_word r ++ (codes " for " ++ (m ++ 10 ∷ x)) ≡ status_word q ++ (codes " for " ++ (n ++ 10 ∷ y)) → (status r m ≡ status q n) × (x ≡ y)
    by true true e = let s = name_once m n x y h k (behind_front (codes "Unsatisfiable for ") _ _ e) in (ap (status true) s.0, s.1)
    by false false e = let s = name_once m n x y h k (behind_front (codes "Satisfiable for ") _ _ e) in (ap (status false) s.0, s.1)
    by true false e = absurd (apart_by 85 _ _ e refl refl)
    by false true e = absurd (apart_by 85 _ _ (sym e) refl refl)

-- ---- steps

pub guard_is : (b : Bool) (t u : State) → guarded b t ≡ Some u → b ≡ true
guard_is true t u h = refl
guard_is false t u h = absurd cc

same_header : (r q : Bool) (m n : List ℕ) → (bool_eq r q && bytes_eq m n) ≡ true → (r ≡ q) × (m ≡ n)
same_header r q m n h = let a = and_parts (bool_eq r q) (bytes_eq m n) h in ((bool_eq_decides r q).0 a.0, (bytes_eq-Decides m n).0 a.1)

-- lines with the same header, equal to each other
equal_lines : (l k m : Line) (x y : List ℕ) → l ≡ k → l ≡ m → line k x ≡ line m y → (k ≡ m) × (x ≡ y)
equal_lines l k m x y a b e =
    let same : k ≡ m = sym a ∙ b in
    let f = ap (λ (j : Line). line j y) (sym same) in
    (same, behind_front (line_text k) x y (line_more k [] x ∙ (e ∙ f) ∙ sym (line_more k [] y)))

-- the formats
pub read_format : (f : ℕ) → is_known f ≡ true → (f ≡ 1) ⊎ (f ≡ 2) ⊎ (f ≡ 3)
read_format f h = by (nat_eq f 1) (nat_eq f 2) (nat_eq f 3) refl refl refl h
  where
    by : (a b c : Bool) → nat_eq f 1 ≡ a → nat_eq f 2 ≡ b → nat_eq f 3 ≡ c → (a || (b || c)) ≡ true → (f ≡ 1) ⊎ (f ≡ 2) ⊎ (f ≡ 3)
    by true b c x y z k = inl (number_is f 1 x)
    by false true c x y z k = inr (inl (number_is f 2 y))
    by false false true x y z k = inr (inr (number_is f 3 z))
    by false false false x y z k = absurd cc

pub small_format : (f : ℕ) → is_known f ≡ true → f < 2 ^ 64
small_format f h = elim (read_format f h) [ inl e ↦ omega arith | inr (inl e) ↦ omega arith | inr (inr e) ↦ omega arith ]

once : (s t u : State) (l m : Line) (x y : List ℕ) → step s l ≡ Some t → step s m ≡ Some u → line l x ≡ line m y → (l ≡ m) × (x ≡ y)
once nothing t u (status r n) (status q k) x y a b e = status_once r q n k x y (guard_is _ _ _ a) (guard_is _ _ _ b) e
once (begun r n) t u (opening q k) (opening p j) x y a b e =
    let c = same_header r q n k (and_parts (is_text_name k) _ (guard_is _ _ _ a)).1 in
    let d = same_header r p n j (and_parts (is_text_name j) _ (guard_is _ _ _ b)).1 in
    equal_lines (opening r n) (opening q k) (opening p j) x y (ap₂ opening c.0 c.1) (ap₂ opening d.0 d.1) e
once (opened r n) t u (version f) (version g) x y a b e =
    let k = marked_once f g 10 x y (small_format f (guard_is _ _ _ a)) (small_format g (guard_is _ _ _ b)) refl (behind_front (codes "% instgen certificate ") _ _ e) in
    (ap version k.0, k.1)
once (awaits f n) t u (constant c) (constant d) x y a b e =
    let r = names_once c d (10 ∷ x) (10 ∷ y) (guard_is _ _ _ a) (guard_is _ _ _ b) refl refl (behind_front (codes "% ground constant ") _ _ e) in
    (ap constant r.0, behind_front (10 ∷ []) x y r.1)
once (body h is) t u (item n c note) (item k d other) x y a b e = item_once h is n k c d note other x y (next_of h is n c note (guard_is _ _ _ a)) (next_of h is k d other (guard_is _ _ _ b)) e
once (body h is) t u (item n c note) (closing q k) x y a b e = absurd (apart_by 99 _ _ e refl refl)
once (body h is) t u (closing q k) (item n c note) x y a b e = absurd (apart_by 99 _ _ (sym e) refl refl)
once (body h is) t u (closing q k) (closing p j) x y a b e =
    let c0 = and_parts (bool_eq h.refutation q) _ (and_parts (is_text_name k) _ (guard_is _ _ _ a)).1 in
    let d0 = and_parts (bool_eq h.refutation p) _ (and_parts (is_text_name j) _ (guard_is _ _ _ b)).1 in
    equal_lines (closing h.refutation h.name) (closing q k) (closing p j) x y (ap₂ closing ((bool_eq_decides h.refutation q).0 c0.0) ((bytes_eq-Decides h.name k).0 (and_parts (bytes_eq h.name k) _ c0.1).0)) (ap₂ closing ((bool_eq_decides h.refutation p).0 d0.0) ((bytes_eq-Decides h.name j).0 (and_parts (bytes_eq h.name j) _ d0.1).0)) e
once s t u l m x y a b e = absurd cc

whole : (s t : State) (l : Line) → step s l ≡ Some t → IsLine (line_text l)
whole nothing t (status r n) a = status_is_line r n (guard_is _ _ _ a)
whole (awaits f n) t (constant c) a = constant_is_line c (guard_is _ _ _ a)
whole (body h is) t (item n c note) a = let p = next_of h is n c note (guard_is _ _ _ a) in item_is_line n c note p.fits_number (test_forms c p.clause_is) p.note_is
whole (opened r n) t (version f) a = version_is_line f (small_number f (small_format f (guard_is _ _ _ a)))
whole (begun r n) t (opening q k) a = opening_is_line q k (and_parts (is_text_name k) _ (guard_is _ _ _ a)).0
whole (body h is) t (closing q k) a = closing_is_line q k (and_parts (is_text_name k) _ (guard_is _ _ _ a)).0
whole s t l a = absurd cc

-- lines by their texts
once_text : (s t u : State) (l m : Line) (x y : List ℕ) → step s l ≡ Some t → step s m ≡ Some u → line_text l ++ x ≡ line_text m ++ y → (l ≡ m) × (x ≡ y)
once_text s t u l m x y a b e = once s t u l m x y a b (sym (line_more l [] x) ∙ e ∙ line_more m [] y)

-- The machine is exact.
pub exact : IsExact line_text step is_done nothing
exact = exact_lines is_known refl is_text_name clause_is_printable note_is_printable refl (97 ∷ []) refl line_text whole once_text

pub one_list : (ls ms : List Line) → AreLines ls → AreLines ms → text_of_lines ls ≡ text_of_lines ms → ls ≡ ms
one_list ls ms a b e = one_reading line_text step is_done nothing exact ls ms a b e
