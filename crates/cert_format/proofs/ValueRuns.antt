-- The lines of a printable value run to the end.
use Rattle.std.proofs.Common.{◌≡◌, ◌≢◌, ℕ, suc, ◌+◌, ◌<◌, ◌≤◌, ◌^◌, Bool, true, false, cond, List, [], ◌∷◌, ◌++◌, length, length-append, inl, inr, Option, Some, refl, sym, ap, ap₂, ◌∙◌, subst, arith, append_assoc}
use Rattle.std.specs.Prelude.{◌&&◌, not, nat_eq, nat_le, nat_lt, slice_get, All, IsTrue}
use Rattle.std.specs.List.{list_all}
use Rattle.std.specs.Option.{option_and_then}
use Rattle.std.specs.Str.{bytes_eq}
use Rattle.std.proofs.lemmas.List.{append-nil}
use Rattle.std.proofs.lemmas.List.Elements.{All-head, All-tail, All-cons}
use Rattle.std.proofs.lemmas.Bool.Decides.{nat_tests}
use Rattle.std.proofs.lemmas.Slice.Eq.{bytes_eq-Decides}
use Rattle.inst_logic.specs.Tree.{Tree}
use Rattle.inst_logic.specs.Clauses.{TreeClause}
use Rattle.inst_logic.specs.Printing.{is_readable_name}
use Rattle.inst_calculus.specs.Entries.{Origin, input, inst, lemma, Entry}
use Rattle.inst_calculus.specs.Steps.{Step, Cited, given, earlier}
use Rattle.cert_format.specs.Certificate.{FirstRefutation, GroundLine, Refutation, Saturation, By, by_tautology, by_variant, by_part, Cover, Covered, Certificate, first_refutation, refutation, saturation, covered}
use Rattle.cert_format.specs.Spelling.{is_printable}
use Rattle.cert_format.proofs.LineMachine.{base_push, shown_push, at_length, clause_eq_itself, not_asked, met}
use Rattle.cert_format.specs.LineMachine as machine
use Rattle.cert_format.specs.Printable.{IsNumber, HasNumbers, cited_number, ArePrintableTerms, HasFormat, IsTextName}
use Rattle.cert_format.proofs.ClauseForms.{IsWritableClause}
use Rattle.cert_format.proofs.Writables.{IsWritableEntry, IsWritableStep, IsWritableRefutation, IsWritableLine, IsWritableByLines, IsWritableSaturation, IsWritableBy, IsWritableCover, IsWritableCovered, IsWritable, OriginsFit, origins_fit, later_two, format_is_known}
use Rattle.cert_format.specs.LineMachine.{is_number, named, equality, member, selected, ground_of, ground_by, shown_by, input_by, side_by, rank, fits_origin, names_covers, clauses_if, base_clauses, shown_clauses, is_this, are_shown, in_turn, has_turn, is_complete, Item, Header, Line, opening, version, constant, closing, count, State, nothing, begun, opened, body, done, fits, last_rank, guarded}
use Rattle.inst_logic.specs.Equal.{bool_eq}
use Rattle.inst_logic.specs.EqualLaws.{bool_eq_decides}
use Rattle.cert_format.specs.Machines as machines
use Rattle.cert_format.specs.Machines.{Ends}
use Rattle.cert_format.specs.LineTexts.{line_text, is_name_byte, is_text_name, origin_is_printable, by_is_printable, hint_is_printable, hints_are_printable, note_is_printable}
use Rattle.cert_format.specs.Formats.{clause_is_printable, is_known, may_follow, step, is_done, AreLines}
use Rattle.cert_format.specs.ValueLines.{input_items, axiom_items, member_items, selected_items, ground_items, line_items, shown_items, cover_items, step_items, items_of, item_lines, header_of, constant_lines, is_refutation, lines_of}
use Rattle.std.proofs.lemmas.Bool.{and_parts, and_from}
use Rattle.cert_format.proofs.Spelling.{small_number}
use Rattle.cert_format.proofs.Formats.{test_is}
use Rattle.cert_format.proofs.GroupItems.{last_push, all_append, axioms_length, members_length, grounds_length, steps_length}
use Rattle.inst_logic.proofs.Numbers.{number_is, less_equal, less_yes}
use Rattle.cert_format.proofs.LineTexts.{count_append, count_other, count_own, input_ranks, axiom_ranks, member_ranks, selected_ranks, ground_ranks, line_ranks, shown_ranks, cover_ranks, step_ranks}

-- ---- items in the order of the text

abbrev pub IsSorted : ℕ → List Item → Type 0
IsSorted k [] = Unit {0}
IsSorted k (i ∷ is) = (k ≤ rank i.note) × IsSorted (rank i.note) is

sorted_weaker : (j k : ℕ) (is : List Item) → j ≤ k → IsSorted k is → IsSorted j is
sorted_weaker j k [] h s = tt
sorted_weaker j k (i ∷ is) h s = let a = s.0 in (omega arith, s.1)

sorted_group : (j k : ℕ) (is js : List Item) → list_all (λ (i : Item). nat_eq (rank i.note) k) is ≡ true → j ≤ k → IsSorted k js → IsSorted j (is ++ js)
sorted_group j k [] js h l s = sorted_weaker j k js l s
sorted_group j k (i ∷ is) js h l s =
    let a = and_parts (nat_eq (rank i.note) k) _ h in
    let e = number_is (rank i.note) k a.0 in
    (omega arith, subst (λ (r : ℕ). IsSorted r (is ++ js)) (sym e) (sorted_group k k is js a.1 (omega arith) s))

abbrev pub good : Header → Item → Bool
good h i = fits h i.note && (clause_is_printable i.clause && note_is_printable i.note)

same_number : (n : ℕ) → nat_eq n n ≡ true
same_number n = grind (arith, nat_tests)

follows : (h : Header) (before : List Item) (i : Item) → last_rank before ≤ rank i.note → good h i ≡ true → has_turn h before i.clause i.note ≡ true → suc (count (rank i.note) before) < 2 ^ 64 → may_follow h before (suc (count (rank i.note) before)) i.clause i.note ≡ true
follows h before i l g turn few =
    let n = suc (count (rank i.note) before) in
    let a = and_parts (fits h i.note) _ g in
    let b = and_parts (clause_is_printable i.clause) (note_is_printable i.note) a.1 in
    and_from (fits h i.note) _ a.0 (and_from (nat_le (last_rank before) (rank i.note)) _ (less_equal (last_rank before) (rank i.note) l) (and_from (nat_eq n n) _ (same_number n)
    (and_from (is_number n) _ (small_number n few) (and_from (clause_is_printable i.clause) _ b.0 (and_from (note_is_printable i.note) _ b.1 turn)))))

-- the run of the machine over the lines
abbrev pub run : State → List Line → Option State
run = machines.run line_text step is_done

rank_count : (k : ℕ) (before is : List Item) (i : Item) → rank i.note ≡ k → count k (before ++ i ∷ is) < 2 ^ 64 → suc (count k before) < 2 ^ 64
rank_count k before is i e h =
    let a = count_append k before (i ∷ is) in
    let b : count k (i ∷ is) ≡ suc (count k is) = ap (λ (t : Bool). cond t (suc (count k is)) (count k is)) (ap (λ (j : ℕ). nat_eq j k) e ∙ same_number k) in
    omega arith

-- each item is in turn behind those before it
abbrev pub InTurn : Header → List Item → List Item → Type 0
InTurn h before [] = Unit {0}
InTurn h before (i ∷ is) = (has_turn h before i.clause i.note ≡ true) × InTurn h (before ++ i ∷ []) is

run_items : (h : Header) (before is : List Item) (rest : List Line) → IsSorted (last_rank before) is → list_all (good h) is ≡ true → InTurn h before is → ((k : ℕ) → count k (before ++ is) < 2 ^ 64) → run (body h before) (item_lines before is ++ rest) ≡ run (body h (before ++ is)) rest
run_items h before [] rest s g turn few = ap (λ (b : List Item). run (body h b) rest) (sym (append-nil before))
run_items h before (i ∷ is) rest s g turn few =
    let a = and_parts (good h i) _ g in
    let m = follows h before i s.0 a.0 turn.0 (rank_count (rank i.note) before is i refl (few (rank i.note))) in
    let group = append_assoc before (i ∷ []) is in
    ap (λ (t : Bool). option_and_then (λ (u : State). run u (item_lines (before ++ i ∷ []) is ++ rest)) (guarded t (body h (before ++ i ∷ [])))) m
    ∙ run_items h (before ++ i ∷ []) is rest (subst (λ (r : ℕ). IsSorted r is) (sym (last_push 0 before i)) s.1) a.1 turn.1 (λ k. subst (λ (b : List Item). count k b < 2 ^ 64) (sym group) (few k))
    ∙ ap (λ (b : List Item). run (body h b) rest) group

-- ---- printable values

number_yes : (n : ℕ) → IsNumber n → is_number n ≡ true
number_yes n h = small_number n h

numbers_yes : (ns : List ℕ) → All IsNumber ns → list_all is_number ns ≡ true
numbers_yes [] a = refl
numbers_yes (n ∷ ns) a = and_from (is_number n) _ (number_yes n (All-head IsNumber n ns a)) (numbers_yes ns (All-tail IsNumber n ns a))

pub origin_yes : (o : Origin) → HasNumbers o → origin_is_printable o ≡ true
origin_yes (input k) h = number_yes k h
origin_yes (inst a p b q) h = and_from (is_number a) _ (number_yes a h.0) (and_from (is_number p) _ (number_yes p h.1) (and_from (is_number b) (is_number q) (number_yes b h.2) (number_yes q h.3)))
origin_yes (lemma a p b q ks ds) h =
    and_from (is_number a) _ (number_yes a h.0) (and_from (is_number p) _ (number_yes p h.1) (and_from (is_number b) _ (number_yes b h.2) (and_from (is_number q) _ (number_yes q h.3)
    (and_from (list_all is_number ks) (list_all is_number ds) (numbers_yes ks h.4) (numbers_yes ds h.5)))))

hint_yes : (h : Cited) → IsNumber (cited_number h) → hint_is_printable h ≡ true
hint_yes (given k) h = number_yes k h
hint_yes (earlier k) h = number_yes k h

all_hints : (hs : List Cited) → All (λ h. IsNumber (cited_number h)) hs → list_all hint_is_printable hs ≡ true
all_hints [] a = refl
all_hints (h ∷ hs) a = and_from (hint_is_printable h) _ (hint_yes h (All-head (λ (x : Cited). IsNumber (cited_number x)) h hs a)) (all_hints hs (All-tail (λ (x : Cited). IsNumber (cited_number x)) h hs a))

hints_yes : (hs : List Cited) → hs ≢ [] → All (λ h. IsNumber (cited_number h)) hs → hints_are_printable hs ≡ true
hints_yes [] n a = absurd (n refl)
hints_yes (h ∷ hs) n a = all_hints (h ∷ hs) a

byte_yes : (b : ℕ) → 32 ≤ b → b ≢ 127 → is_name_byte b ≡ true
byte_yes b h k = and_from (nat_le 32 b) (not (nat_eq b 127)) (less_equal 32 b h) (by (nat_eq b 127) refl)
  where
    by : (t : Bool) → nat_eq b 127 ≡ t → not (nat_eq b 127) ≡ true
    by true e = absurd (k (number_is b 127 e))
    by false e = ap not e

bytes_yes : (n : List ℕ) → All (λ b. (32 ≤ b) × (b ≢ 127)) n → list_all is_name_byte n ≡ true
bytes_yes [] a = refl
bytes_yes (b ∷ n) a =
    let h = All-head (λ (x : ℕ). (32 ≤ x) × (x ≢ 127)) b n a in
    and_from (is_name_byte b) _ (byte_yes b h.0 h.1) (bytes_yes n (All-tail (λ (x : ℕ). (32 ≤ x) × (x ≢ 127)) b n a))

pub name_yes : (n : List ℕ) → IsTextName n → is_text_name n ≡ true
name_yes n h = and_from (nat_lt 0 (length n)) _ (less_yes 0 (length n) h.some) (and_from (nat_le (length n) 4096) _ (less_equal (length n) 4096 h.short) (bytes_yes n h.bytes))

input_good : (h : Header) (cs : List TreeClause) (ws : List (List ℕ)) → All IsWritableClause cs → All (λ n. IsTrue (is_readable_name n)) ws → list_all (good h) (input_items cs ws) ≡ true
input_good h [] ws a b = refl
input_good h (c ∷ cs) [] a b = refl
input_good h (c ∷ cs) (w ∷ ws) a b =
    and_from (good h (record { clause = c; note = named w })) _
    (and_from (clause_is_printable c) _ (test_is c (All-head IsWritableClause c cs a)) (All-head (λ (n : List ℕ). IsTrue (is_readable_name n)) w ws b))
    (input_good h cs ws (All-tail IsWritableClause c cs a) (All-tail (λ (n : List ℕ). IsTrue (is_readable_name n)) w ws b))

axiom_good : (h : Header) (cs : List TreeClause) → All IsWritableClause cs → list_all (good h) (axiom_items cs) ≡ true
axiom_good h [] a = refl
axiom_good h (c ∷ cs) a = and_from (good h (record { clause = c; note = equality })) _ (and_from (clause_is_printable c) true (test_is c (All-head IsWritableClause c cs a)) refl) (axiom_good h cs (All-tail IsWritableClause c cs a))

terms_yes : (ts : List Tree) → ArePrintableTerms ts → list_all is_printable ts ≡ true
terms_yes [] a = refl
terms_yes (t ∷ ts) a = and_from (is_printable t) _ (All-head (λ (u : Tree). IsTrue (is_printable u)) t ts a) (terms_yes ts (All-tail (λ (u : Tree). IsTrue (is_printable u)) t ts a))

by_yes : (b : By) → IsWritableBy b → by_is_printable b ≡ true
by_yes by_tautology w = refl
by_yes (by_variant j) w = number_yes j w.numbers
by_yes (by_part j ts) w = and_from (is_number j) _ (number_yes j w.numbers) (terms_yes ts w.printable)

module _ (h : Header) where
  member_good : h.refutation ≡ true → (es : List Entry) → All IsWritableEntry es → OriginsFit h.format es → list_all (good h) (member_items es) ≡ true
  member_good r [] a b = refl
  member_good r (e ∷ es) a b =
      let p = All-head IsWritableEntry e es a in
      and_from (good h (record { clause = e.clause; note = member e.origin })) _
      (and_from (h.refutation && fits_origin h.format e.origin) _ (and_from h.refutation _ r (All-head (λ (x : Entry). fits_origin h.format x.origin ≡ true) e es b)) (and_from (clause_is_printable e.clause) _ (test_is e.clause p.clause) (origin_yes e.origin p.origin)))
      (member_good r es (All-tail IsWritableEntry e es a) (All-tail (λ (x : Entry). fits_origin h.format x.origin ≡ true) e es b))

  selected_good : not h.refutation ≡ true → (es : List Entry) (ps : List ℕ) → All IsWritableEntry es → OriginsFit h.format es → All IsNumber ps → list_all (good h) (selected_items es ps) ≡ true
  selected_good r [] ps a o b = refl
  selected_good r (e ∷ es) [] a o b = refl
  selected_good r (e ∷ es) (k ∷ ps) a o b =
      let p = All-head IsWritableEntry e es a in
      and_from (good h (record { clause = e.clause; note = selected e.origin k })) _
      (and_from (not h.refutation && fits_origin h.format e.origin) _ (and_from (not h.refutation) _ r (All-head (λ (x : Entry). fits_origin h.format x.origin ≡ true) e es o))
      (and_from (clause_is_printable e.clause) _ (test_is e.clause p.clause) (and_from (origin_is_printable e.origin) (is_number k) (origin_yes e.origin p.origin) (number_yes k (All-head IsNumber k ps b)))))
      (selected_good r es ps (All-tail IsWritableEntry e es a) (All-tail (λ (x : Entry). fits_origin h.format x.origin ≡ true) e es o) (All-tail IsNumber k ps b))

  ground_good : (h.refutation && nat_eq h.format 1) ≡ true → (cs : List TreeClause) → All IsWritableClause cs → list_all (good h) (ground_items cs) ≡ true
  ground_good r [] a = refl
  ground_good r (c ∷ cs) a =
      and_from (good h (record { clause = c; note = ground_of })) _
      (and_from (h.refutation && nat_eq h.format 1) _ r (and_from (clause_is_printable c) true (test_is c (All-head IsWritableClause c cs a)) refl)) (ground_good r cs (All-tail IsWritableClause c cs a))

  line_good : (h.refutation && not (nat_eq h.format 1)) ≡ true → (gs : List GroundLine) → All IsWritableLine gs → list_all (good h) (line_items gs) ≡ true
  line_good r [] a = refl
  line_good r (g ∷ gs) a =
      let p = All-head IsWritableLine g gs a in
      and_from (good h (record { clause = g.clause; note = ground_by g.input g.terms })) _
      (and_from (h.refutation && not (nat_eq h.format 1)) _ r (and_from (clause_is_printable g.clause) _ (test_is g.clause p.clause) (and_from (is_number g.input) _ (number_yes g.input p.input) (terms_yes g.terms p.terms))))
      (line_good r gs (All-tail IsWritableLine g gs a))

  step_good : h.refutation ≡ true → (ss : List (Step Tree)) → All IsWritableStep ss → list_all (good h) (step_items ss) ≡ true
  step_good r [] a = refl
  step_good r (s ∷ ss) a =
      let p = All-head IsWritableStep s ss a in
      and_from (good h (record { clause = s.clause; note = shown_by s.hints })) _
      (and_from h.refutation _ r (and_from (clause_is_printable s.clause) _ (test_is s.clause p.clause) (hints_yes s.hints p.hinted p.hints)))
      (step_good r ss (All-tail IsWritableStep s ss a))

  shown_good : names_covers h ≡ true → (cs : List TreeClause) (bys : List By) → All IsWritableClause cs → All IsWritableBy bys → list_all (good h) (shown_items cs bys) ≡ true
  shown_good r [] bys a b = refl
  shown_good r (c ∷ cs) [] a b = refl
  shown_good r (c ∷ cs) (d ∷ bys) a b =
      and_from (good h (record { clause = c; note = input_by d })) _
      (and_from (names_covers h) _ r (and_from (clause_is_printable c) _ (test_is c (All-head IsWritableClause c cs a)) (by_yes d (All-head IsWritableBy d bys b))))
      (shown_good r cs bys (All-tail IsWritableClause c cs a) (All-tail IsWritableBy d bys b))

  cover_good : names_covers h ≡ true → (vs : List Cover) → All IsWritableCover vs → list_all (good h) (cover_items vs) ≡ true
  cover_good r [] a = refl
  cover_good r (v ∷ vs) a =
      let p = All-head IsWritableCover v vs a in
      and_from (good h (record { clause = v.clause; note = side_by v.left v.right v.side v.by })) _
      (and_from (names_covers h) _ r (and_from (clause_is_printable v.clause) _ (test_is v.clause p.clause) (and_from (is_number v.left) _ (number_yes v.left p.left) (and_from (is_number v.right) _ (number_yes v.right p.right) (by_yes v.by p.by)))))
      (cover_good r vs (All-tail IsWritableCover v vs a))

both_writable : (cs ds : List TreeClause) → All IsWritableClause cs → All IsWritableClause ds → All IsWritableClause (cs ++ ds)
both_writable [] ds a b = b
both_writable (c ∷ cs) ds a b = All-cons IsWritableClause c (cs ++ ds) (All-head IsWritableClause c cs a) (both_writable cs ds (All-tail IsWritableClause c cs a) b)

-- ---- how many

input_length : (cs : List TreeClause) (ws : List (List ℕ)) → length (input_items cs ws) ≤ length cs
input_length [] ws = omega arith
input_length (c ∷ cs) [] = omega arith
input_length (c ∷ cs) (w ∷ ws) = omega (arith, input_length cs ws)

selected_length : (es : List Entry) (ps : List ℕ) → length (selected_items es ps) ≤ length es
selected_length [] ps = omega arith
selected_length (e ∷ es) [] = omega arith
selected_length (e ∷ es) (p ∷ ps) = omega (arith, selected_length es ps)

lines_length : (gs : List GroundLine) → length (line_items gs) ≡ length gs
lines_length [] = refl
lines_length (g ∷ gs) = ap suc (lines_length gs)

shown_length : (cs : List TreeClause) (bys : List By) → length (shown_items cs bys) ≤ length bys
shown_length [] bys = omega arith
shown_length (c ∷ cs) [] = omega arith
shown_length (c ∷ cs) (b ∷ bys) = omega (arith, shown_length cs bys)

covers_length : (vs : List Cover) → length (cover_items vs) ≡ length vs
covers_length [] = refl
covers_length (v ∷ vs) = ap suc (covers_length vs)

-- groups of different ranks: the count of a rank is at most the length of one of them
abbrev pub Few : ℕ → List Item → Type 0
Few m is = (k : ℕ) → count k is < m

few_group : (m r : ℕ) (is js : List Item) → list_all (λ (i : Item). nat_eq (rank i.note) r) is ≡ true → length is < m → count r js ≡ 0 → Few m js → Few m (is ++ js)
few_group m r is js h less none_ few k = by (nat_eq r k) refl
  where
    by : (t : Bool) → nat_eq r k ≡ t → count k (is ++ js) < m
    by true e =
        let rk = number_is r k e in
        let a : count r (is ++ js) ≡ count r is + count r js = count_append r is js in
        let b = count_own r is h in
        subst (λ (j : ℕ). count j (is ++ js) < m) rk (omega arith)
    by false e = let a = count_append k is js in let b = count_other r k is h e in let c = few k in omega arith

-- ---- the whole run

same_bytes : (n : List ℕ) → bytes_eq n n ≡ true
same_bytes n = (bytes_eq-Decides n n).1 refl

sorted_nil : (k : ℕ) (is : List Item) → list_all (λ (i : Item). nat_eq (rank i.note) k) is ≡ true → IsSorted k is
sorted_nil k is h = subst (IsSorted k) (append-nil is) (sorted_group k k is [] h (omega arith) tt)

few_last : (m r : ℕ) (is : List Item) → list_all (λ (i : Item). nat_eq (rank i.note) r) is ≡ true → length is < m → Few m is
few_last m r is h less k = let a = few_group m r is [] h less refl (λ j. omega arith) k in subst (λ (js : List Item). count k js < m) (append-nil is) a

-- ---- items in turn

-- where no covers are named, nothing is asked
no_turn : (h : Header) → names_covers h ≡ false → (before is : List Item) → InTurn h before is
no_turn h e before [] = tt
no_turn h e before (i ∷ is) = (not_asked (names_covers h) (in_turn before i.clause i.note) e, no_turn h e (before ++ i ∷ []) is)

turn_append : (h : Header) (before is js : List Item) → InTurn h before is → InTurn h (before ++ is) js → InTurn h before (is ++ js)
turn_append h before [] js a b = subst (λ (xs : List Item). InTurn h xs js) (append-nil before) b
turn_append h before (i ∷ is) js a b = (a.0, turn_append h (before ++ i ∷ []) is js a.1 (subst (λ (xs : List Item). InTurn h xs js) (sym (append_assoc before (i ∷ []) is)) b))

pub base_append : (is js : List Item) → base_clauses (is ++ js) ≡ base_clauses is ++ base_clauses js
base_append [] js = refl
base_append (i ∷ is) js = by (nat_le (rank i.note) 1) (base_append is js)
  where
    by : (t : Bool) → base_clauses (is ++ js) ≡ base_clauses is ++ base_clauses js → clauses_if t i.clause (base_clauses (is ++ js)) ≡ clauses_if t i.clause (base_clauses is) ++ base_clauses js
    by true h = ap (λ (xs : List TreeClause). i.clause ∷ xs) h
    by false h = h

pub shown_append : (is js : List Item) → shown_clauses (is ++ js) ≡ shown_clauses is ++ shown_clauses js
shown_append [] js = refl
shown_append (i ∷ is) js = by (nat_eq (rank i.note) 5) (shown_append is js)
  where
    by : (t : Bool) → shown_clauses (is ++ js) ≡ shown_clauses is ++ shown_clauses js → clauses_if t i.clause (shown_clauses (is ++ js)) ≡ clauses_if t i.clause (shown_clauses is) ++ shown_clauses js
    by true h = ap (λ (xs : List TreeClause). i.clause ∷ xs) h
    by false h = h

-- the clauses of groups
pub base_inputs : (cs : List TreeClause) (ws : List (List ℕ)) → length ws ≡ length cs → base_clauses (input_items cs ws) ≡ cs
base_inputs [] ws e = refl
base_inputs (c ∷ cs) [] e = absurd (omega arith)
base_inputs (c ∷ cs) (w ∷ ws) e = ap (λ (xs : List TreeClause). c ∷ xs) (base_inputs cs ws (omega arith))

pub base_axioms : (cs : List TreeClause) → base_clauses (axiom_items cs) ≡ cs
base_axioms [] = refl
base_axioms (c ∷ cs) = ap (λ (xs : List TreeClause). c ∷ xs) (base_axioms cs)

base_selected : (es : List Entry) (ps : List ℕ) → base_clauses (selected_items es ps) ≡ []
base_selected [] ps = refl
base_selected (e ∷ es) [] = refl
base_selected (e ∷ es) (p ∷ ps) = base_selected es ps

shown_inputs : (cs : List TreeClause) (ws : List (List ℕ)) → shown_clauses (input_items cs ws) ≡ []
shown_inputs [] ws = refl
shown_inputs (c ∷ cs) [] = refl
shown_inputs (c ∷ cs) (w ∷ ws) = shown_inputs cs ws

shown_axioms : (cs : List TreeClause) → shown_clauses (axiom_items cs) ≡ []
shown_axioms [] = refl
shown_axioms (c ∷ cs) = shown_axioms cs

shown_selected : (es : List Entry) (ps : List ℕ) → shown_clauses (selected_items es ps) ≡ []
shown_selected [] ps = refl
shown_selected (e ∷ es) [] = refl
shown_selected (e ∷ es) (p ∷ ps) = shown_selected es ps

base_shown : (cs : List TreeClause) (bys : List By) → base_clauses (shown_items cs bys) ≡ []
base_shown [] bys = refl
base_shown (c ∷ cs) [] = refl
base_shown (c ∷ cs) (b ∷ bys) = base_shown cs bys

shown_shown : (cs : List TreeClause) (bys : List By) → length bys ≡ length cs → shown_clauses (shown_items cs bys) ≡ cs
shown_shown [] bys e = refl
shown_shown (c ∷ cs) [] e = absurd (omega arith)
shown_shown (c ∷ cs) (b ∷ bys) e = ap (λ (xs : List TreeClause). c ∷ xs) (shown_shown cs bys (omega arith))

base_covers : (vs : List Cover) → base_clauses (cover_items vs) ≡ []
base_covers [] = refl
base_covers (v ∷ vs) = base_covers vs

shown_covers : (vs : List Cover) → shown_clauses (cover_items vs) ≡ []
shown_covers [] = refl
shown_covers (v ∷ vs) = shown_covers vs

module _ (h : Header) where
  input_turn : (before : List Item) (cs : List TreeClause) (ws : List (List ℕ)) → length (base_clauses before) + length cs < 2 ^ 64 → InTurn h before (input_items cs ws)
  input_turn before [] ws l = tt
  input_turn before (c ∷ cs) [] l = tt
  input_turn before (c ∷ cs) (w ∷ ws) l =
      let i : Item = record { clause = c; note = named w } in (
        met (names_covers h) _ (λ e. small_number (suc (length (base_clauses before))) (omega arith)),
        input_turn (before ++ i ∷ []) cs ws (let a = ap length (base_push before i) in let b = length-append (base_clauses before) (c ∷ []) in omega arith),
      )

  axiom_turn : (before : List Item) (cs : List TreeClause) → length (base_clauses before) + length cs < 2 ^ 64 → InTurn h before (axiom_items cs)
  axiom_turn before [] l = tt
  axiom_turn before (c ∷ cs) l =
      let i : Item = record { clause = c; note = equality } in (
        met (names_covers h) _ (λ e. small_number (suc (length (base_clauses before))) (omega arith)),
        axiom_turn (before ++ i ∷ []) cs (let a = ap length (base_push before i) in let b = length-append (base_clauses before) (c ∷ []) in omega arith),
      )

  selected_turn : (before : List Item) (es : List Entry) (ps : List ℕ) → InTurn h before (selected_items es ps)
  selected_turn before [] ps = tt
  selected_turn before (e ∷ es) [] = tt
  selected_turn before (e ∷ es) (p ∷ ps) = (met (names_covers h) true (λ e. refl), selected_turn (before ++ record { clause = e.clause; note = selected e.origin p } ∷ []) es ps)

  shown_turn : (before : List Item) (cs : List TreeClause) (bys : List By) → base_clauses before ≡ shown_clauses before ++ cs → InTurn h before (shown_items cs bys)
  shown_turn before [] bys e = tt
  shown_turn before (c ∷ cs) [] e = tt
  shown_turn before (c ∷ cs) (b ∷ bys) e =
      let i : Item = record { clause = c; note = input_by b } in (
        met (names_covers h) _ (λ t. ap (λ (xs : List TreeClause). is_this (slice_get xs (length (shown_clauses before))) c) e ∙ ap (λ (o : Option TreeClause). is_this o c) (at_length (shown_clauses before) (c ∷ cs)) ∙ clause_eq_itself c),
        shown_turn (before ++ i ∷ []) cs bys
            (base_push before i ∙ append-nil (base_clauses before) ∙ e ∙ sym (append_assoc (shown_clauses before) (c ∷ []) cs) ∙ ap (λ (xs : List TreeClause). xs ++ cs) (sym (shown_push before i))),
      )

  cover_turn : (before : List Item) (vs : List Cover) → shown_clauses before ≡ base_clauses before → InTurn h before (cover_items vs)
  cover_turn before [] e = tt
  cover_turn before (v ∷ vs) e =
      let i : Item = record { clause = v.clause; note = side_by v.left v.right v.side v.by } in (
        met (names_covers h) _ (λ t. ap (λ (xs : List TreeClause). nat_eq (length xs) (length (base_clauses before))) e ∙ same_number (length (base_clauses before))),
        cover_turn (before ++ i ∷ []) vs (shown_push before i ∙ append-nil (shown_clauses before) ∙ e ∙ sym (append-nil (base_clauses before)) ∙ sym (base_push before i)),
      )

-- a run of the items of a body, and the last line
body_run : (h : Header) (is : List Item) → is_text_name h.name ≡ true → IsSorted 0 is → list_all (good h) is ≡ true → InTurn h [] is → is_complete h is ≡ true → Few (2 ^ 64) is
    → run (body h []) (item_lines [] is ++ closing h.refutation h.name ∷ []) ≡ Some (done h is)
body_run h is n s g turn complete few =
    run_items h [] is (closing h.refutation h.name ∷ []) s g turn few
    ∙ ap (λ (t : Bool). option_and_then (λ (u : State). Some u) (guarded t (done h is)))
    (and_from (is_text_name h.name) _ n (and_from (bool_eq h.refutation h.refutation) _ ((bool_eq_decides h.refutation h.refutation).1 refl) (and_from (bytes_eq h.name h.name) _ (same_bytes h.name) complete)))

module _ (f : ℕ) (name : List ℕ) (c : FirstRefutation) (n : is_text_name name ≡ true) (p : IsWritableRefutation c) (k : HasFormat f (first_refutation c)) where
  refutation_run : run (body (header_of f name (first_refutation c)) []) (item_lines [] (items_of (first_refutation c)) ++ closing true name ∷ []) ≡ Some (done (header_of f name (first_refutation c)) (items_of (first_refutation c)))
  refutation_run =
      let h = header_of f name (first_refutation c) in
      let b = c.base in
      let A = input_items b.inputs b.names in
      let B = axiom_items b.axioms in
      let C = member_items b.members in
      let D = ground_items c.grounds in
      let E = step_items c.steps in
      let rA = input_ranks b.inputs b.names in
      let rB = axiom_ranks b.axioms in
      let rC = member_ranks b.members in
      let rD = ground_ranks c.grounds in
      let rE = step_ranks c.steps in
      let sE = sorted_nil 4 E rE in
      let sD = sorted_group 3 3 D E rD (omega arith) (sorted_weaker 3 4 E (omega arith) sE) in
      let sC = sorted_group 2 2 C (D ++ E) rC (omega arith) (sorted_weaker 2 3 (D ++ E) (omega arith) sD) in
      let sB = sorted_group 1 1 B (C ++ (D ++ E)) rB (omega arith) (sorted_weaker 1 2 (C ++ (D ++ E)) (omega arith) sC) in
      let sA = sorted_group 0 0 A (B ++ (C ++ (D ++ E))) rA (omega arith) (sorted_weaker 0 1 (B ++ (C ++ (D ++ E))) (omega arith) sB) in
      let gE = step_good h refl c.steps p.steps in
      let gD = all_append (good h) D E (ground_good h (ap (λ (x : ℕ). nat_eq x 1) k.0) c.grounds p.grounds) gE in
      let gC = all_append (good h) C (D ++ E) (member_good h refl b.members p.base.members (origins_fit f (first_refutation c) k)) gD in
      let gB = all_append (good h) B (C ++ (D ++ E)) (axiom_good h b.axioms p.base.axioms) gC in
      let gA = all_append (good h) A (B ++ (C ++ (D ++ E))) (input_good h b.inputs b.names p.base.inputs p.base.names) gB in
      let m = 2 ^ 64 in
      let nA = p.base.input_count in let nB = p.base.axiom_count in let nC = p.base.member_count in let nD = p.ground_count in let nE = p.step_count in
      let fE = few_last m 4 E rE (subst (λ (x : ℕ). x < m) (sym (steps_length c.steps)) nE) in
      let fD = few_group m 3 D E rD (subst (λ (x : ℕ). x < m) (sym (grounds_length c.grounds)) nD) (count_other 4 3 E rE refl) fE in
      let fC = few_group m 2 C (D ++ E) rC (subst (λ (x : ℕ). x < m) (sym (members_length b.members)) nC) (omega (arith, count_append 2 D E, count_other 3 2 D rD refl, count_other 4 2 E rE refl)) fD in
      let fB = few_group m 1 B (C ++ (D ++ E)) rB (subst (λ (x : ℕ). x < m) (sym (axioms_length b.axioms)) nB) (omega (arith, count_append 1 C (D ++ E), count_append 1 D E, count_other 2 1 C rC refl, count_other 3 1 D rD refl, count_other 4 1 E rE refl)) fC in
      let lA : length A < m = (let l = input_length b.inputs b.names in omega arith) in
      let fA = few_group m 0 A (B ++ (C ++ (D ++ E))) rA lA (omega (arith, count_append 0 B (C ++ (D ++ E)), count_append 0 C (D ++ E), count_append 0 D E, count_other 1 0 B rB refl, count_other 2 0 C rC refl, count_other 3 0 D rD refl, count_other 4 0 E rE refl)) fB in
      body_run h (items_of (first_refutation c)) n sA gA (no_turn h refl [] (items_of (first_refutation c))) (not_asked (names_covers h) (are_shown (items_of (first_refutation c))) refl) fA

module _ (f : ℕ) (name : List ℕ) (c : Refutation) (n : is_text_name name ≡ true) (p : IsWritableByLines c) (k : HasFormat f (refutation c)) where
  lined_run : run (body (header_of f name (refutation c)) []) (item_lines [] (items_of (refutation c)) ++ closing true name ∷ []) ≡ Some (done (header_of f name (refutation c)) (items_of (refutation c)))
  lined_run =
      let h = header_of f name (refutation c) in
      let b = c.base in
      let A = input_items b.inputs b.names in
      let B = axiom_items b.axioms in
      let C = member_items b.members in
      let D = line_items c.grounds in
      let E = step_items c.steps in
      let rA = input_ranks b.inputs b.names in
      let rB = axiom_ranks b.axioms in
      let rC = member_ranks b.members in
      let rD = line_ranks c.grounds in
      let rE = step_ranks c.steps in
      let sE = sorted_nil 4 E rE in
      let sD = sorted_group 3 3 D E rD (omega arith) (sorted_weaker 3 4 E (omega arith) sE) in
      let sC = sorted_group 2 2 C (D ++ E) rC (omega arith) (sorted_weaker 2 3 (D ++ E) (omega arith) sD) in
      let sB = sorted_group 1 1 B (C ++ (D ++ E)) rB (omega arith) (sorted_weaker 1 2 (C ++ (D ++ E)) (omega arith) sC) in
      let sA = sorted_group 0 0 A (B ++ (C ++ (D ++ E))) rA (omega arith) (sorted_weaker 0 1 (B ++ (C ++ (D ++ E))) (omega arith) sB) in
      let gE = step_good h refl c.steps p.steps in
      let gD = all_append (good h) D E (line_good h (ap not (later_two f k)) c.grounds p.grounds) gE in
      let gC = all_append (good h) C (D ++ E) (member_good h refl b.members p.base.members (origins_fit f (refutation c) k)) gD in
      let gB = all_append (good h) B (C ++ (D ++ E)) (axiom_good h b.axioms p.base.axioms) gC in
      let gA = all_append (good h) A (B ++ (C ++ (D ++ E))) (input_good h b.inputs b.names p.base.inputs p.base.names) gB in
      let m = 2 ^ 64 in
      let nA = p.base.input_count in let nB = p.base.axiom_count in let nC = p.base.member_count in let nD = p.ground_count in let nE = p.step_count in
      let fE = few_last m 4 E rE (subst (λ (x : ℕ). x < m) (sym (steps_length c.steps)) nE) in
      let fD = few_group m 3 D E rD (subst (λ (x : ℕ). x < m) (sym (lines_length c.grounds)) nD) (count_other 4 3 E rE refl) fE in
      let fC = few_group m 2 C (D ++ E) rC (subst (λ (x : ℕ). x < m) (sym (members_length b.members)) nC) (omega (arith, count_append 2 D E, count_other 3 2 D rD refl, count_other 4 2 E rE refl)) fD in
      let fB = few_group m 1 B (C ++ (D ++ E)) rB (subst (λ (x : ℕ). x < m) (sym (axioms_length b.axioms)) nB) (omega (arith, count_append 1 C (D ++ E), count_append 1 D E, count_other 2 1 C rC refl, count_other 3 1 D rD refl, count_other 4 1 E rE refl)) fC in
      let lA : length A < m = (let l = input_length b.inputs b.names in omega arith) in
      let fA = few_group m 0 A (B ++ (C ++ (D ++ E))) rA lA (omega (arith, count_append 0 B (C ++ (D ++ E)), count_append 0 C (D ++ E), count_append 0 D E, count_other 1 0 B rB refl, count_other 2 0 C rC refl, count_other 3 0 D rD refl, count_other 4 0 E rE refl)) fB in
      body_run h (items_of (refutation c)) n sA gA (no_turn h refl [] (items_of (refutation c))) (not_asked (names_covers h) (are_shown (items_of (refutation c))) refl) fA

module _ (f : ℕ) (name : List ℕ) (c : Saturation) (n : is_text_name name ≡ true) (p : IsWritableSaturation c) (k : HasFormat f (saturation c)) where
  not_covered : nat_eq f 3 ≡ false
  not_covered = by k
    where
      by : HasFormat f (saturation c) → nat_eq f 3 ≡ false
      by (inl (e, a)) = ap (λ (x : ℕ). nat_eq x 3) e
      by (inr e) = ap (λ (x : ℕ). nat_eq x 3) e

  saturation_run : run (body (header_of f name (saturation c)) []) (item_lines [] (items_of (saturation c)) ++ closing false name ∷ []) ≡ Some (done (header_of f name (saturation c)) (items_of (saturation c)))
  saturation_run =
      let h = header_of f name (saturation c) in
      let b = c.base in
      let A = input_items b.inputs b.names in
      let B = axiom_items b.axioms in
      let C = selected_items b.members c.places in
      let rA = input_ranks b.inputs b.names in
      let rB = axiom_ranks b.axioms in
      let rC = selected_ranks b.members c.places in
      let sC = sorted_nil 2 C rC in
      let sB = sorted_group 1 1 B C rB (omega arith) (sorted_weaker 1 2 C (omega arith) sC) in
      let sA = sorted_group 0 0 A (B ++ C) rA (omega arith) (sorted_weaker 0 1 (B ++ C) (omega arith) sB) in
      let gC = selected_good h refl b.members c.places p.base.members (origins_fit f (saturation c) k) p.places in
      let gB = all_append (good h) B C (axiom_good h b.axioms p.base.axioms) gC in
      let gA = all_append (good h) A (B ++ C) (input_good h b.inputs b.names p.base.inputs p.base.names) gB in
      let m = 2 ^ 64 in
      let nA = p.base.input_count in let nB = p.base.axiom_count in let nC = p.base.member_count in
      let lC : length C < m = (let l = selected_length b.members c.places in omega arith) in
      let lA : length A < m = (let l = input_length b.inputs b.names in omega arith) in
      let fC = few_last m 2 C rC lC in
      let fB = few_group m 1 B C rB (subst (λ (x : ℕ). x < m) (sym (axioms_length b.axioms)) nB) (count_other 2 1 C rC refl) fC in
      let fA = few_group m 0 A (B ++ C) rA lA (omega (arith, count_append 0 B C, count_other 1 0 B rB refl, count_other 2 0 C rC refl)) fB in
      body_run h (items_of (saturation c)) n sA gA (no_turn h not_covered [] (items_of (saturation c))) (not_asked (names_covers h) (are_shown (items_of (saturation c))) not_covered) fA

module _ (f : ℕ) (name : List ℕ) (c : Covered) (n : is_text_name name ≡ true) (p : IsWritableCovered c) (k : HasFormat f (covered c)) where
  covered_run : run (body (header_of f name (covered c)) []) (item_lines [] (items_of (covered c)) ++ closing false name ∷ []) ≡ Some (done (header_of f name (covered c)) (items_of (covered c)))
  covered_run =
      let h = header_of f name (covered c) in
      let b = c.saturation.base in
      let w = p.saturation in
      let all = b.inputs ++ b.axioms in
      let A = input_items b.inputs b.names in
      let B = axiom_items b.axioms in
      let C = selected_items b.members c.saturation.places in
      let D = shown_items all c.shown in
      let E = cover_items c.covers in
      let rA = input_ranks b.inputs b.names in
      let rB = axiom_ranks b.axioms in
      let rC = selected_ranks b.members c.saturation.places in
      let rD = shown_ranks all c.shown in
      let rE = cover_ranks c.covers in
      let sE = sorted_nil 6 E rE in
      let sD = sorted_group 5 5 D E rD (omega arith) (sorted_weaker 5 6 E (omega arith) sE) in
      let sC = sorted_group 2 2 C (D ++ E) rC (omega arith) (sorted_weaker 2 5 (D ++ E) (omega arith) sD) in
      let sB = sorted_group 1 1 B (C ++ (D ++ E)) rB (omega arith) (sorted_weaker 1 2 (C ++ (D ++ E)) (omega arith) sC) in
      let sA = sorted_group 0 0 A (B ++ (C ++ (D ++ E))) rA (omega arith) (sorted_weaker 0 1 (B ++ (C ++ (D ++ E))) (omega arith) sB) in
      let names : names_covers h ≡ true = ap (λ (x : ℕ). nat_eq x 3) k in
      let gE = cover_good h names c.covers p.covers in
      let gD = all_append (good h) D E (shown_good h names all c.shown (both_writable b.inputs b.axioms w.base.inputs w.base.axioms) p.shown) gE in
      let gC = all_append (good h) C (D ++ E) (selected_good h refl b.members c.saturation.places w.base.members (origins_fit f (covered c) k) w.places) gD in
      let gB = all_append (good h) B (C ++ (D ++ E)) (axiom_good h b.axioms w.base.axioms) gC in
      let gA = all_append (good h) A (B ++ (C ++ (D ++ E))) (input_good h b.inputs b.names w.base.inputs w.base.names) gB in
      let m = 2 ^ 64 in
      let nA = w.base.input_count in let nB = w.base.axiom_count in let nC = w.base.member_count in let nD = p.shown_count in let nE = p.cover_count in
      let lC : length C < m = (let l = selected_length b.members c.saturation.places in omega arith) in
      let lA : length A < m = (let l = input_length b.inputs b.names in omega arith) in
      let lD : length D < m = (let l = shown_length all c.shown in omega arith) in
      let fE = few_last m 6 E rE (subst (λ (x : ℕ). x < m) (sym (covers_length c.covers)) nE) in
      let fD = few_group m 5 D E rD lD (count_other 6 5 E rE refl) fE in
      let fC = few_group m 2 C (D ++ E) rC lC (omega (arith, count_append 2 D E, count_other 5 2 D rD refl, count_other 6 2 E rE refl)) fD in
      let fB = few_group m 1 B (C ++ (D ++ E)) rB (subst (λ (x : ℕ). x < m) (sym (axioms_length b.axioms)) nB) (omega (arith, count_append 1 C (D ++ E), count_append 1 D E, count_other 2 1 C rC refl, count_other 5 1 D rD refl, count_other 6 1 E rE refl)) fC in
      let fA = few_group m 0 A (B ++ (C ++ (D ++ E))) rA lA (omega (arith, count_append 0 B (C ++ (D ++ E)), count_append 0 C (D ++ E), count_append 0 D E, count_other 1 0 B rB refl, count_other 2 0 C rC refl, count_other 5 0 D rD refl, count_other 6 0 E rE refl)) fB in
      let total : length b.inputs + length b.axioms < m = (let e = p.each in omega arith) in
      let each : length c.shown ≡ length all = (let e = p.each in let a = length-append b.inputs b.axioms in omega arith) in
      let bA = base_inputs b.inputs b.names w.base.named in
      let zA = shown_inputs b.inputs b.names in
      let bB : base_clauses (A ++ B) ≡ all = base_append A B ∙ ap₂ (λ (x y : List TreeClause). x ++ y) bA (base_axioms b.axioms) in
      let zB : shown_clauses (A ++ B) ≡ [] = shown_append A B ∙ ap₂ (λ (x y : List TreeClause). x ++ y) zA (shown_axioms b.axioms) in
      let bC : base_clauses ((A ++ B) ++ C) ≡ all = base_append (A ++ B) C ∙ ap₂ (λ (x y : List TreeClause). x ++ y) bB (base_selected b.members c.saturation.places) ∙ append-nil all in
      let zC : shown_clauses ((A ++ B) ++ C) ≡ [] = shown_append (A ++ B) C ∙ ap₂ (λ (x y : List TreeClause). x ++ y) zB (shown_selected b.members c.saturation.places) in
      let bD : base_clauses (((A ++ B) ++ C) ++ D) ≡ all = base_append ((A ++ B) ++ C) D ∙ ap₂ (λ (x y : List TreeClause). x ++ y) bC (base_shown all c.shown) ∙ append-nil all in
      let zD : shown_clauses (((A ++ B) ++ C) ++ D) ≡ all = shown_append ((A ++ B) ++ C) D ∙ ap₂ (λ (x y : List TreeClause). x ++ y) zC (shown_shown all c.shown each) in
      let bE : base_clauses ((((A ++ B) ++ C) ++ D) ++ E) ≡ all = base_append (((A ++ B) ++ C) ++ D) E ∙ ap₂ (λ (x y : List TreeClause). x ++ y) bD (base_covers c.covers) ∙ append-nil all in
      let zE : shown_clauses ((((A ++ B) ++ C) ++ D) ++ E) ≡ all = shown_append (((A ++ B) ++ C) ++ D) E ∙ ap₂ (λ (x y : List TreeClause). x ++ y) zD (shown_covers c.covers) ∙ append-nil all in
      let group : (((A ++ B) ++ C) ++ D) ++ E ≡ A ++ (B ++ (C ++ (D ++ E))) = append_assoc ((A ++ B) ++ C) D E ∙ append_assoc (A ++ B) C (D ++ E) ∙ append_assoc A B (C ++ (D ++ E)) in
      let complete : are_shown (A ++ (B ++ (C ++ (D ++ E)))) ≡ true = subst (λ (xs : List Item). are_shown xs ≡ true) group (ap₂ (λ (x y : List TreeClause). nat_eq (length x) (length y)) zE bE ∙ same_number (length all)) in
      let turn : InTurn h [] (A ++ (B ++ (C ++ (D ++ E)))) =
      turn_append h [] A (B ++ (C ++ (D ++ E))) (input_turn h [] b.inputs b.names (omega arith))
      (turn_append h A B (C ++ (D ++ E)) (axiom_turn h A b.axioms (let e = ap length bA in omega arith))
      (turn_append h (A ++ B) C (D ++ E) (selected_turn h (A ++ B) b.members c.saturation.places)
      (turn_append h ((A ++ B) ++ C) D E (shown_turn h ((A ++ B) ++ C) all c.shown (bC ∙ ap (λ (xs : List TreeClause). xs ++ all) (sym zC)))
      (cover_turn h (((A ++ B) ++ C) ++ D) c.covers (zD ∙ sym bD))))) in
      body_run h (items_of (covered c)) n sA gA turn (met (names_covers h) _ (λ e. complete)) fA

abbrev lines_behind : Certificate → List ℕ → List Line
lines_behind v name = constant_lines v ++ (item_lines [] (items_of v) ++ closing (is_refutation v) name ∷ [])

-- the lines of a printable value are lines
pub are_lines : (f : ℕ) (name : List ℕ) (v : Certificate) → IsTextName name → HasFormat f v → IsWritable v → AreLines (lines_of f name v)
are_lines f name v t k p = record { last = done (header_of f name v) (items_of v); runs = by v k p; ended = refl }
  where
    n : is_text_name name ≡ true
    n = name_yes name t

    begin : (w : Certificate) → HasFormat f w → run nothing (lines_of f name w) ≡ run (machine.formatted is_known is_text_name clause_is_printable note_is_printable (is_refutation w) name f) (lines_behind w name)
    begin w k =
        ap (λ (b : Bool). option_and_then (λ (u : State). run u (opening (is_refutation w) name ∷ version f ∷ lines_behind w name)) (guarded b (begun (is_refutation w) name))) n
        ∙ ap (λ (b : Bool). option_and_then (λ (u : State). run u (version f ∷ lines_behind w name)) (guarded b (opened (is_refutation w) name)))
        (and_from (is_text_name name) _ n (and_from (bool_eq (is_refutation w) (is_refutation w)) _ ((bool_eq_decides (is_refutation w) (is_refutation w)).1 refl) (same_bytes name)))
        ∙ ap (λ (b : Bool). option_and_then (λ (u : State). run u (lines_behind w name)) (guarded b (machine.formatted is_known is_text_name clause_is_printable note_is_printable (is_refutation w) name f))) (format_is_known f w k)

    by : (w : Certificate) → HasFormat f w → IsWritable w → run nothing (lines_of f name w) ≡ Some (done (header_of f name w) (items_of w))
    by (first_refutation c) k q =
        begin (first_refutation c) k
        ∙ ap (λ (b : Bool). option_and_then (λ (u : State). run u (item_lines [] (items_of (first_refutation c)) ++ closing true name ∷ [])) (guarded b (body (header_of f name (first_refutation c)) []))) q.bot_name
        ∙ refutation_run f name c n q k
    by (refutation c) k q =
        begin (refutation c) k
        ∙ ap (λ (b : Bool). option_and_then (λ (u : State). run u (item_lines [] (items_of (refutation c)) ++ closing true name ∷ [])) (guarded b (body (header_of f name (refutation c)) []))) q.bot_name
        ∙ lined_run f name c n q k
    by (saturation c) k q = begin (saturation c) k ∙ saturation_run f name c n q k
    by (covered c) k q = begin (covered c) k ∙ covered_run f name c n q k
