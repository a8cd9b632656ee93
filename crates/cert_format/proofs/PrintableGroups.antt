-- What the lists of a value are made of can be printed where the items are good.
use Rattle.std.proofs.Common.{◌≡◌, ◌≢◌, ℕ, Bool, true, List, [], ◌∷◌, arith}
use Rattle.std.specs.Prelude.{not, nat_eq, All, IsTrue}
use Rattle.std.specs.List.{list_all}
use Rattle.std.proofs.lemmas.List.Elements.{All-nil, All-cons}
use Rattle.inst_logic.specs.Tree.{Tree}
use Rattle.inst_logic.specs.Printing.{is_readable_name}
use Rattle.inst_calculus.specs.Entries.{Origin, input, inst, lemma, Entry}
use Rattle.cert_format.specs.Certificate.{By, by_tautology, by_variant, by_part}
use Rattle.cert_format.specs.Validity.{IsFirstOrigin}
use Rattle.cert_format.specs.Spelling.{is_printable}
use Rattle.cert_format.specs.Printable.{IsNumber, HasNumbers, cited_number, ArePrintableTerms}
use Rattle.cert_format.proofs.ClauseForms.{IsWritableClause}
use Rattle.cert_format.proofs.Writables.{IsWritableEntry, IsWritableStep, IsWritableLine, IsWritableBy, IsWritableCover}
use Rattle.cert_format.specs.LineMachine.{is_number, Note, named, equality, member, selected, ground_of, ground_by, shown_by, input_by, side_by, rank, fits_origin, Item, Header, fits}
use Rattle.cert_format.specs.LineTexts.{origin_is_printable, by_is_printable, note_is_printable}
use Rattle.cert_format.specs.Formats.{clause_is_printable}
use Rattle.std.proofs.lemmas.Bool.{and_parts}
use Rattle.cert_format.proofs.LineNotes.{below}
use Rattle.cert_format.proofs.Formats.{test_yes}
use Rattle.cert_format.proofs.ValueRuns.{good}
use Rattle.cert_format.proofs.GroupItems.{origin_good, hint_numbers}
use Rattle.cert_format.proofs.ItemGroups.{clauses_of, IsGroup}
use Rattle.cert_format.proofs.GroupValues.{name_of, names_of, entry_origin, place_at, entries_of, places_of, hints_of, steps_of, input_of, terms_in, lines_of_items, by_in, bys_of, left_in, right_in, side_in, covers_of, header_for, good_parts}

-- ---- what is printable

pub clauses_printable : (h : Header) (is : List Item) → list_all (good h) is ≡ true → All IsWritableClause (clauses_of is)
clauses_printable h [] g = All-nil IsWritableClause
clauses_printable h (i ∷ is) g = let b = and_parts (good h i) _ g in All-cons IsWritableClause i.clause (clauses_of is) (test_yes i.clause (and_parts (clause_is_printable i.clause) _ (and_parts (fits h i.note) _ b.0).1).0) (clauses_printable h is b.1)

pub names_printable : (h : Header) (is : List Item) → IsGroup 0 is → list_all (good h) is ≡ true → All (λ n. IsTrue (is_readable_name n)) (names_of is)
names_printable h [] k g = All-nil (λ (n : List ℕ). IsTrue (is_readable_name n))
names_printable h (i ∷ is) k g =
    let a = and_parts (nat_eq (rank i.note) 0) _ k in
    let b = and_parts (good h i) _ g in
    All-cons (λ (n : List ℕ). IsTrue (is_readable_name n)) (name_of i.note) (names_of is) (by i.note a.0 (and_parts (clause_is_printable i.clause) _ (and_parts (fits h i.note) _ b.0).1).1) (names_printable h is a.1 b.1)
  where
    by : (note : Note) → nat_eq (rank note) 0 ≡ true → note_is_printable note ≡ true → is_readable_name (name_of note) ≡ true
    by (named w) e p = p
    by _ e p = absurd cc

entry_numbers : (note : Note) → nat_eq (rank note) 2 ≡ true → note_is_printable note ≡ true → HasNumbers (entry_origin note)
entry_numbers (member o) e p = origin_good o p
entry_numbers (selected o k) e p = origin_good o (and_parts (origin_is_printable o) (is_number k) p).0
entry_numbers _ e p = absurd cc

place_number : (note : Note) → note_is_printable note ≡ true → IsNumber (place_at note)
place_number (selected o k) p = below k (and_parts (origin_is_printable o) (is_number k) p).1
place_number (member o) p = omega arith
place_number (named w) p = omega arith
place_number equality p = omega arith
place_number ground_of p = omega arith
place_number (shown_by hs) p = omega arith
place_number (ground_by k ts) p = omega arith
place_number (input_by b) p = omega arith
place_number (side_by l r s b) p = omega arith

pub entries_printable : (h : Header) (is : List Item) → IsGroup 2 is → list_all (good h) is ≡ true → All IsWritableEntry (entries_of is)
entries_printable h [] k g = All-nil IsWritableEntry
entries_printable h (i ∷ is) k g =
    let a = and_parts (nat_eq (rank i.note) 2) _ k in
    let b = and_parts (good h i) _ g in
    let c = and_parts (clause_is_printable i.clause) _ (and_parts (fits h i.note) _ b.0).1 in
    All-cons IsWritableEntry (record { clause = i.clause; origin = entry_origin i.note }) (entries_of is) (record { clause = test_yes i.clause c.0; origin = entry_numbers i.note a.0 c.1 }) (entries_printable h is a.1 b.1)

pub places_printable : (h : Header) (is : List Item) → list_all (good h) is ≡ true → All IsNumber (places_of is)
places_printable h [] g = All-nil IsNumber
places_printable h (i ∷ is) g =
    let b = and_parts (good h i) _ g in
    All-cons IsNumber (place_at i.note) (places_of is) (place_number i.note (and_parts (clause_is_printable i.clause) _ (and_parts (fits h i.note) _ b.0).1).1) (places_printable h is b.1)

step_hints : (note : Note) → nat_eq (rank note) 4 ≡ true → note_is_printable note ≡ true → (hints_of note ≢ []) × All (λ h. IsNumber (cited_number h)) (hints_of note)
step_hints (shown_by []) e p = absurd cc
step_hints (shown_by (h ∷ hs)) e p = (λ q. cc, hint_numbers (h ∷ hs) p)
step_hints _ e p = absurd cc

pub steps_printable : (h : Header) (is : List Item) → IsGroup 4 is → list_all (good h) is ≡ true → All IsWritableStep (steps_of is)
steps_printable h [] k g = All-nil IsWritableStep
steps_printable h (i ∷ is) k g =
    let a = and_parts (nat_eq (rank i.note) 4) _ k in
    let b = and_parts (good h i) _ g in
    let c = and_parts (clause_is_printable i.clause) _ (and_parts (fits h i.note) _ b.0).1 in
    let s = step_hints i.note a.0 c.1 in
    All-cons IsWritableStep (record { clause = i.clause; hints = hints_of i.note }) (steps_of is) (record { clause = test_yes i.clause c.0; hinted = s.0; hints = s.1 }) (steps_printable h is a.1 b.1)

pub terms_printable : (ts : List Tree) → list_all is_printable ts ≡ true → ArePrintableTerms ts
terms_printable [] h = All-nil (λ (t : Tree). IsTrue (is_printable t))
terms_printable (t ∷ ts) h = let a = and_parts (is_printable t) (list_all is_printable ts) h in All-cons (λ (u : Tree). IsTrue (is_printable u)) t ts a.0 (terms_printable ts a.1)

pub by_printable : (b : By) → by_is_printable b ≡ true → IsWritableBy b
by_printable by_tautology h = record { printable = tt; numbers = tt }
by_printable (by_variant j) h = record { printable = tt; numbers = below j h }
by_printable (by_part j ts) h = let a = and_parts (is_number j) (list_all is_printable ts) h in record { printable = terms_printable ts a.1; numbers = below j a.0 }

line_parts : (note : Note) → nat_eq (rank note) 3 ≡ true → note_is_printable note ≡ true → IsNumber (input_of note) × ArePrintableTerms (terms_in note)
line_parts (ground_by k ts) e h = let a = and_parts (is_number k) (list_all is_printable ts) h in (below k a.0, terms_printable ts a.1)
line_parts ground_of e h = (omega arith, All-nil (λ (t : Tree). IsTrue (is_printable t)))
line_parts _ e h = absurd cc

pub lines_printable : (h : Header) (is : List Item) → IsGroup 3 is → list_all (good h) is ≡ true → All IsWritableLine (lines_of_items is)
lines_printable h [] k g = All-nil IsWritableLine
lines_printable h (i ∷ is) k g =
    let a = and_parts (nat_eq (rank i.note) 3) _ k in
    let b = and_parts (good h i) _ g in
    let c = good_parts h i b.0 in
    let d = line_parts i.note a.0 c.2 in
    All-cons IsWritableLine (record { clause = i.clause; input = input_of i.note; terms = terms_in i.note }) (lines_of_items is) (record { clause = test_yes i.clause c.1; input = d.0; terms = d.1 }) (lines_printable h is a.1 b.1)

by_parts : (note : Note) → nat_eq (rank note) 5 ≡ true → note_is_printable note ≡ true → IsWritableBy (by_in note)
by_parts (input_by b) e h = by_printable b h
by_parts _ e h = absurd cc

pub bys_printable : (h : Header) (is : List Item) → IsGroup 5 is → list_all (good h) is ≡ true → All IsWritableBy (bys_of is)
bys_printable h [] k g = All-nil IsWritableBy
bys_printable h (i ∷ is) k g =
    let a = and_parts (nat_eq (rank i.note) 5) _ k in
    let b = and_parts (good h i) _ g in
    All-cons IsWritableBy (by_in i.note) (bys_of is) (by_parts i.note a.0 (good_parts h i b.0).2) (bys_printable h is a.1 b.1)

cover_parts : (note : Note) → nat_eq (rank note) 6 ≡ true → note_is_printable note ≡ true → IsNumber (left_in note) × IsNumber (right_in note) × IsWritableBy (by_in note)
cover_parts (side_by l r s b) e h =
    let a = and_parts (is_number l) _ h in
    let d = and_parts (is_number r) (by_is_printable b) a.1 in
    (below l a.0, below r d.0, by_printable b d.1)
cover_parts _ e h = absurd cc

pub covers_printable : (h : Header) (is : List Item) → IsGroup 6 is → list_all (good h) is ≡ true → All IsWritableCover (covers_of is)
covers_printable h [] k g = All-nil IsWritableCover
covers_printable h (i ∷ is) k g =
    let a = and_parts (nat_eq (rank i.note) 6) _ k in
    let b = and_parts (good h i) _ g in
    let c = good_parts h i b.0 in
    let d = cover_parts i.note a.0 c.2 in
    All-cons IsWritableCover (record { left = left_in i.note; right = right_in i.note; side = side_in i.note; clause = i.clause; by = by_in i.note }) (covers_of is)
    (record { left = d.0; right = d.1; clause = test_yes i.clause c.1; by = d.2 }) (covers_printable h is a.1 b.1)

-- the origins of the first format
pub first_kind : (o : Origin) → fits_origin 1 o ≡ true → IsFirstOrigin o
first_kind (input k) h = tt
first_kind (inst from place partner other) h = tt
first_kind (lemma from place partner other keep premises) h = absurd cc

first_note : (r : Bool) (name bot : List ℕ) (note : Note) → nat_eq (rank note) 2 ≡ true → fits (header_for r 1 name bot) note ≡ true → IsFirstOrigin (entry_origin note)
first_note r name bot (member o) e h = first_kind o (and_parts r (fits_origin 1 o) h).1
first_note r name bot (selected o p) e h = first_kind o (and_parts (not r) (fits_origin 1 o) h).1
first_note r name bot _ e h = absurd cc

pub first_entries : (r : Bool) (name bot : List ℕ) (is : List Item) → IsGroup 2 is → list_all (good (header_for r 1 name bot)) is ≡ true → All (λ e. IsFirstOrigin e.origin) (entries_of is)
first_entries r name bot [] k g = All-nil (λ (e : Entry). IsFirstOrigin e.origin)
first_entries r name bot (i ∷ is) k g =
    let a = and_parts (nat_eq (rank i.note) 2) _ k in
    let b = and_parts (good (header_for r 1 name bot) i) _ g in
    All-cons (λ (e : Entry). IsFirstOrigin e.origin) (record { clause = i.clause; origin = entry_origin i.note }) (entries_of is) (first_note r name bot i.note a.0 (good_parts (header_for r 1 name bot) i b.0).0) (first_entries r name bot is a.1 b.1)
