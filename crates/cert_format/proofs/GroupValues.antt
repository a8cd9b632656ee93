-- Each group of items is what a list of a value gives.
use Rattle.std.proofs.Common.{◌≡◌, ℕ, Bool, true, false, List, [], ◌∷◌, map, refl, ap}
use Rattle.std.specs.Prelude.{◌&&◌, not, nat_eq}
use Rattle.std.specs.List.{list_all}
use Rattle.inst_logic.specs.Tree.{Tree}
use Rattle.inst_logic.specs.Clauses.{TreeClause}
use Rattle.inst_calculus.specs.Entries.{Origin, input, Entry}
use Rattle.inst_calculus.specs.Steps.{Step, Cited}
use Rattle.cert_format.specs.Certificate.{GroundLine, By, by_tautology, Side, left_side, Cover}
use Rattle.cert_format.specs.LineMachine.{Note, named, equality, member, selected, ground_of, ground_by, shown_by, input_by, side_by, rank, Item, Header, fits}
use Rattle.cert_format.specs.LineTexts.{note_is_printable}
use Rattle.cert_format.specs.Formats.{clause_is_printable}
use Rattle.cert_format.specs.ValueLines.{input_items, axiom_items, member_items, selected_items, ground_items, line_items, shown_items, cover_items, step_items}
use Rattle.std.proofs.lemmas.Bool.{and_parts}
use Rattle.cert_format.proofs.ValueRuns.{good}
use Rattle.cert_format.proofs.ItemGroups.{clauses_of, IsGroup}

abbrev pub name_of : Note → List ℕ
name_of (named w) = w
name_of _ = []

abbrev pub names_of : List Item → List (List ℕ)
names_of is = map (λ (i : Item). name_of i.note) is

abbrev pub entry_origin : Note → Origin
entry_origin (member o) = o
entry_origin (selected o p) = o
entry_origin _ = input 0

abbrev pub place_at : Note → ℕ
place_at (selected o p) = p
place_at _ = 0

abbrev pub entries_of : List Item → List Entry
entries_of is = map (λ (i : Item). record { clause = i.clause; origin = entry_origin i.note }) is

abbrev pub places_of : List Item → List ℕ
places_of is = map (λ (i : Item). place_at i.note) is

abbrev pub hints_of : Note → List Cited
hints_of (shown_by hs) = hs
hints_of _ = []

abbrev pub steps_of : List Item → List (Step Tree)
steps_of is = map (λ (i : Item). record { clause = i.clause; hints = hints_of i.note }) is

abbrev pub input_of : Note → ℕ
input_of (ground_by k ts) = k
input_of _ = 0

abbrev pub terms_in : Note → List Tree
terms_in (ground_by k ts) = ts
terms_in _ = []

abbrev pub lines_of_items : List Item → List GroundLine
lines_of_items is = map (λ (i : Item). record { clause = i.clause; input = input_of i.note; terms = terms_in i.note }) is

abbrev pub by_in : Note → By
by_in (input_by b) = b
by_in (side_by l r s b) = b
by_in _ = by_tautology

abbrev pub bys_of : List Item → List By
bys_of is = map (λ (i : Item). by_in i.note) is

abbrev pub left_in : Note → ℕ
left_in (side_by l r s b) = l
left_in _ = 0

abbrev pub right_in : Note → ℕ
right_in (side_by l r s b) = r
right_in _ = 0

abbrev pub side_in : Note → Side
side_in (side_by l r s b) = s
side_in _ = left_side

abbrev pub covers_of : List Item → List Cover
covers_of is = map (λ (i : Item). record { left = left_in i.note; right = right_in i.note; side = side_in i.note; clause = i.clause; by = by_in i.note }) is

pub inputs_back : (is : List Item) → IsGroup 0 is → input_items (clauses_of is) (names_of is) ≡ is
inputs_back [] h = refl
inputs_back (i ∷ is) h = let a = and_parts (nat_eq (rank i.note) 0) _ h in by i.clause i.note a.0 (inputs_back is a.1)
  where
    by : (c : TreeClause) (note : Note) → nat_eq (rank note) 0 ≡ true → input_items (clauses_of is) (names_of is) ≡ is → record { clause = c; note = named (name_of note) } ∷ input_items (clauses_of is) (names_of is) ≡ record { clause = c; note = note } ∷ is
    by c (named w) e h = ap (λ (xs : List Item). record { clause = c; note = named w } ∷ xs) h
    by c _ e h = absurd cc

pub axioms_back : (is : List Item) → IsGroup 1 is → axiom_items (clauses_of is) ≡ is
axioms_back [] h = refl
axioms_back (i ∷ is) h = let a = and_parts (nat_eq (rank i.note) 1) _ h in by i.clause i.note a.0 (axioms_back is a.1)
  where
    by : (c : TreeClause) (note : Note) → nat_eq (rank note) 1 ≡ true → axiom_items (clauses_of is) ≡ is → record { clause = c; note = equality } ∷ axiom_items (clauses_of is) ≡ record { clause = c; note = note } ∷ is
    by c equality e h = ap (λ (xs : List Item). record { clause = c; note = equality } ∷ xs) h
    by c _ e h = absurd cc

abbrev pub header_for : Bool → ℕ → List ℕ → List ℕ → Header
header_for r f name bot = record { refutation = r; name = name; format = f; bot = bot }

-- of a good item: it fits, and its note can be printed
pub good_parts : (h : Header) (i : Item) → good h i ≡ true → (fits h i.note ≡ true) × (clause_is_printable i.clause ≡ true) × (note_is_printable i.note ≡ true)
good_parts h i g = let a = and_parts (fits h i.note) _ g in let b = and_parts (clause_is_printable i.clause) (note_is_printable i.note) a.1 in (a.0, b.0, b.1)

no_form : (r x : Bool) → r ≡ true → (not r && x) ≡ true → ⊥
no_form true x e h = cc
no_form false x e h = cc

pub members_back : (f : ℕ) (name bot : List ℕ) (is : List Item) → IsGroup 2 is → list_all (good (header_for true f name bot)) is ≡ true → member_items (entries_of is) ≡ is
members_back f name bot [] h g = refl
members_back f name bot (i ∷ is) h g =
    let a = and_parts (nat_eq (rank i.note) 2) _ h in
    let b = and_parts (good (header_for true f name bot) i) _ g in
    by i.clause i.note a.0 (good_parts (header_for true f name bot) i b.0).0 (members_back f name bot is a.1 b.1)
  where
    by : (c : TreeClause) (note : Note) → nat_eq (rank note) 2 ≡ true → fits (header_for true f name bot) note ≡ true → member_items (entries_of is) ≡ is → record { clause = c; note = member (entry_origin note) } ∷ member_items (entries_of is) ≡ record { clause = c; note = note } ∷ is
    by c (member o) e k h = ap (λ (xs : List Item). record { clause = c; note = member o } ∷ xs) h
    by c (selected o p) e k h = absurd cc
    by c _ e k h = absurd cc

pub selected_back : (f : ℕ) (name bot : List ℕ) (is : List Item) → IsGroup 2 is → list_all (good (header_for false f name bot)) is ≡ true → selected_items (entries_of is) (places_of is) ≡ is
selected_back f name bot [] h g = refl
selected_back f name bot (i ∷ is) h g =
    let a = and_parts (nat_eq (rank i.note) 2) _ h in
    let b = and_parts (good (header_for false f name bot) i) _ g in
    by i.clause i.note a.0 (good_parts (header_for false f name bot) i b.0).0 (selected_back f name bot is a.1 b.1)
  where
    by : (c : TreeClause) (note : Note) → nat_eq (rank note) 2 ≡ true → fits (header_for false f name bot) note ≡ true → selected_items (entries_of is) (places_of is) ≡ is
        → record { clause = c; note = selected (entry_origin note) (place_at note) } ∷ selected_items (entries_of is) (places_of is) ≡ record { clause = c; note = note } ∷ is
    by c (selected o p) e k h = ap (λ (xs : List Item). record { clause = c; note = selected o p } ∷ xs) h
    by c (member o) e k h = absurd cc
    by c _ e k h = absurd cc

pub grounds_back : (name bot : List ℕ) (is : List Item) → IsGroup 3 is → list_all (good (header_for true 1 name bot)) is ≡ true → ground_items (clauses_of is) ≡ is
grounds_back name bot [] h g = refl
grounds_back name bot (i ∷ is) h g =
    let a = and_parts (nat_eq (rank i.note) 3) _ h in
    let b = and_parts (good (header_for true 1 name bot) i) _ g in
    by i.clause i.note a.0 (good_parts (header_for true 1 name bot) i b.0).0 (grounds_back name bot is a.1 b.1)
  where
    by : (c : TreeClause) (note : Note) → nat_eq (rank note) 3 ≡ true → fits (header_for true 1 name bot) note ≡ true → ground_items (clauses_of is) ≡ is → record { clause = c; note = ground_of } ∷ ground_items (clauses_of is) ≡ record { clause = c; note = note } ∷ is
    by c ground_of e k h = ap (λ (xs : List Item). record { clause = c; note = ground_of } ∷ xs) h
    by c (ground_by n ts) e k h = absurd cc
    by c _ e k h = absurd cc

pub lines_back : (f : ℕ) (name bot : List ℕ) → nat_eq f 1 ≡ false → (is : List Item) → IsGroup 3 is → list_all (good (header_for true f name bot)) is ≡ true → line_items (lines_of_items is) ≡ is
lines_back f name bot later [] h g = refl
lines_back f name bot later (i ∷ is) h g =
    let a = and_parts (nat_eq (rank i.note) 3) _ h in
    let b = and_parts (good (header_for true f name bot) i) _ g in
    by i.clause i.note a.0 (good_parts (header_for true f name bot) i b.0).0 (lines_back f name bot later is a.1 b.1)
  where
    by : (c : TreeClause) (note : Note) → nat_eq (rank note) 3 ≡ true → fits (header_for true f name bot) note ≡ true → line_items (lines_of_items is) ≡ is
        → record { clause = c; note = ground_by (input_of note) (terms_in note) } ∷ line_items (lines_of_items is) ≡ record { clause = c; note = note } ∷ is
    by c (ground_by n ts) e k h = ap (λ (xs : List Item). record { clause = c; note = ground_by n ts } ∷ xs) h
    by c ground_of e k h = absurd (let z : nat_eq f 1 ≡ true = k in cc)
    by c _ e k h = absurd cc

pub shown_back : (is : List Item) → IsGroup 5 is → shown_items (clauses_of is) (bys_of is) ≡ is
shown_back [] h = refl
shown_back (i ∷ is) h = let a = and_parts (nat_eq (rank i.note) 5) _ h in by i.clause i.note a.0 (shown_back is a.1)
  where
    by : (c : TreeClause) (note : Note) → nat_eq (rank note) 5 ≡ true → shown_items (clauses_of is) (bys_of is) ≡ is → record { clause = c; note = input_by (by_in note) } ∷ shown_items (clauses_of is) (bys_of is) ≡ record { clause = c; note = note } ∷ is
    by c (input_by b) e h = ap (λ (xs : List Item). record { clause = c; note = input_by b } ∷ xs) h
    by c _ e h = absurd cc

pub covers_back : (is : List Item) → IsGroup 6 is → cover_items (covers_of is) ≡ is
covers_back [] h = refl
covers_back (i ∷ is) h = let a = and_parts (nat_eq (rank i.note) 6) _ h in by i.clause i.note a.0 (covers_back is a.1)
  where
    by : (c : TreeClause) (note : Note) → nat_eq (rank note) 6 ≡ true → cover_items (covers_of is) ≡ is
        → record { clause = c; note = side_by (left_in note) (right_in note) (side_in note) (by_in note) } ∷ cover_items (covers_of is) ≡ record { clause = c; note = note } ∷ is
    by c (side_by l r s b) e h = ap (λ (xs : List Item). record { clause = c; note = side_by l r s b } ∷ xs) h
    by c _ e h = absurd cc

pub steps_back : (is : List Item) → IsGroup 4 is → step_items (steps_of is) ≡ is
steps_back [] h = refl
steps_back (i ∷ is) h = let a = and_parts (nat_eq (rank i.note) 4) _ h in by i.clause i.note a.0 (steps_back is a.1)
  where
    by : (c : TreeClause) (note : Note) → nat_eq (rank note) 4 ≡ true → step_items (steps_of is) ≡ is → record { clause = c; note = shown_by (hints_of note) } ∷ step_items (steps_of is) ≡ record { clause = c; note = note } ∷ is
    by c (shown_by hs) e h = ap (λ (xs : List Item). record { clause = c; note = shown_by hs } ∷ xs) h
    by c _ e h = absurd cc
