-- The items that were read are those of a printable certificate, and the text is its text.
use Rattle.std.proofs.Common.{◌≡◌, ◌≢◌, ◌⊎◌, inl, inr, ℕ, ◌^◌, ◌<◌, ◌≤◌, Bool, true, false, cond, List, [], ◌∷◌, ◌++◌, length, map, refl, sym, ap, ap₂, ◌∙◌, arith, length-append}
use Rattle.std.specs.Prelude.{All, IsTrue, not, nat_eq}
use Rattle.std.specs.List.{list_all}
use Rattle.std.proofs.lemmas.Bool.{and_parts}
use Rattle.std.proofs.lemmas.List.{append-nil, length-map}
use Rattle.std.proofs.lemmas.List.Elements.{All-nil, All-cons}
use Rattle.inst_logic.specs.declared.signed.Signed.{Signed}
use Rattle.inst_logic.specs.declared.symbol.Sym.{Sym}
use Rattle.inst_logic.specs.Tree.{Tree}
use Rattle.inst_logic.specs.Clauses.{TreeClause}
use Rattle.inst_logic.specs.Printing.{is_readable_name}
use Rattle.inst_logic.specs.WellFormed.{is_constant}
use Rattle.inst_calculus.specs.Entries.{Entry}
use Rattle.inst_calculus.specs.Steps.{Cited, Step}
use Rattle.term_bank.specs.Forest.{Forest, clause_at}
use Rattle.cert_format.specs.Certificate as format
use Rattle.cert_format.specs.Certificate.{By, by_tautology, by_variant, by_part}
use Rattle.cert_format.specs.Validity.{IsFirstOrigin}
use Rattle.cert_format.specs.Printable.{IsTextName, IsNumber, cited_number, HasFormat}
use Rattle.cert_format.specs.Spelling.{is_printable}
use Rattle.cert_format.specs.LineMachine.{is_number, Note, named, equality, member, selected, ground_of, ground_by, shown_by, input_by, side_by, Item, Header, Line, status, opening, version, constant, closing, count, fits_origin, fits, done}
use Rattle.cert_format.specs.LineTexts.{origin_is_printable, by_is_printable, note_is_printable}
use Rattle.cert_format.specs.Formats.{clause_is_printable, is_known, text_of_lines}
use Rattle.inst_logic.proofs.Numbers.{number_is}
use Rattle.cert_format.specs.ValueLines.{input_items, axiom_items, member_items, selected_items, ground_items, line_items, step_items, shown_items, cover_items, item_lines, lines_of}
use Rattle.cert_format.specs.ValueLines as values
use Rattle.cert_format.proofs.ClauseForms.{IsWritableClause}
use Rattle.cert_format.proofs.Formats.{read_format, test_yes}
use Rattle.cert_format.proofs.LineNotes.{below}
use Rattle.cert_format.proofs.PrintableGroups.{terms_printable, by_printable, first_kind}
use Rattle.cert_format.proofs.LineTexts.{text_is}
use Rattle.cert_format.proofs.Writables.{IsWritableBase, IsWritableEntry, IsWritableLine, IsWritableStep, IsWritableBy, IsWritableCover, IsWritableSaturation, IsWritable, printable}
use Rattle.cert_values.specs.declared.certificate.GroundLine.{GroundLine}
use Rattle.cert_values.specs.declared.certificate.GroundStep.{GroundStep}
use Rattle.cert_values.specs.declared.certificate.By as own
use Rattle.cert_values.specs.declared.certificate.Cover as covering
use Rattle.cert_values.specs.Values.{base_of, entry_of, line_of, step_of, by_of, cover_of, first_of, refutation_of, saturation_of, covered_of}
use Rattle.cert_values.specs.Wholes.{IsWholeBase}
use Rattle.cert_items.specs.Items.{rank_of}
use Rattle.cert_items.specs.declared.group.Group.{Group}
use Rattle.cert_items.specs.declared.group.Group.TheVariants as kinds
use Rattle.cert_items.specs.declared.shape.TextShape.{TextShape}
use Rattle.cert_reader.specs.declared.certificate.Certificate.TheVariants as forms
use Rattle.cert_reader.specs.declared.groups.Groups.{Groups}
use Rattle.cert_reader.specs.Bodies.{header, refutation_in, saturation_in, is_good, IsComplete}
use Rattle.cert_reader.specs.Groups.{count_of, items_of, members_by, IsAllShown, AreGroups, base_by, first_by, refutation_by, saturation_by, covered_by, refuted_by, saturated_by}
use Rattle.cert_reader.specs.Reads.{IsTextOf, IsWholeCertificate, value_of}
use Rattle.cert_reader.proofs.Pushes.{shape_for, counts, none_of_shown}
use Rattle.cert_reader.proofs.Turns.{from_complete}
use Rattle.cert_reader.proofs.Steps.{name_is}
use Rattle.cert_format.proofs.GroupItems.{parts_good, origin_good, hint_numbers}

-- ---- what good items say of each group

clause_good : (h : Header) (c : TreeClause) (note : Note) → is_good h (record { clause = c; note = note }) ≡ true → IsWritableClause c
clause_good h c note g = test_yes c (and_parts (clause_is_printable c) (note_is_printable note) (and_parts (fits h note) _ g).1).0

note_good : (h : Header) (c : TreeClause) (note : Note) → is_good h (record { clause = c; note = note }) ≡ true → note_is_printable note ≡ true
note_good h c note g = (and_parts (clause_is_printable c) (note_is_printable note) (and_parts (fits h note) _ g).1).1

-- in the first format no member is a part of a conclusion
first_members : (h : Header) → h.format ≡ 1 → (es : List Entry) → list_all (is_good h) (member_items es) ≡ true → All (λ e. IsFirstOrigin e.origin) es
first_members h v [] g = All-nil (λ (e : Entry). IsFirstOrigin e.origin)
first_members h v (x ∷ es) g =
    let a = and_parts (is_good h (record { clause = x.clause; note = member x.origin })) _ g in
    let b = and_parts (fits h (member x.origin)) _ a.0 in
    let c = and_parts h.refutation (fits_origin h.format x.origin) b.0 in
    All-cons (λ (e : Entry). IsFirstOrigin e.origin) x es (first_kind x.origin (ap (λ (w : ℕ). fits_origin w x.origin) (sym v) ∙ c.1)) (first_members h v es a.1)

first_selected : (h : Header) → h.format ≡ 1 → (es : List Entry) (ps : List ℕ) → length ps ≡ length es → list_all (is_good h) (selected_items es ps) ≡ true → All (λ e. IsFirstOrigin e.origin) es
first_selected h v [] ps e g = All-nil (λ (e : Entry). IsFirstOrigin e.origin)
first_selected h v (x ∷ es) [] e g = absurd (omega arith)
first_selected h v (x ∷ es) (p ∷ ps) e g =
    let a = and_parts (is_good h (record { clause = x.clause; note = selected x.origin p })) _ g in
    let b = and_parts (fits h (selected x.origin p)) _ a.0 in
    let c = and_parts (not h.refutation) (fits_origin h.format x.origin) b.0 in
    All-cons (λ (e : Entry). IsFirstOrigin e.origin) x es (first_kind x.origin (ap (λ (w : ℕ). fits_origin w x.origin) (sym v) ∙ c.1)) (first_selected h v es ps (omega arith) a.1)

inputs_good : (h : Header) (cs : List TreeClause) (ws : List (List ℕ)) → length ws ≡ length cs → list_all (is_good h) (input_items cs ws) ≡ true → All IsWritableClause cs × All (λ n. IsTrue (is_readable_name n)) ws
inputs_good h [] [] e g = (All-nil IsWritableClause, All-nil (λ (n : List ℕ). IsTrue (is_readable_name n)))
inputs_good h [] (w ∷ ws) e g = absurd (omega arith)
inputs_good h (c ∷ cs) [] e g = absurd (omega arith)
inputs_good h (c ∷ cs) (w ∷ ws) e g =
    let a = and_parts (is_good h (record { clause = c; note = named w })) _ g in
    let r = inputs_good h cs ws (omega arith) a.1 in
    (All-cons IsWritableClause c cs (clause_good h c (named w) a.0) r.0, All-cons (λ (n : List ℕ). IsTrue (is_readable_name n)) w ws (note_good h c (named w) a.0) r.1)

axioms_good : (h : Header) (cs : List TreeClause) → list_all (is_good h) (axiom_items cs) ≡ true → All IsWritableClause cs
axioms_good h [] g = All-nil IsWritableClause
axioms_good h (c ∷ cs) g = let a = and_parts (is_good h (record { clause = c; note = equality })) _ g in All-cons IsWritableClause c cs (clause_good h c equality a.0) (axioms_good h cs a.1)

grounds_good : (h : Header) (cs : List TreeClause) → list_all (is_good h) (ground_items cs) ≡ true → All IsWritableClause cs
grounds_good h [] g = All-nil IsWritableClause
grounds_good h (c ∷ cs) g = let a = and_parts (is_good h (record { clause = c; note = ground_of })) _ g in All-cons IsWritableClause c cs (clause_good h c ground_of a.0) (grounds_good h cs a.1)

lines_good : (h : Header) (gs : List format.GroundLine) → list_all (is_good h) (line_items gs) ≡ true → All IsWritableLine gs
lines_good h [] g = All-nil IsWritableLine
lines_good h (x ∷ gs) g =
    let a = and_parts (is_good h (record { clause = x.clause; note = ground_by x.input x.terms })) _ g in
    let n = and_parts (is_number x.input) (list_all is_printable x.terms) (note_good h x.clause (ground_by x.input x.terms) a.0) in
    All-cons IsWritableLine x gs (record { clause = clause_good h x.clause (ground_by x.input x.terms) a.0; input = below x.input n.0; terms = terms_printable x.terms n.1 }) (lines_good h gs a.1)

shown_good : (h : Header) (cs : List TreeClause) (bs : List By) → length bs ≤ length cs → list_all (is_good h) (shown_items cs bs) ≡ true → All IsWritableBy bs
shown_good h [] [] e g = All-nil IsWritableBy
shown_good h (c ∷ cs) [] e g = All-nil IsWritableBy
shown_good h [] (b ∷ bs) e g = absurd (omega arith)
shown_good h (c ∷ cs) (b ∷ bs) e g =
    let a = and_parts (is_good h (record { clause = c; note = input_by b })) _ g in
    All-cons IsWritableBy b bs (by_printable b (note_good h c (input_by b) a.0)) (shown_good h cs bs (omega arith) a.1)

covers_good : (h : Header) (vs : List format.Cover) → list_all (is_good h) (cover_items vs) ≡ true → All IsWritableCover vs
covers_good h [] g = All-nil IsWritableCover
covers_good h (v ∷ vs) g =
    let note = side_by v.left v.right v.side v.by in
    let a = and_parts (is_good h (record { clause = v.clause; note = note })) _ g in
    let l = and_parts (is_number v.left) _ (note_good h v.clause note a.0) in
    let r = and_parts (is_number v.right) (by_is_printable v.by) l.1 in
    All-cons IsWritableCover v vs (record { left = below v.left l.0; right = below v.right r.0; clause = clause_good h v.clause note a.0; by = by_printable v.by r.1 }) (covers_good h vs a.1)

members_good : (h : Header) (es : List Entry) → list_all (is_good h) (member_items es) ≡ true → All IsWritableEntry es
members_good h [] g = All-nil IsWritableEntry
members_good h (x ∷ es) g =
    let a = and_parts (is_good h (record { clause = x.clause; note = member x.origin })) _ g in
    All-cons IsWritableEntry x es (record { clause = clause_good h x.clause (member x.origin) a.0; origin = origin_good x.origin (note_good h x.clause (member x.origin) a.0) }) (members_good h es a.1)

selected_good : (h : Header) (es : List Entry) (ps : List ℕ) → length ps ≡ length es → list_all (is_good h) (selected_items es ps) ≡ true → All IsWritableEntry es × All IsNumber ps
selected_good h [] [] e g = (All-nil IsWritableEntry, All-nil IsNumber)
selected_good h [] (p ∷ ps) e g = absurd (omega arith)
selected_good h (x ∷ es) [] e g = absurd (omega arith)
selected_good h (x ∷ es) (p ∷ ps) e g =
    let a = and_parts (is_good h (record { clause = x.clause; note = selected x.origin p })) _ g in
    let n = and_parts (origin_is_printable x.origin) (is_number p) (note_good h x.clause (selected x.origin p) a.0) in
    let r = selected_good h es ps (omega arith) a.1 in
    (All-cons IsWritableEntry x es (record { clause = clause_good h x.clause (selected x.origin p) a.0; origin = origin_good x.origin n.0 }) r.0, All-cons IsNumber p ps (below p n.1) r.1)

hints_good : (hs : List Cited) → note_is_printable (shown_by hs) ≡ true → (hs ≢ []) × All (λ h. IsNumber (cited_number h)) hs
hints_good [] p = absurd cc
hints_good (k ∷ hs) p = (λ q. cc, hint_numbers (k ∷ hs) p)

steps_good : (h : Header) (ss : List (Step Tree)) → list_all (is_good h) (step_items ss) ≡ true → All IsWritableStep ss
steps_good h [] g = All-nil IsWritableStep
steps_good h (s ∷ ss) g =
    let a = and_parts (is_good h (record { clause = s.clause; note = shown_by s.hints })) _ g in
    let k = hints_good s.hints (note_good h s.clause (shown_by s.hints) a.0) in
    All-cons IsWritableStep s ss (record { clause = clause_good h s.clause (shown_by s.hints) a.0; hinted = k.0; hints = k.1 }) (steps_good h ss a.1)

-- ---- the groups, each with what its items say

-- no more than a number of a line
mapped_length : {A B : Type 0} (f : A → B) (xs : List A) (n : ℕ) → length xs ≤ n → n < 2 ^ 64 → length (map f xs) < 2 ^ 64
mapped_length f xs n e h = let k = length-map xs f in omega arith

-- the items of the shape are good under the header, and few
record AreGood (s : TextShape) (f : Forest) (g : Groups) (h : Header) : Type 0 where
  pub groups : AreGroups s f g
  pub good : list_all (is_good h) (items_of s f g) ≡ true
  pub few : (k : ℕ) → count k (items_of s f g) < 2 ^ 64

module _ (r : Bool) (v : ℕ) (f : Forest) (g : Groups) (h : Header) (p : AreGood (shape_for r v) f g h) where
  abbrev input_part : List Item
  input_part = input_items (map (clause_at f) g.inputs) g.names

  abbrev axiom_part : List Item
  axiom_part = axiom_items (map (clause_at f) g.axioms)

  abbrev member_part : List Item
  member_part = members_by (shape_for r v) (map (entry_of f) g.members) g.places

  abbrev ground_part : List Item
  ground_part = ground_items (map (clause_at f) g.grounds)

  abbrev line_part : List Item
  line_part = line_items (map (line_of f) g.lines)

  abbrev step_part : List Item
  step_part = step_items (map (step_of f) g.steps)

  abbrev base : List TreeClause
  base = map (clause_at f) g.inputs ++ map (clause_at f) g.axioms

  abbrev shown_part : List Item
  shown_part = shown_items base (map (by_of f) g.shown)

  abbrev cover_part : List Item
  cover_part = cover_items (map (cover_of f) g.covers)

  behind_a : (list_all (is_good h) input_part ≡ true) × (list_all (is_good h) (axiom_part ++ (member_part ++ ((ground_part ++ line_part) ++ (step_part ++ (shown_part ++ cover_part))))) ≡ true)
  behind_a = parts_good (is_good h) input_part (axiom_part ++ (member_part ++ ((ground_part ++ line_part) ++ (step_part ++ (shown_part ++ cover_part))))) p.good

  behind_b : (list_all (is_good h) axiom_part ≡ true) × (list_all (is_good h) (member_part ++ ((ground_part ++ line_part) ++ (step_part ++ (shown_part ++ cover_part)))) ≡ true)
  behind_b = parts_good (is_good h) axiom_part (member_part ++ ((ground_part ++ line_part) ++ (step_part ++ (shown_part ++ cover_part)))) behind_a.1

  behind_c : (list_all (is_good h) member_part ≡ true) × (list_all (is_good h) ((ground_part ++ line_part) ++ (step_part ++ (shown_part ++ cover_part))) ≡ true)
  behind_c = parts_good (is_good h) member_part ((ground_part ++ line_part) ++ (step_part ++ (shown_part ++ cover_part))) behind_b.1

  behind_d : (list_all (is_good h) (ground_part ++ line_part) ≡ true) × (list_all (is_good h) (step_part ++ (shown_part ++ cover_part)) ≡ true)
  behind_d = parts_good (is_good h) (ground_part ++ line_part) (step_part ++ (shown_part ++ cover_part)) behind_c.1

  behind_e : (list_all (is_good h) step_part ≡ true) × (list_all (is_good h) (shown_part ++ cover_part) ≡ true)
  behind_e = parts_good (is_good h) step_part (shown_part ++ cover_part) behind_d.1

  named_is : length g.names ≡ length (map (clause_at f) g.inputs)
  named_is = p.groups.named ∙ sym (length-map g.inputs (clause_at f))

  few_of : (k : Group) (n : ℕ) → n ≤ count_of k g → n < 2 ^ 64
  few_of k n le = let c = counts r v f g p.groups k in let l = p.few (rank_of k) in omega arith

  input_list : All IsWritableClause (map (clause_at f) g.inputs) × All (λ n. IsTrue (is_readable_name n)) g.names
  input_list = inputs_good h (map (clause_at f) g.inputs) g.names named_is behind_a.0

  -- the base, where the members are writable
  writable_base : All IsWritableEntry (map (entry_of f) g.members) → IsWritableBase (base_of (base_by f g))
  writable_base members = record {
    inputs = input_list.0;
    named = named_is;
    names = input_list.1;
    axioms = axioms_good h (map (clause_at f) g.axioms) behind_b.0;
    members = members;
    input_count = mapped_length (clause_at f) g.inputs (length g.inputs) (omega arith) (few_of kinds.Input (length g.inputs) (omega arith));
    axiom_count = mapped_length (clause_at f) g.axioms (length g.axioms) (omega arith) (few_of kinds.Axiom (length g.axioms) (omega arith));
    member_count = mapped_length (entry_of f) g.members (length g.members) (omega arith) (few_of kinds.Member (length g.members) (omega arith));
  }

  ground_list : All IsWritableClause (map (clause_at f) g.grounds)
  ground_list = grounds_good h (map (clause_at f) g.grounds) (parts_good (is_good h) ground_part line_part behind_d.0).0

  line_list : All IsWritableLine (map (line_of f) g.lines)
  line_list = lines_good h (map (line_of f) g.lines) (parts_good (is_good h) ground_part line_part behind_d.0).1

  step_list : All IsWritableStep (map (step_of f) g.steps)
  step_list = steps_good h (map (step_of f) g.steps) behind_e.0

  few_shown : length (map (by_of f) g.shown) ≤ length base
  few_shown = let a = length-append (map (clause_at f) g.inputs) (map (clause_at f) g.axioms) in let b = length-map g.inputs (clause_at f) in let c = length-map g.axioms (clause_at f) in let d = length-map g.shown (by_of f) in let e = p.groups.few in omega arith

  shown_list : All IsWritableBy (map (by_of f) g.shown)
  shown_list = shown_good h base (map (by_of f) g.shown) few_shown (parts_good (is_good h) shown_part cover_part behind_e.1).0

  cover_list : All IsWritableCover (map (cover_of f) g.covers)
  cover_list = covers_good h (map (cover_of f) g.covers) (parts_good (is_good h) shown_part cover_part behind_e.1).1

-- ---- the certificates can be written

module _ (v : ℕ) (f : Forest) (g : Groups) (bot : Sym) (h : Header) (constant_is : is_constant bot ≡ true) (readable : is_readable_name bot.name ≡ true) (p : AreGood (refutation_in v) f g h) where
  member_list : All IsWritableEntry (map (entry_of f) g.members)
  member_list = members_good h (map (entry_of f) g.members) (behind_c true v f g h p).0

  first_writable : IsWritable (format.first_refutation (first_of (first_by f g bot)))
  first_writable = record {
    base = writable_base true v f g h p member_list;
    constant = constant_is;
    bot_name = readable;
    grounds = ground_list true v f g h p;
    steps = step_list true v f g h p;
    ground_count = mapped_length (clause_at f) g.grounds (length g.grounds) (omega arith) (few_of true v f g h p kinds.Ground (length g.grounds) (omega arith));
    step_count = mapped_length (step_of f) g.steps (length g.steps) (omega arith) (few_of true v f g h p kinds.Step (length g.steps) (omega arith));
  }

  refutation_writable : IsWritable (format.refutation (refutation_of (refutation_by f g bot)))
  refutation_writable = record {
    base = writable_base true v f g h p member_list;
    constant = constant_is;
    bot_name = readable;
    grounds = line_list true v f g h p;
    steps = step_list true v f g h p;
    ground_count = mapped_length (line_of f) g.lines (length g.lines) (omega arith) (few_of true v f g h p kinds.Ground (length g.lines) (omega arith));
    step_count = mapped_length (step_of f) g.steps (length g.steps) (omega arith) (few_of true v f g h p kinds.Step (length g.steps) (omega arith));
  }

module _ (v : ℕ) (f : Forest) (g : Groups) (h : Header) (p : AreGood (saturation_in v) f g h) where
  placed_is : length g.places ≡ length (map (entry_of f) g.members)
  placed_is = p.groups.form.placed refl ∙ sym (length-map g.members (entry_of f))

  selected_list : All IsWritableEntry (map (entry_of f) g.members) × All IsNumber g.places
  selected_list = selected_good h (map (entry_of f) g.members) g.places placed_is (behind_c false v f g h p).0

  saturation_writable : IsWritableSaturation (saturation_of (saturation_by f g))
  saturation_writable = record { base = writable_base false v f g h p selected_list.0; placed = placed_is; places = selected_list.1 }

  covered_writable : IsAllShown g → IsWritable (format.covered (covered_of (covered_by f g)))
  covered_writable all = record {
    saturation = saturation_writable;
    each = (let a = length-map g.shown (by_of f) in let b = length-map g.inputs (clause_at f) in let c = length-map g.axioms (clause_at f) in omega arith);
    shown = shown_list false v f g h p;
    covers = cover_list false v f g h p;
    shown_count = mapped_length (by_of f) g.shown (length g.shown) (omega arith) (few_of false v f g h p kinds.Shown (length g.shown) (omega arith));
    cover_count = mapped_length (cover_of f) g.covers (length g.covers) (omega arith) (few_of false v f g h p kinds.Cover (length g.covers) (omega arith));
  }

-- ---- their formats

later : (v : ℕ) → is_known v ≡ true → nat_eq v 1 ≡ false → (v ≡ 2) ⊎ (v ≡ 3)
later v k e = elim (read_format v k) [ inl f ↦ absurd (let q : nat_eq v 1 ≡ true = ap (λ (w : ℕ). nat_eq w 1) f in cc) | inr f ↦ f ]

-- ---- the items of the certificates

module _ (v : ℕ) (f : Forest) (g : Groups) where
  abbrev front : Bool → List Item → List Item
  front r rest = input_items (map (clause_at f) g.inputs) g.names ++ (axiom_items (map (clause_at f) g.axioms) ++ (members_by (shape_for r v) (map (entry_of f) g.members) g.places ++ rest))

  abbrev grounds_of : List (List (Signed ℕ)) → List GroundLine → List Item
  grounds_of cs ls = ground_items (map (clause_at f) cs) ++ line_items (map (line_of f) ls)

  abbrev steps_of : List GroundStep → List Item
  steps_of ss = step_items (map (step_of f) ss)

  abbrev covering_of : List own.By → List covering.Cover → List Item
  covering_of bs vs = shown_items (map (clause_at f) g.inputs ++ map (clause_at f) g.axioms) (map (by_of f) bs) ++ cover_items (map (cover_of f) vs)

  -- where nothing is shown and covered
  no_covering : g.shown ≡ [] → g.covers ≡ [] → covering_of g.shown g.covers ≡ []
  no_covering s c = ap₂ covering_of s c ∙ ap (λ (z : List Item). z ++ []) (none_of_shown (map (clause_at f) g.inputs ++ map (clause_at f) g.axioms))

  first_items : (bot : Sym) → AreGroups (refutation_in v) f g → g.lines ≡ [] → items_of (refutation_in v) f g ≡ values.items_of (format.first_refutation (first_of (first_by f g bot)))
  first_items bot p none =
      ap (front true)
      (ap₂ (λ (x y : List Item). x ++ (steps_of g.steps ++ y)) (ap (grounds_of g.grounds) none ∙ append-nil (ground_items (map (clause_at f) g.grounds))) (no_covering (p.form.shown refl) (p.form.covers refl))
      ∙ ap (λ (z : List Item). ground_items (map (clause_at f) g.grounds) ++ z) (append-nil (steps_of g.steps)))

  refutation_items : (bot : Sym) → AreGroups (refutation_in v) f g → g.grounds ≡ [] → items_of (refutation_in v) f g ≡ values.items_of (format.refutation (refutation_of (refutation_by f g bot)))
  refutation_items bot p none =
      ap (front true)
      (ap₂ (λ (x y : List Item). x ++ (steps_of g.steps ++ y)) (ap (λ (cs : List (List (Signed ℕ))). grounds_of cs g.lines) none) (no_covering (p.form.shown refl) (p.form.covers refl))
      ∙ ap (λ (z : List Item). line_items (map (line_of f) g.lines) ++ z) (append-nil (steps_of g.steps)))

  -- a saturation has neither ground clauses nor steps
  no_grounds : AreGroups (saturation_in v) f g → grounds_of g.grounds g.lines ++ (steps_of g.steps ++ covering_of g.shown g.covers) ≡ covering_of g.shown g.covers
  no_grounds p = ap₂ (λ (x y : List Item). x ++ (y ++ covering_of g.shown g.covers)) (ap₂ grounds_of (p.form.grounds refl) (p.form.lines refl)) (ap steps_of (p.form.steps refl))

  covered_items : AreGroups (saturation_in v) f g → items_of (saturation_in v) f g ≡ values.items_of (format.covered (covered_of (covered_by f g)))
  covered_items p = ap (front false) (no_grounds p)

  saturation_items : AreGroups (saturation_in v) f g → g.shown ≡ [] → g.covers ≡ [] → items_of (saturation_in v) f g ≡ values.items_of (format.saturation (saturation_of (saturation_by f g)))
  saturation_items p s c =
      ap (front false) (no_grounds p ∙ no_covering s c)
      ∙ ap (λ (z : List Item). input_items (map (clause_at f) g.inputs) g.names ++ (axiom_items (map (clause_at f) g.axioms) ++ z)) (append-nil (selected_items (map (entry_of f) g.members) g.places))

-- ---- the text is the certificate's

good_of : (text : List ℕ) (s : TextShape) (f : Forest) (g : Groups) (h : Header) → AreGroups s f g → IsComplete text h (items_of s f g) → AreGood s f g h
good_of text s f g h p c = record { groups = p; good = c.good; few = c.few }

module _ (text : List ℕ) (v : ℕ) (f : Forest) (g : Groups) (name : List ℕ) (known : is_known v ≡ true) where
  module _ (bot : Sym) (constant_is : is_constant bot ≡ true) (readable : is_readable_name bot.name ≡ true) (p : AreGroups (refutation_in v) f g)
      (c : IsComplete text (header (refutation_in v) name bot.name) (items_of (refutation_in v) f g)) where
    abbrev h : Header
    h = header (refutation_in v) name bot.name

    abbrev lines_with : List Item → List Line
    lines_with is = status true name ∷ opening true name ∷ version v ∷ constant bot.name ∷ (item_lines [] is ++ closing true name ∷ [])

    refuted_name : IsTextName name
    refuted_name = name_is true name (opening true name ∷ version v ∷ constant bot.name ∷ (item_lines [] (items_of (refutation_in v) f g) ++ closing true name ∷ [])) (done h (items_of (refutation_in v) f g)) c.leads

    first_read : nat_eq v 1 ≡ true → IsTextOf text v name (value_of (forms.First (first_by f g bot)))
    first_read e =
        let w = format.first_refutation (first_of (first_by f g bot)) in
        let one = number_is v 1 e in
        let q = good_of text (refutation_in v) f g h p c in
        record {
          name_is = refuted_name;
          printable = printable v w (one, first_members h one (map (entry_of f) g.members) (behind_c true v f g h q).0) (first_writable v f g bot h constant_is readable q);
          is = c.text_is ∙ ap (λ (is : List Item). text_of_lines (lines_with is)) (first_items v f g bot p (p.form.lines (ap not e))) ∙ sym (text_is v name w);
        }

    later_read : nat_eq v 1 ≡ false → IsTextOf text v name (value_of (forms.Refutation (refutation_by f g bot)))
    later_read e =
        let w = format.refutation (refutation_of (refutation_by f g bot)) in
        let q = good_of text (refutation_in v) f g h p c in
        record {
          name_is = refuted_name;
          printable = printable v w (later v known e) (refutation_writable v f g bot h constant_is readable q);
          is = c.text_is ∙ ap (λ (is : List Item). text_of_lines (lines_with is)) (refutation_items v f g bot p (p.form.grounds e)) ∙ sym (text_is v name w);
        }

    pub refutation_read : IsTextOf text v name (value_of (refuted_by v f g bot))
    refutation_read = by (nat_eq v 1) refl
      where
        by : (t : Bool) → nat_eq v 1 ≡ t → IsTextOf text v name (value_of (cond t (forms.First (first_by f g bot)) (forms.Refutation (refutation_by f g bot))))
        by true e = first_read e
        by false e = later_read e

  module _ (p : AreGroups (saturation_in v) f g) (c : IsComplete text (header (saturation_in v) name []) (items_of (saturation_in v) f g)) where
    abbrev k : Header
    k = header (saturation_in v) name []

    abbrev saturation_lines : List Item → List Line
    saturation_lines is = status false name ∷ opening false name ∷ version v ∷ (item_lines [] is ++ closing false name ∷ [])

    saturated_name : IsTextName name
    saturated_name = name_is false name (opening false name ∷ version v ∷ (item_lines [] (items_of (saturation_in v) f g) ++ closing false name ∷ [])) (done k (items_of (saturation_in v) f g)) c.leads

    covered_read : nat_eq v 3 ≡ true → IsTextOf text v name (value_of (forms.Covered (covered_by f g)))
    covered_read e =
        let w = format.covered (covered_of (covered_by f g)) in
        let q = good_of text (saturation_in v) f g k p c in
        let all = from_complete k (saturation_in v) f g refl p c.complete e in
        record {
          name_is = saturated_name;
          printable = printable v w (number_is v 3 e) (covered_writable v f g k q all);
          is = c.text_is ∙ ap (λ (is : List Item). text_of_lines (saturation_lines is)) (covered_items v f g p) ∙ sym (text_is v name w);
        }

    plain_read : nat_eq v 3 ≡ false → IsTextOf text v name (value_of (forms.Saturation (saturation_by f g)))
    plain_read e =
        let w = format.saturation (saturation_of (saturation_by f g)) in
        let q = good_of text (saturation_in v) f g k p c in
        let origins = λ (one : v ≡ 1). first_selected k one (map (entry_of f) g.members) g.places (placed_is v f g k q) (behind_c false v f g k q).0 in
        let has : HasFormat v w = elim (read_format v known) [ inl one ↦ inl (one, origins one) | inr (inl two) ↦ inr two | inr (inr three) ↦ absurd (let z : nat_eq v 3 ≡ true = ap (λ (n : ℕ). nat_eq n 3) three in cc) ] in
        record {
          name_is = saturated_name;
          printable = printable v w has (saturation_writable v f g k q);
          is = c.text_is ∙ ap (λ (is : List Item). text_of_lines (saturation_lines is)) (saturation_items v f g p (p.form.shown e) (p.form.covers e)) ∙ sym (text_is v name w);
        }

    pub saturation_read : IsTextOf text v name (value_of (saturated_by v f g))
    saturation_read = by (nat_eq v 3) refl
      where
        by : (t : Bool) → nat_eq v 3 ≡ t → IsTextOf text v name (value_of (cond t (forms.Covered (covered_by f g)) (forms.Saturation (saturation_by f g))))
        by true e = covered_read e
        by false e = plain_read e

-- ---- the ids are those of the bank

pub refutation_whole : (v : ℕ) (f : Forest) (g : Groups) (bot : Sym) → AreGroups (refutation_in v) f g → IsWholeCertificate (refuted_by v f g bot)
refutation_whole v f g bot p = by (nat_eq v 1)
  where
    base_whole : IsWholeBase (base_by f g)
    base_whole = record { bank = p.bank; inputs = p.inputs; axioms = p.axioms; members = p.members }

    by : (t : Bool) → IsWholeCertificate (cond t (forms.First (first_by f g bot)) (forms.Refutation (refutation_by f g bot)))
    by true = record { base = base_whole; grounds = p.grounds; steps = p.steps }
    by false = record { base = base_whole; grounds = p.lines; steps = p.steps }

pub saturation_whole : (v : ℕ) (f : Forest) (g : Groups) → AreGroups (saturation_in v) f g → IsWholeCertificate (saturated_by v f g)
saturation_whole v f g p = by (nat_eq v 3)
  where
    base_whole : IsWholeBase (base_by f g)
    base_whole = record { bank = p.bank; inputs = p.inputs; axioms = p.axioms; members = p.members }

    by : (t : Bool) → IsWholeCertificate (cond t (forms.Covered (covered_by f g)) (forms.Saturation (saturation_by f g)))
    by true = record { cert = base_whole; shown = p.shown; covers = p.covers }
    by false = base_whole
